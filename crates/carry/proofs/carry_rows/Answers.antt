-- `carry::carry_rows` meets its contract: gathered, merged behind that, and built.
use native.Mathlib.Omega.{arith}
use mathlib.Core.Path.{refl}
use lib.ListN.{length}
use Prim.Native.Nat.{◌+◌, ◌*◌, ◌≤◌}
use Rattle.block.proofs.Making.{blocks-most}
use Rattle.tree.proofs.Limited.{live-limited}
use Rattle.rows.proofs.Merged.{merged-rises, merged-limited}
use Rattle.carry.proofs.Building.{part-wide, carried-inside, live-rising, carried-broken, carried-mergeable, carried-over, carried-segment, carried-built}
use Rattle.carry.proofs.carry_rows.Goals as goal
use Rattle.carry.proofs.carry_rows.Goals.{In-Some-merge}

pub returns-in_default : goal.returns-in_default
returns-in_default c = carried-broken _ c.in_default.ensures

pub merge-requires : goal.merge-requires
merge-requires c =
    (carried-mergeable c.requires.0 c.in-Some.ensures _ _ refl c.capacity_of-most.ensures, c.requires.1)

-- where the rows' spots end
end_low : (c : In-Some-merge) → 12 * c.capacity_of-most.result + 12 * c.in-Some-merge.spots ≤ 1572480
end_low c = omega (arith, c.in-Some-merge.ensures.few, c.capacity_of-most.ensures, blocks-most (length c.args.table.now) c.requires.0.sized)

pub overflow_mul-end : goal.overflow_mul-end
overflow_mul-end c = omega (arith, end_low (goal.at.overflow_mul-end c).In-Some-merge)

pub overflow_add-end : goal.overflow_add-end
overflow_add-end c = omega (arith, end_low (goal.at.overflow_add-end c).In-Some-merge)

pub slice_bounds-build_table-end : goal.slice_bounds-build_table-end
slice_bounds-build_table-end c =
    carried-inside c.requires.0 c.in-Some.ensures refl c.capacity_of-most.ensures c.in-Some-merge.ensures

pub build_table-requires : goal.build_table-requires
build_table-requires c =
    let got = c.in-Some.ensures in
    let merged = c.in-Some-merge.ensures in
    let rows = c.requires.1 in (
      c.requires.0.sized,
      omega (arith, merged.few, c.capacity_of-most.ensures),
      carried-segment c.requires.0 got refl c.capacity_of-most.ensures merged _ (part-wide (12 * c.capacity_of-most.result) (12 * c.in-Some-merge.spots))
          (merged-rises _ _ rows.rises (live-rising c.requires.0 got)) (merged-limited _ _ rows.fit (live-limited _)),
    )

pub returns-in_default-merge : goal.returns-in_default-merge
returns-in_default-merge c =
    carried-over c.requires.0 c.in-Some.ensures refl c.capacity_of-most.ensures c.in_default-merge.ensures

pub returns : goal.returns
returns c =
    carried-built c.requires.0 c.in-Some.ensures refl c.capacity_of-most.ensures c.in-Some-merge.ensures _ (part-wide (12 * c.capacity_of-most.result) (12 * c.in-Some-merge.spots)) c.build_table.ensures
