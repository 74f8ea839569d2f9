-- `frontier::spot_by` meets its contract.
use Rattle.frontier.proofs.Spots.{Sizes, part-sizes, spots-fit, spots-limited, spot-at, key-by}
use Rattle.frontier.specs.Picks.{spots_at}
use Rattle.spot.specs.Keys.{limited}
use Rattle.spot.specs.Spots.{key_at, spot_at}
use lib.ListN.{length}
use Prim.Native.Nat.{ℕ, ◌+◌, ◌*◌, ◌≤◌}
use mathlib.Core.Path.{◌≡◌, sym, ap, ◌∙◌}
use native.Mathlib.Omega.{arith}
use Rattle.frontier.proofs.spot_by.Goals as goal
use Rattle.frontier.proofs.spot_by.Goals.{After-front_of-h, After-points_from}

-- the node's numbers
known : (c : After-front_of-h) → let a = c.args in Sizes a.t.now a.b c.front_of-h.result
known c = part-sizes c.args.t.now c.args.b c.requires.0 c.front_of-h.ensures.0

-- where its spots begin
start : (c : After-points_from) → let a = c.args in a.b * 2048 + c.points_from.result ≡ spots_at a.t.now a.b
start c = omega (arith, ((part-sizes c.args.t.now c.args.b c.requires.0 c.front_of-h.ensures.0)).children, c.points_from.ensures)

-- the spot lies in the table
few : (c : After-points_from) → let a = c.args in spots_at a.t.now a.b + 12 * a.j + 12 ≤ length a.t.now
few c = omega (arith, c.requires.0.inside, spots-fit c.args.t.now c.args.b c.requires.0 c.args.j c.requires.1)

pub points_from-requires : goal.points_from-requires
points_from-requires c = omega (arith, (known (goal.at.points_from-requires c).After-front_of-h).runs.used)

pub overflow_mul-j : goal.overflow_mul-j
overflow_mul-j c = omega (arith, few (goal.at.overflow_mul-j c).After-points_from)

pub overflow_add-from-2 : goal.overflow_add-from-2
overflow_add-from-2 c = omega (arith, few (goal.at.overflow_add-from-2 c).After-points_from, start (goal.at.overflow_add-from-2 c).After-points_from)

pub read_spot-requires : goal.read_spot-requires
read_spot-requires c =
    let t = c.args.t.now in (
      omega (arith, few (goal.at.read_spot-requires c).After-points_from, start (goal.at.read_spot-requires c).After-points_from),
      ap (λ (x : ℕ). limited (key_at t (x + 12 * c.args.j))) (start (goal.at.read_spot-requires c).After-points_from) ∙ sym (ap limited (key-by t c.args.b c.args.j))
          ∙ spots-limited t c.args.b c.requires.0 (spot-at t c.args.b c.requires.0 c.args.j c.requires.1),
    )

pub returns : goal.returns
returns c =
    let a = c.args in
    c.read_spot.ensures.0 ∙ ap (λ (x : ℕ). spot_at a.t.now (x + 12 * a.j)) (start (goal.at.returns c).After-points_from)
