-- `script::make_calls` meets its contract: after i turns the first i calls were made, and the log has come to the i-th part.
use mathlib.Core.Path.{◌≡◌, refl, ◌∙◌}
use Prim.Native.Nat.{ℕ, ◌+◌, ◌-◌, ◌*◌, ◌≤◌}
use native.Mathlib.Omega.{arith}
use lib.ListN.{length, drop, length-take, length-drop}
use borrow.Rule.Slice.PartMut.{same_len_mid}
use Rattle.script.proofs.Turns.{part-fits, start, next, ended}
use Rattle.script.proofs.make_calls.Goals as goal
use Rattle.script.proofs.make_calls.Goals.{In-loop-i}

-- the part of this turn is within the log
room : (c : In-loop-i)
    → c.loop-i.at + c.args.part ≤ length c.loop-i.log
room c =
    part-fits c.args.part c.loop-i.i c.args.n c.loop-i.at (length c.loop-i.log) c.loop-i-test.true
    c.loop-i.invariant.1
    (omega (arith, c.requires.2, c.loop-i.invariant.2))

pub loop-i-init : goal.loop-i-init
loop-i-init c = (omega arith, omega arith, refl, start _ _ _ _ _ _ _ _)

pub overflow_mul-i : goal.overflow_mul-i
overflow_mul-i c = omega (arith, c.requires.0)

pub turn-requires : goal.turn-requires
turn-requires c =
    let q = c.loop-i in
    let k : ℕ = q.at + c.args.part - q.at in
    (omega (arith, c.loop-i-test.true, c.requires.0), omega (arith, c.requires.1, room (goal.at.turn-requires c).In-loop-i, length-take k (drop q.at q.log), length-drop q.at q.log))

pub loop-i-preserved : goal.loop-i-preserved
loop-i-preserved c =
    let turn = c.turn in
    let q = c.loop-i in
    let part : ℕ = c.args.part in
    let k : ℕ = q.at + part - q.at in
    let r : q.at + part ≤ length q.log = room (goal.at.loop-i-preserved c).In-loop-i in
    let size : k ≡ 12 + (part - 12) = omega (arith, c.requires.1) in
    let fits : q.at + k ≤ length q.log = omega arith in
    let end : q.at + part ≡ q.at + k = omega arith in
    let more : q.i + 1 ≤ c.args.n = omega (arith, c.loop-i-test.true) in
    let place : q.at + part ≡ part * (q.i + 1) = omega (arith, q.invariant.1) in
    let p = turn.new.part in
    let same = turn.auto.part in (
      more,
      place,
      same_len_mid q.at k q.log p same ∙ q.invariant.2,
      next _ _ _ _ _ _ _ _ _ _ _ q.invariant.3 k size fits _ _ _ _ p turn.ensures (q.at + part) end same turn.auto.table turn.auto.scratch turn.auto.read_map
          turn.auto.counts,
    )

pub returns : goal.returns
returns c = ended _ _ _ _ _ _ _ _ _ _ _ _ c.loop-i.invariant.3 c.loop-i.invariant.0 (omega (arith, c.loop-i-test.false))

pub overflow_add-end : goal.overflow_add-end
overflow_add-end c = omega (arith, room (goal.at.overflow_add-end c).In-loop-i)

pub slice_bounds-turn-end : goal.slice_bounds-turn-end
slice_bounds-turn-end c = omega (arith, room (goal.at.slice_bounds-turn-end c).In-loop-i)
