-- `top::give_above` meets its contract: each turn gives the spot of the first row, or no spot reaches the floor.
use mathlib.Core.Logic.{inr}
use mathlib.Core.Path.{◌∙◌}
use Prim.Native.Nat.{◌/◌, ◌≤◌}
use native.Mathlib.Omega.{arith}
use Rattle.top.specs.Rows.{first_key}
use Rattle.top.proofs.Gives.{give-on, give-step, give_at, leads, movable}
use Rattle.top.proofs.give_above.Goals as goal

pub slice_copy_out-row : goal.slice_copy_out-row
slice_copy_out-row c =
    let p = c.requires in
    let l = c.loop-j in
    omega (arith, (give_at p l.invariant.2).headed.held.room, (give-on l.j c.args.k l.left c.loop-j-test.true).1)

pub returns-then-row-floor : goal.returns-then-row-floor
returns-then-row-floor c =
    let l = c.loop-j in
    record { passes = l.invariant.2; ends = inr (inr (omega (arith, c.if-row-floor.true))) }

pub lead-s-requires : goal.lead-s-requires
lead-s-requires c =
    let p = c.requires in
    let l = c.loop-j in
    let on = c.loop-j-test in
    leads p.few p.chain (give_at p l.invariant.2) (give-on l.j c.args.k l.left on.true).1

pub put_out-requires : goal.put_out-requires
put_out-requires c =
    let p = c.requires in
    let l = c.loop-j in
    omega (arith, p.fits, l.invariant.1)

pub overflow_sub-k : goal.overflow_sub-k
overflow_sub-k c =
    let l = c.loop-j in
    omega (arith, (give-on l.j c.args.k l.left c.loop-j-test.true).0)

pub overflow_sub-k-in-loop-j : goal.overflow_sub-k-in-loop-j
overflow_sub-k-in-loop-j c =
    let l = c.loop-j in
    omega (arith, (give-on l.j c.args.k l.left c.loop-j-test.true).0)

pub move_on-left-requires : goal.move_on-left-requires
move_on-left-requires c =
    let p = c.requires in
    let a = c.args in
    let l = c.loop-j in
    let on = c.loop-j-test in
    movable p.few p.chain (give_at p l.invariant.2) (give-on l.j a.k l.left on.true).1

pub overflow_add-j : goal.overflow_add-j
overflow_add-j c =
    let a = c.args in
    let l = c.loop-j in
    let on = c.loop-j-test in
    omega (arith, (give-on l.j a.k l.left on.true).0)

pub loop-j-smaller : goal.loop-j-smaller
loop-j-smaller c =
    let a = c.args in
    let l = c.loop-j in
    let on = c.loop-j-test in
    omega (arith, (give-on l.j a.k l.left on.true).0)

pub loop-j-preserved : goal.loop-j-preserved
loop-j-preserved c =
    let a = c.args in
    let l = c.loop-j in
    let at_test = c.loop-j-test in
    let at-floor = c.if-row-floor in
    let at-lead = c.lead-s in
    let at-put = c.put_out in
    let at-move = c.move_on-left in
    let on = give-on l.j a.k l.left at_test.true in
    let over : a.floor ≤ first_key l.heads / 4294967296 = omega (arith, at-floor.false) in (
      at-move.auto.heads ∙ l.invariant.0,
      at-put.auto.out ∙ l.invariant.1,
      give-step l.invariant.2 on.1 on.0 over at-lead.ensures at-put.ensures at-move.ensures,
    )
