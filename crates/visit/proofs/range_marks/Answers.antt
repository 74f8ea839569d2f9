-- `visit::range_marks` meets its contract: those from a on, before i, have a mark where the loop has come to i.
use mathlib.Core.Path.{refl}
use mathlib.Core.Logic.{inr}
use Rattle.visit.proofs.Marking.{range_none, range-end}
use native.Mathlib.Omega.{arith}
use Rattle.visit.proofs.range_marks.Goals as goal

pub loop-i-init : goal.loop-i-init
loop-i-init c = (omega arith, range_none c.args.a, inr refl)

pub returns : goal.returns
returns c =
    let a = c.args in
    let l = c.loop-i in
    range-end a.a a.e l.i l.invariant.1 (omega arith) l.invariant.2
