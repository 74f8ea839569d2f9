-- `visit::unmarked` meets its contract: those from a on, before i, have no mark where the loop has come to i.
use Rattle.visit.proofs.Marking.{unmarked-end}
use native.Mathlib.Omega.{arith}
use Rattle.visit.proofs.unmarked.Goals as goal

pub returns : goal.returns
returns c =
    let a = c.args in
    let l = c.loop-i in
    unmarked-end a.a a.e l.i l.invariant.1 (omega arith) l.invariant.2
