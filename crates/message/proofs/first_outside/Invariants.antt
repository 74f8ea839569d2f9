-- `message::first_outside` meets its contract; the loop's invariant is `OutsideInv`.
use Rattle.message.proofs.Judging.{OutsideInv}
use Rattle.message.proofs.first_outside.Given as goal

abbrev pub invariant-loop-i : goal.invariant-loop-i
invariant-loop-i l = OutsideInv l.fill l.n l.s l.at l.next l.i
