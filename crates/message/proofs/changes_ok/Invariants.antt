-- `message::changes_ok` meets its contract; the loop's invariant is `ThereInv`.
use Rattle.message.proofs.Judging.{ThereInv}
use Rattle.message.proofs.changes_ok.Given as goal

abbrev pub invariant-loop-i : goal.invariant-loop-i
invariant-loop-i l = ThereInv l.fill l.n l.s l.at l.next l.i
