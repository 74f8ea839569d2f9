-- `build::mark_to` meets its contract. The loop's invariant: the blocks below i are marked besides those that were.
use Rattle.build.proofs.Head.{MarkedBelow}
use Rattle.build.proofs.mark_to.Given as goal

abbrev pub invariant-loop-i : goal.invariant-loop-i
invariant-loop-i l = MarkedBelow l.initial.map l.map l.i
