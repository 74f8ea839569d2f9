-- `spare::mark_taken` meets its contract. The loop's invariant: the blocks from `left` up to i are marked besides those that were.
use Rattle.spare.proofs.Marking.{MarkedTo}
use Rattle.spare.proofs.mark_taken.Given as goal

abbrev pub invariant-loop-i : goal.invariant-loop-i
invariant-loop-i l = MarkedTo l.s l.left l.initial.map l.map l.i
