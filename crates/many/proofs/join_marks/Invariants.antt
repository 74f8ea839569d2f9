-- `many::join_marks` meets its contract: the first i bytes are joined.
use Rattle.many.proofs.Unions.{Joining}
use Rattle.many.proofs.join_marks.Given as goal

abbrev pub invariant-loop-i : goal.invariant-loop-i
invariant-loop-i l = Joining l.initial.seen l.own l.seen l.i
