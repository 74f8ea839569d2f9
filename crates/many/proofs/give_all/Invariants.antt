-- `many::give_all` meets its contract: the first i reports are written.
use Rattle.many.proofs.Giving.{Giving}
use Rattle.many.proofs.give_all.Given as goal

abbrev pub invariant-loop-i : goal.invariant-loop-i
invariant-loop-i l = Giving l.n l.all l.table l.initial.output l.output l.at l.i
