-- `frontier::best_kid` meets its contract: the best of those seen so far.
use Rattle.frontier.proofs.Bests.{KidsBest}
use Rattle.frontier.proofs.best_kid.Given as goal

abbrev pub invariant-loop-i : goal.invariant-loop-i
invariant-loop-i l = KidsBest l.t l.b l.span l.q l.most l.i l.best
