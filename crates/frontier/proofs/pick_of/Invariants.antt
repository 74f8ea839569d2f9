-- `frontier::pick_of` meets its contract: the rows are packed from the last to the second.
use Rattle.frontier.proofs.Ladders.{Packs}
use Rattle.frontier.proofs.pick_of.Given as goal

abbrev pub invariant-loop-i : goal.invariant-loop-i
invariant-loop-i l = Packs l.few l.n l.more l.i
