-- `message::count_adds` meets its contract; the loop's invariant is `AddsInv`.
use Rattle.message.proofs.Judging.{AddsInv}
use Rattle.message.proofs.count_adds.Given as goal

abbrev pub invariant-loop-i : goal.invariant-loop-i
invariant-loop-i l = AddsInv l.fill l.n l.s l.at l.adds l.next l.i
