-- `tour::gather` meets its contract: block after block, what is read so far is marked, in order, and its spots stand at the front of the buffer.
use Rattle.tour.proofs.Steps.{ReadTo}
use Rattle.tour.proofs.gather.Given as goal

abbrev pub invariant-loop-b : goal.invariant-loop-b
invariant-loop-b l = ReadTo l.tour l.q l.b l.n l.seen l.found
