-- `histories::batches::copy_marked` is safe and ends.
use Rattle.std.proofs.Common.{◌≡◌, length}
use Rattle.histories.proofs.batches.copy_marked.Given as goal

abbrev pub invariant-loop-b : goal.invariant-loop-b
invariant-loop-b l = length l.second ≡ length l.initial.second
