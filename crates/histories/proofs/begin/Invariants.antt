-- `histories::begin` is safe and ends.
use Rattle.std.proofs.Common.{◌≡◌, length}
use Rattle.histories.proofs.begin.Given as goal

abbrev pub invariant-loop-i : goal.invariant-loop-i
invariant-loop-i l =
    (length l.table ≡ length l.initial.table) × (length l.scratch ≡ length l.initial.scratch)
