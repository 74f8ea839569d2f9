-- `vectors::hang_all` is safe and ends.
use Rattle.std.proofs.Common.{◌≡◌, length}
use Rattle.vectors.proofs.hang_all.Given as goal

abbrev pub invariant-loop-i : goal.invariant-loop-i
invariant-loop-i l =
    (length l.table ≡ length l.initial.table) × (length l.scratch ≡ length l.initial.scratch)
