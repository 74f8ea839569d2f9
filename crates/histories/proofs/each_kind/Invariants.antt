-- `histories::each_kind` is safe and ends.
use Rattle.std.proofs.Common.{◌≡◌, length}
use Rattle.histories.proofs.each_kind.Given as goal

abbrev pub invariant-loop-kind : goal.invariant-loop-kind
invariant-loop-kind g l =
    (length l.memory ≡ length l.initial.memory) × (length l.scratch ≡ length l.initial.scratch)
