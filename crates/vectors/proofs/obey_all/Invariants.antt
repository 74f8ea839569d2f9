-- `vectors::obey_all` is safe and ends.
use Rattle.std.proofs.Common.{◌≡◌, ◌-◌, ◌≤◌, length}
use Rattle.vectors.proofs.obey_all.Given as goal

abbrev pub invariant-loop-at : goal.invariant-loop-at
invariant-loop-at g l =
    (length l.memory ≡ length l.initial.memory) × (length l.scratch ≡ length l.initial.scratch) × (l.s.bytes ≤ 65536)

abbrev pub decreases-loop-at : goal.decreases-loop-at
decreases-loop-at g l = length l.script - l.at
