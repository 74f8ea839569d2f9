-- `bench::take_bytes` meets its contract. The loop's invariant: the line begun has at most 64 bytes.
use Rattle.std.proofs.Common.{◌≡◌, ◌≤◌, length}
use Rattle.bench.proofs.take_bytes.Given as goal

abbrev pub invariant-loop-b : goal.invariant-loop-b
invariant-loop-b g l =
    (l.used ≤ 64) × (length l.table ≡ length l.initial.table) × (length l.scratch ≡ length l.initial.scratch) × (length l.line ≡ length l.initial.line)
