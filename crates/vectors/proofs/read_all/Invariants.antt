-- `vectors::read_all` meets its contract.
use Rattle.std.proofs.Common.{◌≤◌}
use Rattle.vectors.proofs.read_all.Given as goal

abbrev pub invariant-loop : goal.invariant-loop
invariant-loop g l = l.end ≤ 65536
