-- `tours::list::scan` is safe and ends.
use Rattle.std.proofs.Common.{◌≤◌}
use Rattle.tours.proofs.list.scan.Given as goal

abbrev pub invariant-loop-i : goal.invariant-loop-i
invariant-loop-i l = l.k ≤ 512
