-- `ranges::read_batch` meets its contract: after i turns the first i ranges are there.
use Rattle.std.proofs.Common.{◌≡◌}
use Rattle.ranges.specs.Ranges.{loaded, ranges_in}
use Rattle.ranges.proofs.read_batch.Given as goal

abbrev pub invariant-loop-i : goal.invariant-loop-i
invariant-loop-i l = l.all ≡ loaded (ranges_in l.bytes l.n l.at) l.i
