-- `ranges::load` meets its contract: the ranges put in so far.
use Rattle.std.proofs.Common.{◌≡◌}
use Rattle.ranges.specs.Ranges.{loaded}
use Rattle.ranges.proofs.load.Given as goal

abbrev pub invariant-loop-i : goal.invariant-loop-i
invariant-loop-i l = l.all ≡ loaded l.ranges l.i
