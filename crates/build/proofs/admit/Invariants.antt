-- `build::admit` meets its contract: it writes inside the 48.
use mathlib.Core.Path.{◌≡◌}
use lib.ListN.{length}
use Rattle.build.proofs.admit.Given as goal

abbrev pub invariant-loop-j : goal.invariant-loop-j
invariant-loop-j l = length l.top ≡ 48
