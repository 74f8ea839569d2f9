-- `build::likely_cut` meets its contract: it reads and writes inside the list and the 48.
use mathlib.Core.Path.{◌≡◌}
use Prim.Native.Nat.{◌≤◌}
use lib.ListN.{length}
use Rattle.build.proofs.likely_cut.Given as goal

abbrev pub invariant-loop-i : goal.invariant-loop-i
invariant-loop-i l = (l.all ≤ l.i) × (length l.top ≡ 48)
