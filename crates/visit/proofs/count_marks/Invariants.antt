-- `visit::count_marks` meets its contract: the sum is the number of marks among the first i.
use mathlib.Core.Path.{◌≡◌}
use Prim.Native.Nat.{◌≤◌}
use lib.ListN.{take}
use Rattle.visit.specs.Visit.{marks_in}
use Rattle.visit.proofs.count_marks.Given as goal

abbrev pub invariant-loop-marked : goal.invariant-loop-marked
invariant-loop-marked l = (l.sum ≤ l.marked-index) × (l.sum ≡ marks_in (take l.marked-index l.marked-items))
