-- `visit::range_marks` meets its contract: those from a on, before i, have a mark where the loop has come to i.
use mathlib.Core.Path.{◌≡◌}
use mathlib.Core.Logic.{◌⊎◌}
use Prim.Native.Nat.{◌≤◌}
use Rattle.visit.specs.Visit.{RangeMarks}
use Rattle.visit.proofs.range_marks.Given as goal

abbrev pub invariant-loop-i : goal.invariant-loop-i
invariant-loop-i l = (l.a ≤ l.i) × RangeMarks l.a l.i l.m × ((l.i ≤ l.e) ⊎ (l.i ≡ l.a))
