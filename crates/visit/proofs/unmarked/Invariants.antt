-- `visit::unmarked` meets its contract: those from a on, before i, have no mark where the loop has come to i.
use mathlib.Core.Path.{◌≡◌}
use mathlib.Core.Logic.{◌⊎◌}
use Prim.Native.Nat.{◌≤◌}
use lib.ListN.{length}
use Rattle.visit.specs.Visit.{Unmarked}
use Rattle.visit.proofs.unmarked.Given as goal

abbrev pub invariant-loop-i : goal.invariant-loop-i
invariant-loop-i l = (l.a ≤ l.i) × Unmarked l.a l.i l.initial.left l.left × ((l.i ≤ l.e) ⊎ (l.i ≡ l.a)) × (length l.initial.left ≡ 64)
