-- `visit::wanted_each` meets its contract: the first i spots are marked after i turns.
use Prim.Native.Nat.{◌≤◌}
use Rattle.visit.specs.Visit.{Wanted}
use Rattle.visit.proofs.wanted_each.Given as goal

abbrev pub invariant-loop-i : goal.invariant-loop-i
invariant-loop-i l = (l.i ≤ l.n) × Wanted l.t l.at l.i l.q l.m
