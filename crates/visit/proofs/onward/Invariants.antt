-- `visit::onward` meets its contract: the keys passed are below, and the first that is not ends the count.
use Prim.Native.Nat.{◌≤◌}
use Rattle.visit.specs.Visit.{below_in, keys_from}
use Rattle.visit.proofs.onward.Given as goal

abbrev pub invariant-loop-i : goal.invariant-loop-i
invariant-loop-i l = (l.i ≤ l.n) × (l.i ≤ below_in l.k (keys_from l.t 12 l.n l.at))
