-- `visit::near` meets its contract: the keys counted are below, and the first that is not bounds the count.
use mathlib.Core.Path.{◌≡◌}
use mathlib.Core.Logic.{◌⊎◌}
use Prim.Native.Nat.{◌≤◌}
use Rattle.visit.specs.Visit.{below_in, keys_from}
use Rattle.visit.proofs.near.Given as goal

abbrev pub invariant-loop-i : goal.invariant-loop-i
invariant-loop-i l = (l.i ≤ l.e) × (l.r ≤ l.i) × (l.r ≤ below_in l.k (keys_from l.t l.w l.n l.at)) × ((l.r ≡ l.i) ⊎ (below_in l.k (keys_from l.t l.w l.n l.at) ≤ l.r))
