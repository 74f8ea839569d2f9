-- `visit::eighths` meets its contract: the eighths counted are below, and the first that is not bounds the count.
use mathlib.Core.Path.{◌≡◌}
use mathlib.Core.Logic.{◌⊎◌}
use Prim.Native.Nat.{◌+◌, ◌*◌, ◌≤◌, ◌<◌}
use Rattle.visit.specs.Visit.{below_in, keys_from}
use Rattle.visit.proofs.eighths.Given as goal

abbrev pub invariant-loop-j : goal.invariant-loop-j
invariant-loop-j l = (l.j ≤ l.m) × (l.c ≤ l.j) × (8 * l.c ≤ below_in l.k (keys_from l.t l.w l.n l.at)) × ((l.c ≡ l.j) ⊎ (below_in l.k (keys_from l.t l.w l.n l.at) < 8 * l.c + 8))
