-- `visit::strike_keys` meets its contract, key after key; where the keys rise, no spot passed has a later one.
use Prim.Native.Nat.{◌≤◌}
use lib.ListN.{take}
use Rattle.visit.specs.Visit.{Struck, keys_from, below_in}
use Rattle.visit.proofs.strike_keys.Given as goal

abbrev pub invariant-loop-k : goal.invariant-loop-k
invariant-loop-k l = Struck l.t l.at l.n (take l.k-index l.k-items) l.initial.m l.m × (l.i ≤ below_in l.prev (keys_from l.t 12 l.n l.at))
