-- `visit::strike` meets its contract: keys below lo and above hi strike none, and no spot passed has a later key.
use Prim.Native.Nat.{◌+◌, ◌*◌, ◌≤◌, ◌<◌}
use Rattle.spot.specs.Spots.{key_at}
use Rattle.visit.specs.Visit.{keys_from, below_in, Struck}
use Rattle.visit.proofs.strike.Given as goal

abbrev pub invariant-loop-j : goal.invariant-loop-j
invariant-loop-j l =
    (l.j ≤ l.c) × Struck l.t l.at l.n (keys_from l.t l.w l.j l.a) l.initial.m l.m × (l.j < l.c → l.i ≤ below_in (key_at l.t (l.a + l.w * l.j)) (keys_from l.t 12 l.n l.at))
