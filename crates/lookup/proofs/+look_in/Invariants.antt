-- `lookup::look_in` meets its contract. The measure is the level. The invariant: the children before the i-th don't hold the key.
use Prim.Native.Nat.{◌≤◌}
use Rattle.lookup.proofs.Steps.{Going}
use Rattle.lookup.proofs.+look_in.Given as goal

abbrev pub decreases-look_in : goal.decreases-look_in
decreases-look_in l = l.level

abbrev pub invariant-loop-i : goal.invariant-loop-i
invariant-loop-i l = (l.i ≤ l.c) × Going l.t l.b l.level l.span l.k l.lo l.i
