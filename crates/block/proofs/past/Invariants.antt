-- `block::past` meets its contract: the invariant: every key passed is below k.
use Prim.Native.Nat.{ℕ, ◌≤◌, ◌<◌, ◌*◌, ◌+◌}
use Rattle.spot.specs.Spots.{key_at}
use Rattle.block.proofs.past.Given as goal

abbrev pub invariant-loop-i : goal.invariant-loop-i
invariant-loop-i l = (q : ℕ) → l.from ≤ q → q < l.i → key_at l.s (l.at + 12 * q) < l.k
