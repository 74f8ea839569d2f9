-- `block::points_of` meets its contract: the loop's invariant is `PointsInv`: what is done and what is left make up the whole.
use Prim.Native.Nat.{◌≤◌}
use Rattle.block.proofs.Passes.{PointsInv}
use Rattle.block.proofs.points_of.Given as goal

abbrev pub invariant-loop-i : goal.invariant-loop-i
invariant-loop-i l = (1 ≤ l.i) × (l.i ≤ l.n) × PointsInv l.s l.n l.at l.floor l.ok l.prev l.low l.high l.i
