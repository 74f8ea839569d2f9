-- `block::rises` meets its contract: the loop's invariant is `RiseInv`: what is done and what is left make up the whole.
use Prim.Native.Nat.{◌≤◌}
use Rattle.block.proofs.Passes.{RiseInv}
use Rattle.block.proofs.rises.Given as goal

abbrev pub invariant-loop-i : goal.invariant-loop-i
invariant-loop-i l = (1 ≤ l.i) × (l.i ≤ l.n) × RiseInv l.s l.w l.n l.at l.floor l.ok l.prev l.i
