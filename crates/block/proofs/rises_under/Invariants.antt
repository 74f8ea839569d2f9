-- `block::rises_under` meets its contract: the loop's invariant is `BothInv`: what is done and what is left make up the whole.
use Prim.Native.Nat.{◌≤◌}
use Rattle.block.proofs.Passes.{BothInv}
use Rattle.block.proofs.rises_under.Given as goal

abbrev pub invariant-loop-i : goal.invariant-loop-i
invariant-loop-i l = (1 ≤ l.i) × (l.i ≤ l.n) × BothInv l.s l.w l.n l.at l.floor l.low l.ok l.prev l.i
