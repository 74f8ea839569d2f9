-- `block::fresh_ok` meets its contract: the loop tests each entry before; its invariant is `TestsInv`.
use Prim.Native.Nat.{◌≤◌}
use Rattle.block.specs.Checks.{other_block}
use Rattle.block.proofs.Passes.{TestsInv}
use Rattle.block.proofs.fresh_ok.Given as goal

abbrev pub invariant-loop-i : goal.invariant-loop-i
invariant-loop-i l = (l.i ≤ l.j) × TestsInv (other_block l.b l.s) 28 l.j 8 l.ok l.i
