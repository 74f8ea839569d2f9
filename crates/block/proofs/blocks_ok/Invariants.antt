-- `block::blocks_ok` meets its contract: the loop tests each of the eight places; its invariant is `TestsInv`.
use Prim.Native.Nat.{◌≤◌}
use Rattle.block.specs.Checks.{place_fine}
use Rattle.block.proofs.Passes.{TestsInv}
use Rattle.block.proofs.blocks_ok.Given as goal

abbrev pub invariant-loop-j : goal.invariant-loop-j
invariant-loop-j l = (l.j ≤ 8) × TestsInv (place_fine l.c l.s) 1 8 0 l.ok l.j
