-- `block::zeros` meets its contract: the invariant: what is done and what is left make up the whole.
use mathlib.Core.Bool.{◌&&◌}
use mathlib.Core.Path.{◌≡◌}
use Prim.Native.Nat.{◌≤◌}
use lib.ListN.{length, drop}
use Rattle.octets.specs.Lists.{every}
use Rattle.block.specs.Checks.{is_zero}
use Rattle.block.proofs.zeros.Given as goal

abbrev pub invariant-loop-i : goal.invariant-loop-i
invariant-loop-i l = (l.i ≤ length l.s) × (every is_zero (drop l.at l.s) ≡ l.ok && every is_zero (drop l.i l.s))
