-- `block::entries_ok` meets its contract: the loop goes from the last entry to the second, and the first comes after it; the invariant is `EntriesInv`.
use Prim.Native.Nat.{◌-◌}
use Rattle.block.proofs.Passes.{EntriesInv}
use Rattle.block.proofs.entries_ok.Given as goal

abbrev pub invariant-loop-i : goal.invariant-loop-i
invariant-loop-i l = EntriesInv l.s l.c l.blocks l.own l.low l.floor l.ok l.next (l.i - 1)
