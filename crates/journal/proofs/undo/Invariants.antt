-- `journal::undo` meets its contract. The loop's invariant: the blocks below b are as they were before, those from b on as at entry.
use Prim.Native.Nat.{◌≤◌}
use Rattle.journal.proofs.Kept.{Undoing}
use Rattle.journal.proofs.undo.Given as goal

abbrev pub invariant-loop-b : goal.invariant-loop-b
invariant-loop-b l = (l.b ≤ l.n) × Undoing l.initial.t l.s l.map l.b l.t
