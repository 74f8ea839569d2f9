-- `edit::best_child` meets its contract. The loop's invariant: the best of the first i.
use Prim.Native.Nat.{◌≤◌}
use Rattle.edit.proofs.Picked.{Seen}
use Rattle.edit.proofs.best_child.Given as goal

abbrev pub invariant-loop-i : goal.invariant-loop-i
invariant-loop-i l = (l.i ≤ l.es.n) × Seen l.es.list l.high l.i l.best
