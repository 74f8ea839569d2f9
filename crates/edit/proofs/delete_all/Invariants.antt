-- `edit::delete_all` meets its contract. The loop's invariant: the keys from index i on are deleted.
use Prim.Native.Nat.{◌+◌, ◌-◌, ◌≤◌}
use lib.ListN.{drop}
use Rattle.update_theory.specs.Held.{delete_all}
use Rattle.buffer.specs.Buffer.{named}
use Rattle.edit.specs.Edits.{held_in, Edited}
use Rattle.edit.proofs.delete_all.Given as goal

abbrev pub invariant-loop-i : goal.invariant-loop-i
invariant-loop-i l =
    (l.i ≤ l.batch.n) × Edited l.initial.next l.next (delete_all l.r (drop l.i (named l.batch)) (held_in l.initial.next)) l.initial.next.points.n l.initial.next.inserts.n (l.initial.next.deletes.n + (l.batch.n - l.i))
