-- `edit::insert_parts` meets its contract. The loop's invariant: `Gathered`, what the spots from index i on have become.
use Prim.Native.Nat.{◌-◌, ◌≤◌}
use lib.ListN.{drop}
use Rattle.buffer.specs.Buffer.{held, named}
use Rattle.update_theory.specs.Held.{insert_all}
use Rattle.edit.proofs.Buffered.{buffers}
use Rattle.edit.proofs.Gathered.{Gathered}
use Rattle.edit.proofs.insert_parts.Given as goal

abbrev pub invariant-loop-i : goal.invariant-loop-i
invariant-loop-i l =
    (l.i ≤ l.batch.n)
    × Gathered l.r l.initial.points l.initial.inserts l.initial.deletes (insert_all l.r (drop l.i (held l.batch)) (buffers (held l.initial.points) (held l.initial.inserts) (named l.initial.deletes))) (l.batch.n - l.i) l.points l.inserts l.deletes l.high l.low
