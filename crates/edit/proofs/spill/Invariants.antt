-- `edit::spill` meets its contract. The loop's invariant: `Lowering`, what P has become and what has gathered.
use Rattle.edit.proofs.Lowered.{Lowering}
use Rattle.edit.proofs.spill.Given as goal

abbrev pub invariant-loop-points : goal.invariant-loop-points
invariant-loop-points l = Lowering l.n.points l.n.inserts l.n.deletes l.points l.gathered

abbrev pub decreases-loop-points : goal.decreases-loop-points
decreases-loop-points l = l.points.n
