-- `build::shape_of` meets its contract. The loop's invariant: the shape sought is the first that serves among those from i on.
use Prim.Native.Nat.{◌-◌}
use Rattle.build.proofs.Shapes.{Sought}
use Rattle.build.proofs.shape_of.Given as goal

abbrev pub invariant-loop-i : goal.invariant-loop-i
invariant-loop-i l = Sought l.n l.i

abbrev pub decreases-loop-i : goal.decreases-loop-i
decreases-loop-i l = 30 - l.i
