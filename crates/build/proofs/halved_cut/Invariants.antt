-- `build::halved_cut` meets its contract. The loop's invariant: the lower cut takes too many, the upper one too few; so there is always one between them, and
-- the loop ends by a hit alone.
use Prim.Native.Nat.{◌-◌}
use Rattle.build.proofs.Bands.{Between}
use Rattle.build.proofs.halved_cut.Given as goal

abbrev pub invariant-loop-lo : goal.invariant-loop-lo
invariant-loop-lo l = Between l.list l.from l.n l.limit l.lo l.hi

abbrev pub decreases-loop-lo : goal.decreases-loop-lo
decreases-loop-lo l = l.hi - l.lo
