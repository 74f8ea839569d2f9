-- `plan::plan_of` meets its contract. The loop's invariant: the plan is the sweep's, once it has passed so many spots.
use Prim.Native.Nat.{◌≤◌}
use Rattle.spot.specs.Spots.{spots_in}
use Rattle.plan.proofs.Swept.{Swept}
use Rattle.plan.proofs.plan_of.Given as goal

abbrev pub invariant-loop-passed : goal.invariant-loop-passed
invariant-loop-passed l = (l.passed ≤ l.n) × Swept (spots_in l.spots l.n) l.plan l.floor l.passed
