-- `plan::next_rank` meets its contract. The loop's invariant: the least of the first i.
use Prim.Native.Nat.{◌≤◌}
use Rattle.plan.specs.Plans.{NextRank}
use Rattle.plan.proofs.next_rank.Given as goal

abbrev pub invariant-loop-i : goal.invariant-loop-i
invariant-loop-i l = (l.i ≤ l.n) × NextRank l.spots l.i l.floor 18446744073709551615 l.best
