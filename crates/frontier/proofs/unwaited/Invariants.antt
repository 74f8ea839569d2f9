-- `frontier::unwaited` meets its contract: the next under the best wanted as long as it waits.
use Prim.Native.Nat.{ℕ}
use Rattle.visit.specs.Visit.{waiting_above}
use Rattle.frontier.specs.Frontier.{slot_by}
use Rattle.frontier.specs.Picks.{wanted_in, PickedUnder}
use Rattle.frontier.proofs.Bests.{Sought, fall}
use Rattle.frontier.proofs.unwaited.Given as goal

abbrev pub invariant-loop-best : goal.invariant-loop-best
invariant-loop-best l = (limit : ℕ) → PickedUnder l.t l.b l.q limit (wanted_in l.t l.q l.b) l.initial.best → Sought l.t l.b l.q (waiting_above l.t (slot_by l.t l.rows l.i).path) limit l.best

abbrev pub decreases-loop-best : goal.decreases-loop-best
decreases-loop-best l = fall l.best
