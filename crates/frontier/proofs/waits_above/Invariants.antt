-- `frontier::waits_above` meets its contract: from parent to parent.
use Rattle.frontier.specs.Frontier.{slot_by, Hangs}
use Rattle.visit.specs.Visit.{waiting_above}
use Rattle.octets.specs.Lists.{has}
use mathlib.Core.Path.{◌≡◌}
use Rattle.frontier.proofs.waits_above.Given as goal

abbrev pub invariant-loop-j : goal.invariant-loop-j
invariant-loop-j l = Hangs l.t l.rows l.j × (has l.k (waiting_above l.t (slot_by l.t l.rows l.i).path) ≡ has l.k (waiting_above l.t (slot_by l.t l.rows l.j).path))

abbrev pub decreases-loop-j : goal.decreases-loop-j
decreases-loop-j l = l.j
