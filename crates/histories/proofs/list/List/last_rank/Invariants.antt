-- `histories::list::List::last_rank` is safe and ends.
use Rattle.std.proofs.Common.{◌+◌, ◌*◌, ◌<◌, ◌≤◌}
use Rattle.histories.proofs.list.List.last_rank.Given as goal

abbrev pub invariant-loop-step : goal.invariant-loop-step
invariant-loop-step l =
    (l.low + 2 * l.step ≤ 4294967296) × (l.low < 4294967296)

abbrev pub decreases-loop-step : goal.decreases-loop-step
decreases-loop-step l = l.step
