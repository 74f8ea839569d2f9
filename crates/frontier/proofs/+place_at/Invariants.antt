-- `frontier::place_at` meets its contract. The measure is the slot: its parent's comes before it.
use Rattle.frontier.proofs.+place_at.Given as goal

abbrev pub decreases-place_at : goal.decreases-place_at
decreases-place_at l = l.i
