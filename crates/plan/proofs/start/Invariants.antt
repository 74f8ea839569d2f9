-- `plan::start` meets its contract. The loop's invariant: the first i pieces and the first i entries are stored.
use mathlib.Core.Path.{◌≡◌}
use Prim.Native.Nat.{ℕ, ◌≤◌, ◌<◌}
use lib.ListN.{length, get_or}
use Rattle.plan.specs.Plans.{no_piece, place_piece}
use Rattle.plan.proofs.start.Given as goal

abbrev pub invariant-loop-i : goal.invariant-loop-i
invariant-loop-i l =
    (l.i ≤ l.places) × (length l.pieces ≡ 16) × (length l.order ≡ 8) × ((j : ℕ) → j < l.i → get_or l.pieces j no_piece ≡ place_piece l.n j) × ((j : ℕ) → j < l.i → get_or l.order j 0 ≡ j)
