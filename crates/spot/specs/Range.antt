-- The places of a Report or a Top, over whole numbers: no key is made of them.
-- Assumes nothing.
use Rattle.std.specs.Prelude.{Bool, cond, ◌&&◌, ◌||◌, ℤ, int_le, int_lt}

-- "x1 ≤ place ≤ x2"; and request 2026-05, "A range whose first place is greater than its last now runs on past the door: all places from x1 up, followed by all
-- places up to x2"
unfoldable pub of_range : ℤ → ℤ → ℤ → Bool
of_range x1 x2 place = cond (int_lt x2 x1) (int_le x1 place || int_le place x2) (int_le x1 place && int_le place x2)
