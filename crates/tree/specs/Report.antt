-- What a Report hands out and reads, on every table, sound or not.
-- Assumes nothing.
use Rattle.std.specs.Prelude.{ℕ, List, ℤ}
use Rattle.spot.specs.Spots.{from_on}
use Rattle.spot.specs.Query.{query, from_of}
use Rattle.tree.specs.Walk.{Walk, map_spots, walk_table}

-- the walk over the report's places, and request 2026-05: "Report's order is from x1 onward"
unfoldable pub report_table : List ℕ → ℤ → ℤ → ℤ → Walk
report_table t x1 x2 y = map_spots (from_on (from_of (query x1 x2 y))) (walk_table t (query x1 x2 y))
