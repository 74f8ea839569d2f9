-- What the bench program prints after `?` and `^`.
-- Assumes nothing.
use Rattle.std.specs.Prelude.{ℕ, zero, suc, ◌*◌, List, [], ◌++◌}
use Rattle.spot.specs.Keys.{place_of, rank_in}
use Rattle.spot.specs.Spots.{spot_at}
use Rattle.spot.specs.declared.Spot.{Spot}
use Rattle.text.specs.Text.{spot_line, count_line}

-- the line of a spot
unfoldable pub line_of : Spot → List ℕ
line_of x = spot_line (place_of x.key) (rank_in x.key) x.track

-- the lines of the first n spots
unfoldable pub lines_of : List ℕ → ℕ → List ℕ
lines_of s zero = []
lines_of s (suc n) = lines_of s n ++ line_of (spot_at s (12 * n))

-- "it prints the number of spots on a line, then a line each"
unfoldable pub printed : List ℕ → ℕ → List ℕ
printed s n = count_line n ++ lines_of s n
