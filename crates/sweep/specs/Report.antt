-- A Report on the blocks of a sweep.
-- Assumes nothing.
use Rattle.std.specs.Prelude.{ℕ, ◌+◌, ◌*◌, ◌/◌, Bool, cond, List, [], ◌∷◌, ◌++◌, leb}
use Rattle.octets.specs.Lists.{keep}
use Rattle.spot.specs.Query.{from_of, last_of, least_of, is_ring, ends}
use Rattle.spot.specs.declared.Spot.{Spot}
use Rattle.spot.specs.declared.Query.{Query}
use Rattle.sweep.specs.Sweep.{StandingBlock, standing_at}
use Rattle.sweep.specs.Pressed.{first_key_of, last_key_of}

-- "whose span of places meets the range"
unfoldable pub meets_span : Query → ℕ → ℕ → Bool
meets_span q low high = ends q (leb (from_of q) high) (leb low (last_of q))

abbrev pub spanned : Query → StandingBlock → Bool
spanned q s = meets_span q (first_key_of s.spots) (last_key_of s.spots)

-- "each block standing once all ranks under y are passed whose span of places meets the range", from left to right
unfoldable pub blocks_met : Query → List Spot → List StandingBlock
blocks_met q ss = keep (spanned q) (standing_at (least_of q) ss)

abbrev pub numbers : List StandingBlock → List ℕ
numbers [] = []
numbers (s ∷ st) = s.number ∷ numbers st

-- the spots of blocks, from left to right
abbrev pub standing_spots : List StandingBlock → List Spot
standing_spots [] = []
standing_spots (s ∷ st) = s.spots ++ standing_spots st

-- "at most 4 + 2 · (spots reported div 64) blocks", the catalogue among them; for a ring "a pressed tour's 4 becomes 5"
unfoldable pub most_read : Query → ℕ → ℕ
most_read q reported = cond (is_ring q) 5 4 + 2 * (reported / 64)
