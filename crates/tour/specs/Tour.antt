-- What a Report of a tour reads and finds, whatever the tour's bytes are.
-- Assumes nothing.
use Rattle.std.specs.Prelude.{ℕ, cond, List, [], ◌∷◌, length, eqb, ℤ}
use Rattle.octets.specs.Lists.{keep}
use Rattle.spot.specs.Spots.{put_all, from_on}
use Rattle.spot.specs.Query.{query, from_of, wants}
use Rattle.spot.specs.declared.Spot.{Spot}
use Rattle.spot.specs.declared.Query.{Query}
use Rattle.block.specs.Table.{map_bytes}
use Rattle.block.specs.declared.Answer.{Answer}
use Rattle.tree.specs.Walk.{Walk, broken, walked, map_spots}
use Rattle.table.specs.Queries.{WalkPost}
use Rattle.catalogue.specs.Catalogue.{tour_sized, tile_spots, tiles_read, tour_fine}

-- the wanted spots of a block, in place order among those found before
unfoldable pub with_tile : List ℕ → Query → ℕ → List Spot → List Spot
with_tile t q b found = put_all (keep (wants q) (tile_spots t b)) found

-- those of one block after the other
abbrev pub gathered : List ℕ → Query → List ℕ → List Spot → List Spot
gathered t q [] found = found
gathered t q (b ∷ bs) found = gathered t q bs (with_tile t q b found)

-- 3 where a block read breaks its layout
unfoldable pub tour_walk : List ℕ → Query → Walk
tour_walk t q = cond (tour_fine t q) (walked (gathered t q (tiles_read t q) []) (tiles_read t q)) broken

-- "Report's order is from x1 onward"
unfoldable pub tour_report : List ℕ → ℤ → ℤ → ℤ → Walk
tour_report t x1 x2 y = map_spots (from_on (from_of (query x1 x2 y))) (tour_walk t (query x1 x2 y))

-- "Report of a tour, a call of its own, gives 1 if its length isn't 1 to 16 whole blocks"; 2: "the read map isn't 512 bytes"
unfoldable pub tour_number : ℕ → ℕ → ℕ
tour_number bytes map = cond (tour_sized bytes) (cond (eqb map map_bytes) 0 2) 1

-- 1, 2, 3, 5 in this order; the spots and the marks of an accepted call, every lent byte as it was after a refusal
abbrev pub TourPost : ℤ → ℤ → ℤ → List ℕ → List ℕ → List ℕ → Answer → List ℕ → List ℕ → Type 0
TourPost x1 x2 y t out map = WalkPost (tour_number (length t) (length map)) (tour_report t x1 x2 y) out map
