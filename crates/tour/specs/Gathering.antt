-- What the functions that read a tour's blocks are handed and hand back.
-- Assumes nothing.
use Rattle.std.specs.Prelude.{◌≡◌, ℕ, ◌+◌, ◌≤◌, Bool, true, List, [], length, replicate}
use Rattle.octets.specs.Lists.{every}
use Rattle.spot.specs.Spots.{spots_in}
use Rattle.spot.specs.declared.Query.{Query}
use Rattle.block.specs.Table.{blocks_of, block}
use Rattle.tree.specs.ReadMap.{read_map}
use Rattle.query.specs.Merging.{Orderly}
use Rattle.catalogue.specs.Catalogue.{tour_sized, catalogue_fine, tile_entry, tile_fine, tiles_read}
use Rattle.catalogue.specs.Reading.{LimitedEntry}
use Rattle.catalogue.specs.declared.Entry.{Entry}
use Rattle.tour.specs.Tour.{gathered}

-- a block in order and its entry, and n spots found before with room for a block's behind them
pub record Gatherable (s : List ℕ) (e : Entry) (found : List ℕ) (n : ℕ) : Type 0 where
  pub long : length s ≡ 2048
  pub entry : LimitedEntry e
  pub blocks : ℕ
  pub number : ℕ
  pub fine : tile_fine blocks number e s ≡ true
  pub order : Orderly (spots_in found n)
  pub buffer : length found ≡ 11520
  pub room : n + 64 ≤ 960

-- a tour with its catalogue in order, an empty map, and a buffer for the spots of 15 blocks
pub record TourReadable (t seen found : List ℕ) : Type 0 where
  pub sized : tour_sized (length t) ≡ true
  pub catalogue : catalogue_fine (length t) (block t 0) ≡ true
  pub blank : seen ≡ replicate 512 0
  pub buffer : length found ≡ 11520

-- the blocks that the query reads are in order
abbrev pub blocks_fine : List ℕ → Query → Bool
blocks_fine t q = every (λ b. tile_fine (blocks_of (length t)) b (tile_entry t b) (block t b)) (tiles_read t q)

-- they are, and they have n spots for the query, which are at the front of the buffer; the map marks what is read
pub record TourRead (t : List ℕ) (q : Query) (seen' found' : List ℕ) (n : ℕ) : Type 0 where
  pub fine : blocks_fine t q ≡ true
  pub few : n ≤ 960
  pub marks : seen' ≡ read_map (tiles_read t q)
  pub spots : spots_in found' n ≡ gathered t q (tiles_read t q) []
  pub order : Orderly (spots_in found' n)
