-- What an entry is read from, and what is known of it, where the catalogue is in order.
-- Assumes nothing.
use Rattle.std.specs.Prelude.{ℕ, ◌≤◌, ◌<◌, ◌≡◌, true, List, length}
use Rattle.spot.specs.Keys.{limited}
use Rattle.block.specs.Table.{blocks_of}
use Rattle.catalogue.specs.declared.Entry.{Entry}
use Rattle.catalogue.specs.Catalogue.{tour_sized, catalogue_fine}

-- the catalogue of a tour lists block b
pub record Listed (s : List ℕ) (b : ℕ) : Type 0 where
  pub long : length s ≡ 2048
  pub bytes : ℕ
  pub sized : tour_sized bytes ≡ true
  pub fine : catalogue_fine bytes s ≡ true
  pub some : 1 ≤ b
  pub below : b < blocks_of bytes

-- "A place read from a card .. must lie in −1,000,000 to 1,000,000 centimetres": zero, where no passing made or ended the block, is place 0
pub record LimitedEntry (e : Entry) : Type 0 where
  pub some : 1 ≤ e.size
  pub few : e.size ≤ 64
  pub low : limited e.low ≡ true
  pub high : limited e.high ≡ true
  pub made : limited e.made ≡ true
  pub ended : limited e.ended ≡ true
