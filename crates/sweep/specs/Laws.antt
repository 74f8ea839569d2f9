-- What the proofs show of every sweep, for those that build on it.
-- Assumes nothing.
use Rattle.std.specs.Prelude.{◌≡◌, ℕ, zero, suc, ◌-◌, ◌*◌, ◌≤◌, ◌<◌, Bool, true, false, not, ◌&&◌, ◌||◌, length, get_or, ltb, leb, eqb}
use mathlib.Core.List.{List, [], ◌∷◌, ◌++◌, Memᴰ}
use Rattle.octets.specs.Lists.{has, keep, rising, up_to}
use Rattle.spot.specs.Keys.{rank_key, rank_of}
use Rattle.spot.specs.Spots.{keys}
use Rattle.spot.specs.Sorted.{only}
use Rattle.spot.specs.Query.{wants}
use Rattle.spot.specs.declared.Spot.{Spot}
use Rattle.spot.specs.declared.Query.{Query}
use Rattle.sweep.specs.Sweep.{StandingBlock, Fusion, cuts_for, left, standing_at, sweep}
use Rattle.sweep.specs.Pressed.{Tile, tiles, no_key, first_key_of, last_key_of}
use Rattle.sweep.specs.Report.{blocks_met, numbers, standing_spots, most_read}

abbrev pub no_tile : Tile
no_tile = record { spots = []; made = no_key; ended = no_key }

-- block b was one half of a fusion
abbrev pub consumed : ℕ → List Fusion → Bool
consumed b [] = false
consumed b (f ∷ fs) = (eqb b f.first || eqb b f.second) || consumed b fs

-- the key has a rank of at least y
abbrev pub ranked : ℕ → ℕ → Bool
ranked y k = leb y (rank_of k)

-- the blocks that stand once all ranks under y are passed
pub record Stood (y : ℕ) (ss : List Spot) : Type 0 where
  -- no spot of such a rank is lost
  pub covers : only (ranked y) (standing_spots (standing_at y ss)) ≡ only (ranked y) ss
  pub rise : rising (keys (standing_spots (standing_at y ss))) ≡ true
  pub nonempty : (s : StandingBlock) → Memᴰ s (standing_at y ss) → 0 < length s.spots

-- the i-th tile, which is block suc i
pub record TileAt (ss : List Spot) (i : ℕ) (t : Tile) : Type 0 where
  pub rise : rising (keys t.spots) ≡ true
  pub from : (s : Spot) → Memᴰ s t.spots → Memᴰ s ss
  pub unmade : i < cuts_for (length ss) → t.made ≡ no_key
  pub made : cuts_for (length ss) ≤ i → Memᴰ t.made (keys ss)
  pub ended : consumed (suc i) (sweep ss) ≡ true → Memᴰ t.ended (keys ss)
  pub unended : consumed (suc i) (sweep ss) ≡ false → t.ended ≡ no_key
  -- when it stands
  pub stands : (y : ℕ) → has (suc i) (numbers (standing_at y ss))
      ≡ (ltb i (cuts_for (length ss)) || ltb (rank_of t.made) y) && (not (consumed (suc i) (sweep ss)) || leb y (rank_of t.ended))
  -- and then with these spots
  pub same : (y : ℕ) (s : StandingBlock) → Memᴰ s (standing_at y ss) → s.number ≡ suc i → s.spots ≡ t.spots

-- the numbers of blocks that stand are those of tiles
abbrev pub NumbersInside : List Spot → Type 0
NumbersInside ss = (y b : ℕ) → Memᴰ b (numbers (standing_at y ss)) → (0 < b) × (b ≤ length (tiles ss))

-- how many blocks there are, and how large
pub record TileSizes (ss : List Spot) : Type 0 where
  -- source section 2: "The data structure L consists of 2ℓ − 1 blocks"
  pub count : length (tiles ss) ≡ 2 * cuts_for (length ss) - 1
  pub full : (i : ℕ) → i < length (tiles ss) → (suc i ≡ cuts_for (length ss) → ⊥) → length (get_or (tiles ss) i no_tile).spots ≡ 64
  pub some : (i : ℕ) → i < length (tiles ss) → 0 < length (get_or (tiles ss) i no_tile).spots
  pub few : (i : ℕ) → i < length (tiles ss) → length (get_or (tiles ss) i no_tile).spots ≤ 64
  -- all are halves of a fusion but the last
  pub ends : (i : ℕ) → i < length (tiles ss) → consumed (suc i) (sweep ss) ≡ not (eqb (suc i) (length (tiles ss)))

-- ---- what a fused block shows of its maker and of the two that it took the place of

-- the tile of block b
abbrev pub tile_by : List Spot → ℕ → Tile
tile_by ss zero = no_tile
tile_by ss (suc i) = get_or (tiles ss) i no_tile

-- z has the spots of x and y that are left once its maker is passed, which is a spot of one of them
pub record FusedOf (z x y : Tile) : Type 0 where
  pub spots : z.spots ≡ left z.made (x.spots ++ y.spots)
  pub maker : Memᴰ z.made (keys (x.spots ++ y.spots))

-- block b takes the place of two side by side in a row of blocks: its maker ended both, and none left of them
pub record Joining (ss : List Spot) (b : ℕ) (row : List ℕ) : Type 0 where
  pub before : List ℕ
  pub first : ℕ
  pub second : ℕ
  pub behind : List ℕ
  pub parts : row ≡ before ++ (first ∷ second ∷ behind)
  pub others : (x : ℕ) → Memᴰ x before → (tile_by ss x).ended ≡ (tile_by ss b).made → ⊥
  pub ends-first : (tile_by ss first).ended ≡ (tile_by ss b).made
  pub ends-second : (tile_by ss second).ended ≡ (tile_by ss b).made
  pub fused : FusedOf (tile_by ss b) (tile_by ss first) (tile_by ss second)

-- so do these blocks, one after the other
abbrev pub Joins : List Spot → List ℕ → List ℕ → Type 0
Joins ss [] row = Unit {0}
Joins ss (b ∷ bs) row = (j : Joining ss b row) × Joins ss bs (j.before ++ (b ∷ j.behind))

pub record Fused (ss : List Spot) : Type 0 where
  -- "in place order": a place block ends before the next begins
  pub apart : (i : ℕ) → suc i < cuts_for (length ss) → last_key_of (get_or (tiles ss) i no_tile).spots < first_key_of (get_or (tiles ss) (suc i) no_tile).spots
  -- "as the upward sweep in rank order makes them"
  pub makers : (i : ℕ) → cuts_for (length ss) ≤ i → suc i < length (tiles ss)
      → rank_key (get_or (tiles ss) i no_tile).made < rank_key (get_or (tiles ss) (suc i) no_tile).made
  pub above : (i : ℕ) → cuts_for (length ss) ≤ i → i < length (tiles ss) → (k : ℕ) → Memᴰ k (keys (get_or (tiles ss) i no_tile).spots)
      → rank_key (get_or (tiles ss) i no_tile).made < rank_key k
  -- the place blocks stand first, and each fused block takes the place of two
  pub joins : Joins ss (up_to (suc (cuts_for (length ss))) (length (tiles ss) - cuts_for (length ss))) (up_to 1 (cuts_for (length ss)))

-- what a Report needs of the blocks that it reads
pub record Enough (q : Query) (ss : List Spot) : Type 0 where
  pub found : keep (wants q) (standing_spots (blocks_met q ss)) ≡ keep (wants q) ss
  pub few : suc (length (blocks_met q ss)) ≤ most_read q (length (keep (wants q) ss))

-- all of it
pub record SweepLaws (ss : List Spot) : Type 0 where
  pub sizes : TileSizes ss
  pub tile : (i : ℕ) → i < length (tiles ss) → TileAt ss i (get_or (tiles ss) i no_tile)
  pub fused : Fused ss
  pub inside : NumbersInside ss
  pub stood : (y : ℕ) → Stood y ss
  pub enough : (q : Query) → Enough q ss
