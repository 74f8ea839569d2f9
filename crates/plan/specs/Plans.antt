-- A sweep as the code holds it: each block as a stretch of the spots and the least rank key that it takes.
-- Assumes nothing.
use Rattle.std.specs.Prelude.{◌≡◌, ℕ, zero, suc, ◌+◌, ◌-◌, ◌*◌, ◌≤◌, ◌<◌, min, ◌⊎◌, Bool, true, length, take, drop, get_or, set, leb}
use mathlib.Core.List.{List, [], ◌∷◌, ◌++◌, Memᴰ}
use Rattle.octets.specs.Lists.{rising}
use Rattle.spot.specs.Keys.{rank_key}
use Rattle.spot.specs.Spots.{keys, key_at, spots_from, spots_in, limited_from}
use Rattle.spot.specs.Sorted.{only}
use Rattle.spot.specs.declared.Spot.{Spot}
use Rattle.sweep.specs.Sweep.{cuts_for}
use Rattle.sweep.specs.Pressed.{Tile, no_key, tiles}
use Rattle.plan.specs.declared.Piece.{Piece}
use Rattle.plan.specs.declared.Plan.{Plan}

-- the key's rank key is at least floor
abbrev pub over : ℕ → ℕ → Bool
over floor k = leb floor (rank_key k)

-- the spots from the a-th on, before the e-th
abbrev pub stretch : List Spot → ℕ → ℕ → List Spot
stretch ss a e = take (e - a) (drop a ss)

abbrev pub piece_spots : List Spot → Piece → List Spot
piece_spots ss p = only (over p.floor) (stretch ss p.from p.to)

-- a block made by the passing of p takes the rank keys from the next one on; a place block takes all
abbrev pub made_by : ℕ → ℕ
made_by zero = no_key
made_by (suc r) = rank_key r

abbrev pub piece_tile : List Spot → Piece → Tile
piece_tile ss p = record { spots = piece_spots ss p; made = made_by p.floor; ended = p.ended }

abbrev pub piece_tiles : List Spot → List Piece → List Tile
piece_tiles ss [] = []
piece_tiles ss (p ∷ ps) = piece_tile ss p ∷ piece_tiles ss ps

abbrev pub plan_tiles : List Spot → Plan → List Tile
plan_tiles ss p = piece_tiles ss (take p.count p.pieces)

-- n spots at the front of a list of bytes that may be pressed
pub record Spots (s : List ℕ) (n : ℕ) : Type 0 where
  pub inside : 12 * n ≤ length s
  pub few : n ≤ 512
  pub rise : rising (keys (spots_in s n)) ≡ true
  pub limits : limited_from s 12 n 0 ≡ true

-- r is the least rank key of at least floor among the first n spots, or the limit where there is none
pub record NextRank (s : List ℕ) (n floor limit r : ℕ) : Type 0 where
  pub small : r ≤ limit
  pub least : (i : ℕ) → i < n → floor ≤ rank_key (key_at s (12 * i)) → r ≤ rank_key (key_at s (12 * i))
  pub found : r < limit → (i : ℕ) × (i < n) × (floor ≤ r) × (rank_key (key_at s (12 * i)) ≡ r)

-- a piece that lies inside the spots and that a block can hold
pub record PieceFits (ss : List Spot) (p : Piece) : Type 0 where
  pub order : p.from ≤ p.to
  pub inside : p.to ≤ length ss
  pub few : length (piece_spots ss p) ≤ 64

-- the plan of the whole sweep
pub record SweepPlanned (ss : List Spot) (p : Plan) : Type 0 where
  pub few : p.count ≤ 15
  pub sized : length p.pieces ≡ 16
  pub tiles : plan_tiles ss p ≡ tiles ss
  pub fits : (x : Piece) → Memᴰ x (take p.count p.pieces) → PieceFits ss x

-- n spots at the front whose keys may be read
pub record SpotsReadable (s : List ℕ) (n : ℕ) : Type 0 where
  pub inside : 12 * n ≤ length s
  pub limits : limited_from s 12 n 0 ≡ true

-- the lesser of best and r, if r is at least floor
pub record Nearer (best r floor x : ℕ) : Type 0 where
  pub small : x ≤ best
  pub least : floor ≤ r → x ≤ r
  pub found : (x ≡ best) ⊎ ((x ≡ r) × (floor ≤ r))

-- no piece: stands where an index is past the end
abbrev pub no_piece : Piece
no_piece = record { from = 0; to = 0; floor = 0; ended = 0 }

-- the i-th place block of n spots
abbrev pub place_piece : ℕ → ℕ → Piece
place_piece n i = record { from = 64 * i; to = min (64 * i + 64) n; floor = 0; ended = no_key }

-- the plan before the sweep passes the first spot
pub record Started (n : ℕ) (p : Plan) : Type 0 where
  pub count : p.count ≡ cuts_for n
  pub stands : p.stands ≡ cuts_for n
  pub sized : length p.pieces ≡ 16
  pub room : length p.order ≡ 8
  pub placed : (i : ℕ) → i < cuts_for n → get_or p.pieces i no_piece ≡ place_piece n i
  pub ordered : (i : ℕ) → i < cuts_for n → get_or p.order i 0 ≡ i

-- the i-th of the blocks that stand
abbrev pub piece_at : Plan → ℕ → Piece
piece_at p i = get_or p.pieces (get_or p.order i 0) no_piece

-- how many spots of a piece have a rank key of at least floor
unfoldable pub piece_left : List ℕ → Piece → ℕ → ℕ
piece_left s p floor = length (only (over floor) (spots_from s p.from (p.to - p.from)))

-- how many the i-th of the blocks that stand has, with its right neighbour
abbrev pub left_at : List ℕ → Plan → ℕ → ℕ → ℕ
left_at s p floor i = piece_left s (piece_at p i) floor + piece_left s (piece_at p (i + 1)) floor

-- a plan whose blocks that stand can be read
pub record PlanShaped (s : List ℕ) (p : Plan) : Type 0 where
  pub few : p.stands ≤ 8
  pub room : p.count < 16
  pub made : (i : ℕ) → i < p.stands → get_or p.order i 0 < p.count
  pub read : (i : ℕ) → i < p.stands → SpotsReadable s (piece_at p i).to

-- i is the first of the blocks that stand which has 64 spots left with its right neighbour; or it has no right neighbour, and none is such a block
pub record RipeAt (s : List ℕ) (p : Plan) (floor i : ℕ) : Type 0 where
  pub before : (j : ℕ) → j < i → j + 1 < p.stands → left_at s p floor j ≡ 64 → ⊥
  pub here : i + 1 < p.stands → left_at s p floor i ≡ 64

-- of n entries the i-th and the next one give way to one
abbrev pub closed_up : List ℕ → ℕ → ℕ → ℕ → List ℕ
closed_up order i n block = take i order ++ (block ∷ drop (i + 2) (take n order))

abbrev pub ended_piece : Piece → ℕ → Piece
ended_piece p key = record { from = p.from; to = p.to; floor = p.floor; ended = key }

abbrev pub ended_at : List Piece → ℕ → ℕ → List Piece
ended_at ps at key = set ps at (ended_piece (get_or ps at no_piece) key)

-- the block that two make, where the sweep has passed the rank key r
abbrev pub fused_piece : Piece → Piece → ℕ → Piece
fused_piece a b r = record { from = a.from; to = b.to; floor = r + 1; ended = no_key }

-- the i-th of the blocks that stand is fused with its right neighbour
pub record Fused (p : Plan) (i r : ℕ) (q : Plan) : Type 0 where
  pub count : q.count ≡ p.count + 1
  pub stands : q.stands + 1 ≡ p.stands
  pub room : length q.order ≡ 8
  pub blocks : q.pieces
      ≡ set (ended_at (ended_at p.pieces (get_or p.order i 0) (rank_key r)) (get_or p.order (i + 1) 0) (rank_key r)) p.count
      (fused_piece (piece_at p i) (piece_at p (i + 1)) r)
  pub standing : take q.stands q.order ≡ closed_up p.order i p.stands p.count

-- the plan once the sweep has passed the rank key r
pub record PassedRank (s : List ℕ) (p : Plan) (r : ℕ) (q : Plan) : Type 0 where
  pub at : ℕ
  pub ripe : RipeAt s p (r + 1) at
  pub fused : at + 1 < p.stands → Fused p at r q
  pub same : p.stands ≤ at + 1 → q ≡ p
