-- A tour as a reader finds it: its catalogue's entries, its blocks, and the rules of their layout.
-- Assumes nothing.
use Rattle.std.specs.Prelude.{ℕ, suc, ◌+◌, ◌-◌, ◌*◌, ◌/◌, ◌%◌, Bool, true, false, cond, ◌&&◌, ◌||◌, List, [], ◌∷◌, length, drop, ltb, leb, eqb}
use Rattle.octets.specs.Lists.{all, every, keep, rising, up_to}
use Rattle.octets.specs.Bytes.{be}
use Rattle.spot.specs.Keys.{rank_of, rank_key, limited}
use Rattle.spot.specs.Query.{least_of}
use Rattle.spot.specs.Spots.{key_at, keys_from, spots_in}
use Rattle.spot.specs.declared.Spot.{Spot}
use Rattle.spot.specs.declared.Query.{Query}
use Rattle.block.specs.Checks.{is_zero}
use Rattle.block.specs.Table.{blocks_of, block}
use Rattle.sweep.specs.Pressed.{no_key}
use Rattle.sweep.specs.Report.{meets_span}
use Rattle.catalogue.specs.declared.Entry.{Entry}

-- 1: "if its length isn't 1 to 16 whole blocks"
unfoldable pub tour_sized : ℕ → Bool
tour_sized bytes = all (eqb (bytes % 2048) 0 ∷ leb 1 (blocks_of bytes) ∷ leb (blocks_of bytes) 16 ∷ [])

-- of m blocks, the catalogue among them, half are place blocks: the first ones behind it
abbrev pub places_of : ℕ → ℕ
places_of m = m / 2

-- "for each other block in turn four bytes with its number of spots, then its lowest and highest identity (place order) and the two whose passing made and
-- ended it": s is the catalogue
unfoldable pub tile_entry_at : List ℕ → ℕ → Entry
tile_entry_at s b =
    let at = 8 + 36 * (b - 1) in
    record { size = be 4 s at; low = key_at s (at + 4); high = key_at s (at + 12); made = key_at s (at + 20); ended = key_at s (at + 28) }

-- "the place blocks of 64 spots": the last of them may have fewer, and a fused block has 64
unfoldable pub size_fine : ℕ → ℕ → ℕ → Bool
size_fine m b n = cond (eqb b (places_of m)) (leb 1 n && leb n 64) (eqb n 64)

-- "the two whose passing made and ended it, zero if none": no passing made a place block, and none ended the last block. "A stored place outside counts as a
-- broken rule under 3"
unfoldable pub made_fine : ℕ → ℕ → ℕ → Bool
made_fine m b k = cond (leb b (places_of m)) (eqb k no_key) (limited k)

unfoldable pub ended_fine : ℕ → ℕ → ℕ → Bool
ended_fine m b k = cond (eqb (suc b) m) (eqb k no_key) (limited k)

-- "its lowest and highest identity (place order)": of one spot the same, of more two that rise
unfoldable pub span_fine : ℕ → ℕ → ℕ → Bool
span_fine n low high = cond (eqb n 1) (eqb low high) (ltb low high)

unfoldable pub tile_entry_fine : ℕ → ℕ → Entry → Bool
tile_entry_fine m b e =
    all
    (size_fine m b e.size
    ∷ span_fine e.size e.low e.high
    ∷ limited e.low
    ∷ limited e.high
    ∷ made_fine m b e.made
    ∷ ended_fine m b e.ended
    ∷ [])

-- ---- what the entries show of each other; `e` gives a block's entry

-- "From up to 512 spots in place order .. the place blocks": block b ends before the next one begins
unfoldable pub apart : (ℕ → Entry) → ℕ → Bool
apart e b = ltb (e b).high (e (suc b)).low

-- "as the upward sweep in rank order makes them": the passing that made block b came before the one that made the next, since a passing makes at most one
unfoldable pub makers_rise : (ℕ → Entry) → ℕ → Bool
makers_rise e b = ltb (rank_key (e b).made) (rank_key (e (suc b)).made)

-- the key lies in the span of one of two blocks
unfoldable pub in_spans : Entry → Entry → ℕ → Bool
in_spans x y k = (leb x.low k && leb k x.high) || (leb y.low k && leb k y.high)

-- the passing of p ended both
unfoldable pub ended_both : ℕ → Entry → Entry → Bool
ended_both p x y = eqb x.ended p && eqb y.ended p

-- a fused block z has spots of the two that its maker ended, x and y: the maker, its lowest and its highest lie in their spans, the last two above the maker in rank order
unfoldable pub fused_fine : Entry → Entry → Entry → Bool
fused_fine z x y =
    all
    (in_spans x y z.made
    ∷ in_spans x y z.low
    ∷ in_spans x y z.high
    ∷ ltb (rank_key z.made) (rank_key z.low)
    ∷ ltb (rank_key z.made) (rank_key z.high)
    ∷ [])

-- of a and the blocks that stand right of it, the first two side by side that the maker of block b ended, fit b; none such: they don't
abbrev pub joins_from : (ℕ → Entry) → ℕ → ℕ → List ℕ → Bool
joins_from e b a [] = false
joins_from e b a (c ∷ row) = cond (ended_both (e b).made (e a) (e c)) (fused_fine (e b) (e a) (e c)) (joins_from e b c row)

abbrev pub joins : (ℕ → Entry) → ℕ → List ℕ → Bool
joins e b [] = false
joins e b (a ∷ row) = joins_from e b a row

-- the blocks that stand then, from left to right: b in the place of the two
abbrev pub joined_from : (ℕ → Entry) → ℕ → ℕ → List ℕ → List ℕ
joined_from e b a [] = a ∷ []
joined_from e b a (c ∷ row) = cond (ended_both (e b).made (e a) (e c)) (b ∷ row) (a ∷ joined_from e b c row)

abbrev pub joined_row : (ℕ → Entry) → ℕ → List ℕ → List ℕ
joined_row e b [] = []
joined_row e b (a ∷ row) = joined_from e b a row

-- "then the fused blocks as the upward sweep .. makes them": each takes the place of two that stood side by side. Each block but the last is one of two so joined, since they
-- are one less than the place blocks.
abbrev pub joins_all : (ℕ → Entry) → List ℕ → List ℕ → Bool
joins_all e [] row = true
joins_all e (b ∷ bs) row = joins e b row && joins_all e bs (joined_row e b row)

-- the entries of a tour of m blocks, beside what each shows alone
unfoldable pub entries_agree : ℕ → (ℕ → Entry) → Bool
entries_agree m e =
    let l = places_of m in
    all
    (every (apart e) (up_to 1 (l - 1))
    ∷ every (makers_rise e) (up_to (suc l) (m - l - 2))
    ∷ joins_all e (up_to (suc l) (m - l - 1)) (up_to 1 l)
    ∷ [])

-- the catalogue alone, or with it an even number of blocks
unfoldable pub blocks_fine : ℕ → Bool
blocks_fine m = eqb m 1 || eqb (m % 2) 0

-- "The catalogue has the length in four bytes, version byte 1, three zero bytes", entries in order, and "unused bytes zero"; s is the catalogue of a tour of so
-- many bytes
unfoldable pub catalogue_fine : ℕ → List ℕ → Bool
catalogue_fine bytes s =
    let m = blocks_of bytes in
    all
    (eqb (be 4 s 0) bytes
    ∷ eqb (be 4 s 4) 16777216
    ∷ blocks_fine m
    ∷ every (λ b. tile_entry_fine m b (tile_entry_at s b)) (up_to 1 (m - 1))
    ∷ every is_zero (drop (8 + 36 * (m - 1)) s)
    ∷ entries_agree m (tile_entry_at s)
    ∷ [])

-- the key is above the passing that made block b, in rank order; none made a place block
unfoldable pub above_maker : ℕ → ℕ → Entry → ℕ → Bool
above_maker m b e k = leb b (places_of m) || ltb (rank_key e.made) (rank_key k)

-- "The others begin with their spots in place order"; the first and the last are those that the entry names, all above the passing that made the block, "unused bytes zero"; s is
-- the bytes of block b in a tour of m
unfoldable pub tile_fine : ℕ → ℕ → Entry → List ℕ → Bool
tile_fine m b e s =
    all
    (rising (keys_from s 12 e.size 0)
    ∷ eqb (key_at s 0) e.low
    ∷ eqb (key_at s (12 * (e.size - 1))) e.high
    ∷ every is_zero (drop (12 * e.size) s)
    ∷ every (above_maker m b e) (keys_from s 12 e.size 0)
    ∷ [])

-- block b's entry, and its spots
unfoldable pub tile_entry : List ℕ → ℕ → Entry
tile_entry t b = tile_entry_at (block t 0) b

unfoldable pub tile_spots : List ℕ → ℕ → List Spot
tile_spots t b = spots_in (block t b) (tile_entry t b).size

-- ---- what a Report reads

-- "each block standing once all ranks under y are passed": it was made by then, and not ended. Its position says whether a passing made it, and ended it.
unfoldable pub stands : Query → ℕ → ℕ → Entry → Bool
stands q m b e = (leb b (places_of m) || ltb (rank_of e.made) (least_of q)) && (eqb (suc b) m || leb (least_of q) (rank_of e.ended))

-- "reads just the catalogue and each block standing once all ranks under y are passed whose span of places meets the range": in a tour of m blocks
unfoldable pub asks : Query → ℕ → ℕ → Entry → Bool
asks q m b e = stands q m b e && meets_span q e.low e.high

-- the blocks read beside the catalogue
unfoldable pub tiles_read : List ℕ → Query → List ℕ
tiles_read t q = let m = blocks_of (length t) in keep (λ b. asks q m b (tile_entry t b)) (up_to 1 (m - 1))

-- 3: "if a block read breaks its layout"
unfoldable pub tour_fine : List ℕ → Query → Bool
tour_fine t q = catalogue_fine (length t) (block t 0) && every (λ b. tile_fine (blocks_of (length t)) b (tile_entry t b) (block t b)) (tiles_read t q)
