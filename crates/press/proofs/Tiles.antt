-- The blocks of a plan one behind the other, their entries in the catalogue, and both as a tour.
-- Assumes nothing.
use mathlib.Core.Path.{◌≡◌, refl, sym, ap, ◌∙◌}
use mathlib.Core.List.{List, [], ◌∷◌, ◌++◌, Memᴰ, append-nil}
use Prim.Native.Nat.{ℕ, suc, ◌+◌, ◌-◌, ◌*◌, ◌≤◌, ◌<◌}
use native.Mathlib.Omega.{arith}
use lib.ListN.{length, take, drop, get_or, length-append, length-replicate}
use lib.Seq.{take-length, get_or-take, length-take-le}
use borrow.Rule.Slice.PartMut.{put_mid}
use Rattle.octets.specs.Bytes.{bytes_of, put_bytes}
use Rattle.octets.proofs.Bytes.{length-bytes_of}
use Rattle.octets.proofs.Codec.{length-coded, record-behind}
use Rattle.octets.proofs.Lists.{at_mem, mem-take}
use Rattle.octets.proofs.Parts.{bytes-length, bytes-behind, bytes-nothing}
use Rattle.spot.specs.Spots.{spots_bytes}
use Rattle.spot.specs.declared.Spot.{Spot}
use Rattle.spot.proofs.Card.{length-key_bytes}
use Rattle.spot.proofs.Stored.{length-spots_bytes}
use Rattle.sweep.specs.Pressed.{Tile, padded, tile_entry_bytes, tile_entries_bytes, catalogue, tiles_bytes, tour_of, tiles, pressed}
use Rattle.plan.specs.declared.Piece.{Piece}
use Rattle.plan.specs.declared.Plan.{Plan}
use Rattle.plan.specs.Plans.{piece_spots, piece_tile, piece_tiles, PieceFits, SweepPlanned}
use Rattle.press.specs.Writing.{head_bytes, TourWritten}
use Rattle.press.proofs.PutBytes.{zeros, block_made, length-padded, part-back}

-- ---- an entry, a block

length-entry : (t : Tile) → length (tile_entry_bytes t) ≡ 36
unfolding tile_entry_bytes
length-entry t = simp (length-append, length-key_bytes, length-bytes_of)

length-head : (n : ℕ) → length (head_bytes n) ≡ 8
unfolding head_bytes
length-head n = simp (length-append, length-bytes_of)

module _ (ss : List Spot) where
  abbrev entries_of : List Piece → List ℕ
  entries_of ps = tile_entries_bytes (piece_tiles ss ps)

  abbrev blocks_of : List Piece → List ℕ
  blocks_of ps = tiles_bytes (piece_tiles ss ps)

  abbrev block_of : Piece → List ℕ
  block_of p = padded (spots_bytes (piece_spots ss p))

  length-entries : (ps : List Piece) → length (entries_of ps) ≡ 36 * length ps
  length-entries = length-coded entries_of (λ p. tile_entry_bytes (piece_tile ss p)) 36 refl (λ p ps. refl) (λ p. length-entry (piece_tile ss p))

  length-block : (p : Piece) → PieceFits ss p → length (block_of p) ≡ 2048
  length-block p f = length-padded (spots_bytes (piece_spots ss p)) (let a = f.few in omega (arith, length-spots_bytes (piece_spots ss p)))

  abbrev Fit : List Piece → Type 0
  Fit ps = (x : Piece) → Memᴰ x ps → PieceFits ss x

  length-blocks : (ps : List Piece) → Fit ps → length (blocks_of ps) ≡ 2048 * length ps
  length-blocks [] fit = refl
  length-blocks (p ∷ ps) fit =
      length-append (block_of p) (blocks_of ps)
      ∙ omega (arith, length-block p (fit p (Memᴰ.head refl)), length-blocks ps (λ x m. fit x (Memᴰ.tail m)))

  length-tiles : (ps : List Piece) → length (piece_tiles ss ps) ≡ length ps
  length-tiles [] = refl
  length-tiles (p ∷ ps) = ap suc (length-tiles ps)

-- ---- a plan

module _ (ss : List Spot) (p : Plan) where
  abbrev plan_pieces : List Piece
  plan_pieces = take p.count p.pieces

  -- s with the first i blocks behind the place of the catalogue
  pub record Blocks (s t : List ℕ) (i : ℕ) : Type 0 where
    pub inside : i ≤ p.count
    pub long : length t ≡ length s
    pub bytes : t ≡ put_bytes s 2048 (blocks_of ss (take i plan_pieces))

  -- a catalogue of n bytes with the first i entries
  pub record Entries (n : ℕ) (t : List ℕ) (i : ℕ) : Type 0 where
    pub inside : i ≤ p.count
    pub long : length t ≡ n
    pub bytes : t ≡ put_bytes (zeros n) 0 (head_bytes p.count ++ entries_of ss (take i plan_pieces))

module _ (ss : List Spot) (p : Plan) (planned : SweepPlanned ss p) where
  abbrev made : List Piece
  made = plan_pieces ss p

  made-length : length made ≡ p.count
  made-length = length-take-le p.count p.pieces (omega (arith, planned.few, planned.sized))

  made_at : (i : ℕ) (d : Piece) → i < p.count → get_or made i d ≡ get_or p.pieces i d
  made_at i d h = get_or-take p.count p.pieces i d h

  -- the i-th piece fits a block
  pub fits-at : (i : ℕ) (d : Piece) → i < p.count → PieceFits ss (get_or p.pieces i d)
  fits-at i d h = planned.fits (get_or p.pieces i d) (rw (made_at i d h) at (at_mem made i d (omega (arith, made-length))))

  -- the blocks written so far
  pub blocks-none : (s : List ℕ) → Blocks ss p s s 0
  blocks-none s = record { inside = omega arith; long = refl; bytes = bytes-nothing s 2048 }

  pub blocks_more : (s : List ℕ) {t y : List ℕ} (i : ℕ) (d : Piece) → i < p.count → 32768 ≤ length s → Blocks ss p s t i → y ≡ block_of ss (get_or p.pieces i d)
      → Blocks ss p s (put_mid (2048 * (i + 1)) (2048 * (i + 1) + 2048 - 2048 * (i + 1)) t y) (i + 1)
  blocks_more s {t} {y} i d h k v e =
      let at : ℕ = 2048 * (i + 1) in
      let n : length (take i made) ≡ i = length-take-le i made (omega (arith, made-length)) in
      let f : length y ≡ 2048 = ap length e ∙ length-block ss (get_or p.pieces i d) (fits-at i d h) in
      let q : put_mid at (at + 2048 - at) t y ≡ put_bytes t at y = part-back t y at (at + 2048) (omega arith) in
      record {
        inside = omega arith;
        long = ap length q ∙ bytes-length t y at (omega (arith, v.long, planned.few)) ∙ v.long;
        bytes = record-behind (blocks_of ss) (block_of ss) 2048 refl (λ p ps. refl) s [] 2048 at made i d (omega (arith, made-length))
            (omega (arith, length-blocks ss (take i made) (λ x m. planned.fits x (mem-take i made m)))) (omega (arith, planned.few)) v.bytes
            (q ∙ ap (put_bytes t at) (e ∙ ap (block_of ss) (sym (made_at i d h))));
      }

  all-taken : (i : ℕ) → i ≡ p.count → take i made ≡ made
  all-taken i e = ap (λ (k : ℕ). take k made) (e ∙ sym made-length) ∙ take-length made

  pub blocks-all : {s t : List ℕ} {i : ℕ} → Blocks ss p s t i → p.count ≤ i → t ≡ put_bytes s 2048 (tiles_bytes (tiles ss))
  blocks-all {s} {t} {i} v h =
      v.bytes ∙ ap (λ (l : List Piece). put_bytes s 2048 (blocks_of ss l)) (all-taken i (omega (arith, v.inside)))
      ∙ ap (λ (l : List Tile). put_bytes s 2048 (tiles_bytes l)) planned.tiles

  -- the catalogue so far
  pub entries_none : (n : ℕ) {t : List ℕ} → length t ≡ n → t ≡ put_bytes (zeros n) 0 (head_bytes p.count) → Entries ss p n t 0
  entries_none n l e =
      record { inside = omega arith; long = l; bytes = e ∙ ap (put_bytes (zeros n) 0) (sym (append-nil (head_bytes p.count))) }

  pub entries-more : (n : ℕ) {t u : List ℕ} (i : ℕ) (d : Piece) → n ≡ 2048 → i < p.count → Entries ss p n t i → length u ≡ length t
      → u ≡ put_bytes t (8 + 36 * i) (tile_entry_bytes (piece_tile ss (get_or p.pieces i d))) → Entries ss p n u (i + 1)
  entries-more n {t} i d z h v g q =
      let l : length (take i made) ≡ i = length-take-le i made (omega (arith, made-length)) in
      let c : List ℕ = head_bytes p.count in
      record {
        inside = omega arith;
        long = g ∙ v.long;
        bytes = record-behind (entries_of ss) (λ x. tile_entry_bytes (piece_tile ss x)) 36 refl (λ p ps. refl) (zeros n) c 0 (8 + 36 * i) made i d (omega (arith, made-length))
            (omega (arith, length-append c (entries_of ss (take i made)), length-head p.count, length-entries ss (take i made)))
            (omega (arith, planned.few, length-replicate {A = ℕ} n 0)) v.bytes
            (q ∙ ap (λ (x : Piece). put_bytes t (8 + 36 * i) (tile_entry_bytes (piece_tile ss x))) (sym (made_at i d h)));
      }

  tiles-count : length (tiles ss) ≡ p.count
  tiles-count = ap (λ (l : List Tile). length l) (sym planned.tiles) ∙ length-tiles ss made ∙ made-length

  catalogue-is : (n : ℕ) → n ≡ length (tiles ss) → padded (head_bytes n ++ tile_entries_bytes (tiles ss)) ≡ catalogue (tiles ss)
  unfolding head_bytes catalogue bytes_of
  catalogue-is n e = ap (λ (k : ℕ). padded (bytes_of 4 (2048 * suc k) ++ (1 ∷ 0 ∷ 0 ∷ 0 ∷ []) ++ tile_entries_bytes (tiles ss))) e

  pub entries-all : {n : ℕ} {t : List ℕ} {i : ℕ} → n ≡ 2048 → Entries ss p n t i → p.count ≤ i → t ≡ catalogue (tiles ss)
  entries-all {n} {t} {i} z v h =
      let c : List ℕ = head_bytes p.count in
      v.bytes ∙ ap (λ (l : List Piece). put_bytes (zeros n) 0 (c ++ entries_of ss l)) (all-taken i (omega (arith, v.inside)))
      ∙ block_made n (c ++ entries_of ss made) z
      ∙ ap (λ (l : List Tile). padded (c ++ tile_entries_bytes l)) planned.tiles
      ∙ catalogue-is p.count (sym tiles-count)

  -- ---- the tour

  length-catalogue : length (catalogue (tiles ss)) ≡ 2048
  length-catalogue =
      let xs : List ℕ = head_bytes p.count ++ tile_entries_bytes (tiles ss) in
      let m : length (tile_entries_bytes (tiles ss)) ≡ 36 * length made =
      ap (λ (l : List Tile). length (tile_entries_bytes l)) (sym planned.tiles) ∙ length-entries ss made
      in
      ap length (sym (catalogue-is p.count (sym tiles-count)))
      ∙ length-padded xs (omega (arith, length-append (head_bytes p.count) (tile_entries_bytes (tiles ss)), length-head p.count, made-length, planned.few))

  length-tour : length (pressed ss) ≡ 2048 + 2048 * p.count
  unfolding pressed tour_of
  length-tour =
      let m : length (tiles_bytes (tiles ss)) ≡ 2048 * length made =
      ap (λ (l : List Tile). length (tiles_bytes l)) (sym planned.tiles) ∙ length-blocks ss made planned.fits
      in
      length-append (catalogue (tiles ss)) (tiles_bytes (tiles ss)) ∙ omega (arith, length-catalogue, made-length)

  -- the catalogue at the front, then the blocks
  pub tour-written : (s : List ℕ) {y u : List ℕ} → 32768 ≤ length s → y ≡ catalogue (tiles ss) → u ≡ put_bytes (put_mid 0 (2048 - 0) s y) 2048 (tiles_bytes (tiles ss))
      → TourWritten ss s u
  unfolding pressed tour_of put_bytes
  tour-written s {y} h e q =
      let z : 0 + length (pressed ss) ≡ length (pressed ss) = omega arith in
      let t : put_mid 0 (2048 - 0) s y ≡ put_bytes s 0 (catalogue (tiles ss)) = part-back s y 0 2048 (ap length e ∙ length-catalogue) ∙ ap (put_bytes s 0) e in
      record {
        bytes = bytes-behind s (catalogue (tiles ss)) (tiles_bytes (tiles ss)) 0 2048 (omega (arith, length-catalogue)) (omega arith) t q
            ∙ ap (λ (k : ℕ). pressed ss ++ drop k s) z;
        short = omega (arith, length-tour, planned.few);
      }
