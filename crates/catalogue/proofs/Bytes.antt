-- The bytes of a tour: how long its parts are, and each block of it.
-- Assumes nothing.
use mathlib.Core.Path.{◌≡◌, refl, ap, ◌∙◌}
use mathlib.Core.List.{List, [], ◌∷◌, ◌++◌, Memᴰ}
use Prim.Native.Nat.{ℕ, zero, suc, ◌+◌, ◌-◌, ◌*◌, ◌≤◌, ◌<◌}
use native.Mathlib.Nat.{le_of_suc-le-suc, not-suc-le-zero}
use native.Mathlib.Omega.{arith}
use lib.ListN.{length, take, drop, get_or, replicate, length-append, length-replicate}
use lib.Seq.{take_at, drop-append-add}
use Rattle.octets.specs.Bytes.{bytes_of}
use Rattle.octets.proofs.Bytes.{length-bytes_of}
use Rattle.octets.proofs.Codec.{length-coded}
use Rattle.spot.specs.Spots.{spots_bytes}
use Rattle.spot.proofs.Card.{length-key_bytes}
use Rattle.spot.proofs.Stored.{length-spots_bytes}
use Rattle.block.specs.Table.{block}
use Rattle.sweep.specs.Pressed.{Tile, padded, first_key_of, last_key_of, tile_entry_bytes, tile_entries_bytes, catalogue, tiles_bytes, tour_of}
use Rattle.sweep.specs.Laws.{no_tile}

-- ---- lengths

pub padded-is : (xs : List ℕ) → padded xs ≡ xs ++ replicate (2048 - length xs) 0
unfolding padded
padded-is xs = refl

pub length-padded : (xs : List ℕ) → length xs ≤ 2048 → length (padded xs) ≡ 2048
length-padded xs h =
    ap length (padded-is xs) ∙ length-append xs (replicate (2048 - length xs) 0) ∙ omega (arith, length-replicate {A = ℕ} (2048 - length xs) 0)

pub length-entry : (t : Tile) → length (tile_entry_bytes t) ≡ 36
unfolding tile_entry_bytes
length-entry t =
    simp length-append
    (omega
    (arith, length-bytes_of 4 (length t.spots), length-key_bytes (first_key_of t.spots), length-key_bytes (last_key_of t.spots), length-key_bytes t.made, length-key_bytes t.ended))

pub length-entries : (ts : List Tile) → length (tile_entries_bytes ts) ≡ 36 * length ts
length-entries = length-coded tile_entries_bytes tile_entry_bytes 36 refl (λ t ts. refl) length-entry

-- the catalogue's first eight bytes: the tour's length, and the version
abbrev pub front : List Tile → List ℕ
front ts = bytes_of 4 (2048 * suc (length ts)) ++ (1 ∷ 0 ∷ 0 ∷ 0 ∷ [])

pub length_front : (ts : List Tile) → length (front ts) ≡ 8
length_front ts =
    length-append (bytes_of 4 (2048 * suc (length ts))) (1 ∷ 0 ∷ 0 ∷ 0 ∷ []) ∙ omega (arith, length-bytes_of 4 (2048 * suc (length ts)))

-- the catalogue's bytes that are in use
abbrev pub used : List Tile → List ℕ
used ts = front ts ++ tile_entries_bytes ts

pub length-used : (ts : List Tile) → length (used ts) ≡ 8 + 36 * length ts
length-used ts = length-append (front ts) (tile_entries_bytes ts) ∙ omega (arith, length_front ts, length-entries ts)

pub catalogue-is : (ts : List Tile) → catalogue ts ≡ padded (used ts)
unfolding catalogue
catalogue-is ts = refl

pub length-catalogue : (ts : List Tile) → length ts ≤ 15 → length (catalogue ts) ≡ 2048
length-catalogue ts h = ap length (catalogue-is ts) ∙ length-padded (used ts) (omega (arith, length-used ts))

-- ---- blocks

-- a list of so few tiles, none with more than 64 spots, is a tour
pub record Fits (ts : List Tile) : Type 0 where
  pub few : length ts ≤ 15
  pub small : (t : Tile) → Memᴰ t ts → length t.spots ≤ 64

abbrev pub tile_bytes : Tile → List ℕ
tile_bytes t = padded (spots_bytes t.spots)

length-tile : (t : Tile) → length t.spots ≤ 64 → length (tile_bytes t) ≡ 2048
length-tile t h = length-padded (spots_bytes t.spots) (omega (arith, length-spots_bytes t.spots))

length-tiles : (ts : List Tile) → ((t : Tile) → Memᴰ t ts → length t.spots ≤ 64) → length (tiles_bytes ts) ≡ 2048 * length ts
length-tiles [] h = refl
length-tiles (t ∷ ts) h =
    length-append (tile_bytes t) (tiles_bytes ts)
    ∙ omega (arith, length-tile t (h t (Memᴰ.head refl)), length-tiles ts (λ x i. h x (Memᴰ.tail i)))

tile-at : (ts : List Tile) → ((t : Tile) → Memᴰ t ts → length t.spots ≤ 64) → (i : ℕ) → i < length ts
    → block (tiles_bytes ts) i ≡ tile_bytes (get_or ts i no_tile)
tile-at [] h i l = absurd (not-suc-le-zero l)
tile-at (t ∷ ts) h zero l = take_at (tile_bytes t) (tiles_bytes ts) 2048 (length-tile t (h t (Memᴰ.head refl)))
tile-at (t ∷ ts) h (suc i) l =
    let e : suc i * 2048 ≡ length (tile_bytes t) + i * 2048 = omega (arith, length-tile t (h t (Memᴰ.head refl))) in
    ap (λ (k : ℕ). take 2048 (drop k (tile_bytes t ++ tiles_bytes ts))) e ∙ ap (take 2048) (drop-append-add (tile_bytes t) (tiles_bytes ts) (i * 2048))
    ∙ tile-at ts (λ x j. h x (Memᴰ.tail j)) i (le_of_suc-le-suc l)

module _ (ts : List Tile) (fits : Fits ts) where
  pub length-tour : length (tour_of ts) ≡ 2048 * suc (length ts)
  unfolding tour_of
  length-tour =
      length-append (catalogue ts) (tiles_bytes ts)
      ∙ omega (arith, length-catalogue ts fits.few, length-tiles ts fits.small)

  pub block-first : block (tour_of ts) 0 ≡ catalogue ts
  unfolding tour_of
  block-first = take_at (catalogue ts) (tiles_bytes ts) 2048 (length-catalogue ts fits.few)

  pub block-next : (i : ℕ) → i < length ts → block (tour_of ts) (suc i) ≡ tile_bytes (get_or ts i no_tile)
  unfolding tour_of
  block-next i l =
      let e : suc i * 2048 ≡ length (catalogue ts) + i * 2048 = omega (arith, length-catalogue ts fits.few) in
      ap (λ (k : ℕ). take 2048 (drop k (catalogue ts ++ tiles_bytes ts))) e ∙ ap (take 2048) (drop-append-add (catalogue ts) (tiles_bytes ts) (i * 2048))
      ∙ tile-at ts fits.small i l
