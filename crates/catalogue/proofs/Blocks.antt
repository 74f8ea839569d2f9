-- What stands in a pressed tour: its length, its blocks, its entries and their spots.
-- Assumes nothing.
use mathlib.Core.Path.{◌≡◌, refl, ap, ap₂, subst, ◌∙◌}
use mathlib.Core.Logic.{⊎_elim}
use mathlib.Core.Bool.{Bool, true, false}
use mathlib.Core.List.Memᴰ
use mathlib.Core.List.{List, [], Memᴰ}
use Prim.Native.Nat.{ℕ, suc, ◌-◌, ◌*◌, ◌%◌, ◌≤◌, ◌<◌}
use native.Mathlib.Omega.{arith}
use lib.ListN.{length, get_or, replicate}
use borrow.Author.Tests.{le-leb, eq-eqb}
use Rattle.octets.specs.Lists.{every}
use Rattle.octets.proofs.Order.{less-or-not}
use Rattle.octets.proofs.Tests.{and_both, all_cons, all_nil, every-mem, every-make}
use Rattle.octets.proofs.Lists.{mem-at}
use Rattle.spot.specs.Keys.{all_keys, limited, unsigned32, within}
use Rattle.spot.specs.Spots.{keys, spots_in, spots_bytes}
use Rattle.spot.specs.declared.Spot.{Spot}
use Rattle.spot.proofs.Buffers.{keys-mem, keys_from_lem}
use Rattle.spot.proofs.Limits.{limited-small}
use Rattle.spot.proofs.Places.{within-yes}
use Rattle.spot.proofs.Stored.{good_spot, spots-back}
use Rattle.block.specs.Table.{blocks_of, block}
use Rattle.sweep.specs.Sweep.{cuts_for, sweep}
use Rattle.sweep.specs.Pressed.{Tile, tiles, first_key_of, last_key_of, catalogue, pressed, Pressable}
use Rattle.sweep.specs.Laws.{no_tile, consumed, SweepLaws}
use Rattle.sweep.proofs.Found.{lowest-in, highest-in}
use Rattle.catalogue.specs.declared.Entry.{Entry}
use Rattle.catalogue.specs.Catalogue.{tour_sized, tile_entry_at, tile_entry, tile_spots}
use Rattle.catalogue.proofs.Bytes.{padded-is, tile_bytes, Fits, length-tour, block-first, block-next}
use Rattle.catalogue.proofs.Entries.{Storable, entry_for, entry_at}

-- ---- a pressed tour

-- its i-th tile
abbrev pub ith : List Spot → ℕ → Tile
ith ss i = get_or (tiles ss) i no_tile

module _ (ss : List Spot) (g : Pressable ss) (w : SweepLaws ss) where
  pub few-cuts : cuts_for (length ss) ≤ 8
  unfolding cuts_for
  few-cuts = omega (arith, g.few)

  pub few-tiles : length (tiles ss) ≤ 15
  few-tiles = omega (arith, few-cuts, w.sizes.count)

  -- keys of the spots given are stored
  pub key-limited : (k : ℕ) → Memᴰ k (keys ss) → limited k ≡ true
  key-limited k i = every-mem limited (keys ss) g.limits i

  pub key-small : (k : ℕ) → Memᴰ k (keys ss) → k < all_keys
  key-small k i = limited-small k (key-limited k i)

  good : (s : Spot) → Memᴰ s ss → good_spot s ≡ true
  unfolding unsigned32
  good s i =
      and_both (within 0 all_keys s.key) (unsigned32 s.track) (within-yes 0 all_keys s.key (omega arith) (key-small s.key (keys-mem ss i)))
      (le-leb s.track 4294967295 (omega (arith, g.tracks s i)))

  module _ (i : ℕ) (l : i < length (tiles ss)) where
    -- its keys are among those of the spots given
    pub from_key : {k : ℕ} → Memᴰ k (keys (ith ss i).spots) → Memᴰ k (keys ss)
    from_key j = let r = keys_from_lem (ith ss i).spots j in Memᴰ.cast r.2 (keys-mem ss ((w.tile i l).from r.0 r.1))

    pub low-limited : limited (first_key_of (ith ss i).spots) ≡ true
    low-limited = key-limited (first_key_of (ith ss i).spots) (from_key (lowest-in (ith ss i).spots (w.sizes.some i l)))

    pub high-limited : limited (last_key_of (ith ss i).spots) ≡ true
    high-limited = key-limited (last_key_of (ith ss i).spots) (from_key (highest-in (ith ss i).spots (w.sizes.some i l)))

    made-small : (ith ss i).made < all_keys
    made-small =
        ⊎_elim (λ (h : cuts_for (length ss) ≤ i). key-small (ith ss i).made ((w.tile i l).made h))
        (λ (h : i < cuts_for (length ss)). omega (arith, (w.tile i l).unmade h))
        (less-or-not (cuts_for (length ss)) i)

    ended-small : (ith ss i).ended < all_keys
    ended-small = go (consumed (suc i) (sweep ss)) refl
      where
        go : (b : Bool) → consumed (suc i) (sweep ss) ≡ b → (ith ss i).ended < all_keys
        go true h = key-small (ith ss i).ended ((w.tile i l).ended h)
        go false h = omega (arith, (w.tile i l).unended h)

    storable : Storable (ith ss i)
    storable =
        record {
          size = w.sizes.few i l;
          low = limited-small (first_key_of (ith ss i).spots) low-limited;
          high = limited-small (last_key_of (ith ss i).spots) high-limited;
          made = made-small;
          ended = ended-small;
        }

    all-good : every good_spot (ith ss i).spots ≡ true
    all-good = every-make good_spot (ith ss i).spots (λ s j. good s ((w.tile i l).from s j))

  -- each tile has an index
  pub each-storable : (t : Tile) → Memᴰ t (tiles ss) → Storable t
  each-storable t j = let r = mem-at (tiles ss) no_tile j in subst Storable r.2 (storable r.0 r.1)

  fits : Fits (tiles ss)
  fits = record { few = few-tiles; small = λ t j. (each-storable t j).size }

  pub length-pressed : length (pressed ss) ≡ 2048 * suc (length (tiles ss))
  unfolding pressed
  length-pressed = length-tour (tiles ss) fits

  pub blocks-pressed : blocks_of (length (pressed ss)) ≡ suc (length (tiles ss))
  blocks-pressed = omega (arith, length-pressed)

  pub sized-pressed : tour_sized (length (pressed ss)) ≡ true
  unfolding tour_sized
  sized-pressed =
      let m : length (pressed ss) % 2048 ≡ 0 = omega (arith, length-pressed) in
      all_cons _ _ (eq-eqb (length (pressed ss) % 2048) 0 m)
      (all_cons _ _ (le-leb 1 (blocks_of (length (pressed ss))) (omega (arith, blocks-pressed)))
      (all_cons _ _ (le-leb (blocks_of (length (pressed ss))) 16 (omega (arith, blocks-pressed, few-tiles))) all_nil))

  pub first_block : block (pressed ss) 0 ≡ catalogue (tiles ss)
  unfolding pressed
  first_block = block-first (tiles ss) fits

  module _ (i : ℕ) (l : i < length (tiles ss)) where
    pub tile-block : block (pressed ss) (suc i) ≡ tile_bytes (ith ss i)
    unfolding pressed
    tile-block = block-next (tiles ss) fits i l

    pub tile-entry : tile_entry (pressed ss) (suc i) ≡ entry_for (ith ss i)
    unfolding tile_entry
    tile-entry = ap (λ (s : List ℕ). tile_entry_at s (suc i)) first_block ∙ entry_at (tiles ss) each-storable i l

    -- a tile's bytes hold its spots
    pub tile-back : spots_in (tile_bytes (ith ss i)) (length (ith ss i).spots) ≡ (ith ss i).spots
    tile-back =
        let xs = (ith ss i).spots in
        ap (λ (s : List ℕ). spots_in s (length xs)) (padded-is (spots_bytes xs)) ∙ spots-back xs (all-good i l) [] (replicate (2048 - length (spots_bytes xs)) 0)

    pub tile-spots : tile_spots (pressed ss) (suc i) ≡ (ith ss i).spots
    unfolding tile_spots
    tile-spots = ap₂ spots_in tile-block (ap (λ (e : Entry). e.size) tile-entry) ∙ tile-back
