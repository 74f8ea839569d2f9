-- A pressed tour keeps every rule of its layout, and asking it for a block agrees with the sweep.
-- Assumes nothing.
use mathlib.Core.Path.{◌≡◌, refl, sym, ap, ap₂, ◌∙◌}
use mathlib.Core.Logic.{⊎_elim}
use mathlib.Core.Bool.{Bool, true, false, cond, not, ◌&&◌, ◌||◌, not-not, or-true, and-false}
use mathlib.Core.List.{List, [], ◌∷◌, Memᴰ}
use Prim.Native.Nat.{ℕ, zero, suc, ◌+◌, ◌-◌, ◌*◌, ◌/◌, ◌%◌, ◌≤◌, ◌<◌}
use native.Mathlib.Nat.{not-suc-le-zero, le_of_suc-le-suc}
use native.Mathlib.Omega.{arith}
use lib.ListN.{length, drop, get_or, replicate}
use lib.Seq.{drop_at}
use lib.Dec.{ltb, leb, eqb}
use borrow.Author.Tests.{lt-ltb, le-leb, lt-leb, eq-eqb, ne_eqb}
use Rattle.octets.specs.Lists.{every, has, keep, rising, up_to}
use Rattle.octets.specs.Bytes.{be}
use Rattle.octets.proofs.Order.{same_or_not, less-or-not, eqb_same}
use Rattle.octets.proofs.Tests.{and_both, all_cons, all_nil, every-make, every-replicate, keep-in}
use Rattle.octets.proofs.UpTo.{up_to-from, every-up_to}
use Rattle.octets.proofs.Records.{records-at}
use Rattle.spot.specs.Keys.{rank_key, rank_of, limited}
use Rattle.spot.specs.Query.{least_of}
use Rattle.spot.specs.Spots.{keys, key_at, keys_from, spots_in, spots_bytes}
use Rattle.spot.specs.declared.Spot.{Spot}
use Rattle.spot.specs.declared.Query.{Query}
use Rattle.spot.proofs.Buffers.{keys-records}
use Rattle.spot.proofs.Stored.{length-spots_bytes}
use Rattle.block.specs.Checks.{is_zero}
use Rattle.block.specs.Table.{blocks_of, block}
use Rattle.sweep.specs.Sweep.{StandingBlock, cuts_for, standing_at, sweep}
use Rattle.sweep.specs.Pressed.{tiles, no_key, first_key_of, last_key_of, last_from, padded, catalogue, pressed, Pressable}
use Rattle.sweep.specs.Report.{meets_span, spanned, blocks_met, numbers}
use Rattle.sweep.specs.Laws.{consumed, SweepLaws}
use Rattle.catalogue.specs.Catalogue.{tile_entry_at, size_fine, made_fine, ended_fine, tile_entry_fine, blocks_fine, catalogue_fine, above_maker, tile_fine, tile_entry, stands, asks, tiles_read, tour_fine}
use Rattle.catalogue.proofs.Bytes.{padded-is, used, length-used, catalogue-is, tile_bytes}
use Rattle.catalogue.proofs.Entries.{entry_for, entry_at, front_length, front-version}
use Rattle.catalogue.proofs.Joining.{span-fine, half, entries-agree}
use Rattle.catalogue.proofs.Blocks.{ith, few-tiles, each-storable, key-limited, low-limited, high-limited, length-pressed, blocks-pressed, first_block, tile-block, tile-entry, tile-back}

-- the bytes behind those in use are zero
tail-zero : (xs : List ℕ) (n : ℕ) → length xs ≡ n → every is_zero (drop n (padded xs)) ≡ true
tail-zero xs n l =
    ap (λ (s : List ℕ). every is_zero (drop n s)) (padded-is xs) ∙ ap (every is_zero) (drop_at xs (replicate (2048 - length xs) 0) n l)
    ∙ every-replicate is_zero (2048 - length xs) 0 refl

-- the last key by its index
last-at : (k d : ℕ) (ss : List Spot) → last_from k ss ≡ get_or (k ∷ keys ss) (length ss) d
last-at k d [] = refl
last-at k d (s ∷ ss) = last-at s.key d ss

highest-at : (ss : List Spot) → 0 < length ss → last_key_of ss ≡ get_or (keys ss) (length ss - 1) no_key
highest-at [] h = absurd (not-suc-le-zero h)
highest-at (s ∷ ss) h =
    let e : suc (length ss) - 1 ≡ length ss = omega arith in
    last-at s.key no_key ss ∙ ap (λ (i : ℕ). get_or (s.key ∷ keys ss) i no_key) (sym e)

lowest-at : (ss : List Spot) → 0 < length ss → first_key_of ss ≡ get_or (keys ss) 0 no_key
lowest-at [] h = absurd (not-suc-le-zero h)
lowest-at (s ∷ ss) h = refl

-- the spots that stand in a block settle its keys
module _ (s : List ℕ) (xs : List Spot) (back : spots_in s (length xs) ≡ xs) where
  keys-back : keys_from s 12 (length xs) 0 ≡ keys xs
  keys-back = sym (keys-records s 12 (length xs) 0) ∙ ap keys back

  key-back-at : (i : ℕ) → i < length xs → key_at s (12 * i) ≡ get_or (keys xs) i no_key
  key-back-at i l =
      let e : 12 * i ≡ 0 + 12 * i = omega arith in
      ap (key_at s) e ∙ sym (records-at (key_at s) 12 (length xs) 0 i no_key l) ∙ ap (λ (ks : List ℕ). get_or ks i no_key) keys-back

-- a test that decides alike for all blocks of one number
has_kept : (f : StandingBlock → Bool) (b : ℕ) (v : Bool) (st : List StandingBlock) → ((s : StandingBlock) → Memᴰ s st → s.number ≡ b → f s ≡ v)
    → has b (numbers (keep f st)) ≡ has b (numbers st) && v
has_kept f b v [] h = refl
has_kept f b v (s ∷ st) h =
    let ih = has_kept f b v st (λ x j. h x (Memᴰ.tail j)) in
    ⊎_elim (λ (e : b ≡ s.number). rw (h s (Memᴰ.head refl) (sym e)) (here v (eq-eqb b s.number e) ih))
    (λ (d : b ≡ s.number → ⊥). there (f s) (ne_eqb b s.number d) ih)
    (same_or_not b s.number)
  where
    here : (a : Bool) → eqb b s.number ≡ true → has b (numbers (keep f st)) ≡ has b (numbers st) && a
        → has b (numbers (cond a (s ∷ keep f st) (keep f st))) ≡ (eqb b s.number || has b (numbers st)) && a
    here true e ih = rw e
    here false e ih = rw e (ih ∙ and-false (has b (numbers st)))

    there : (a : Bool) → eqb b s.number ≡ false → has b (numbers (keep f st)) ≡ has b (numbers st) && v
        → has b (numbers (cond a (s ∷ keep f st) (keep f st))) ≡ (eqb b s.number || has b (numbers st)) && v
    there true e ih = rw e ih
    there false e ih = rw e ih

module _ (ss : List Spot) (g : Pressable ss) (w : SweepLaws ss) where
  -- ---- blocks

  -- a fused block is above its maker
  above-maker : (i : ℕ) → i < length (tiles ss) → every (above_maker (suc (length (tiles ss))) (suc i) (entry_for (ith ss i))) (keys (ith ss i).spots) ≡ true
  unfolding above_maker
  above-maker i l =
      every-make (above_maker (suc (length (tiles ss))) (suc i) (entry_for (ith ss i))) (keys (ith ss i).spots)
      (λ k j.
      let place = leb (suc i) (suc (length (tiles ss)) / 2) in
      let above = ltb (rank_key (ith ss i).made) (rank_key k) in
      ⊎_elim (λ (h : suc i ≤ cuts_for (length ss)). ap (λ (t : Bool). t || above) (ap (leb (suc i)) (half ss w) ∙ le-leb (suc i) (cuts_for (length ss)) h))
      (λ (h : cuts_for (length ss) < suc i). ap (λ (t : Bool). place || t) (lt-ltb (rank_key (ith ss i).made) (rank_key k) (w.fused.above i (omega arith) l k j)) ∙ or-true place)
      (less-or-not (suc i) (cuts_for (length ss))))

  tile-fine : (i : ℕ) → i < length (tiles ss) → tile_fine (suc (length (tiles ss))) (suc i) (tile_entry (pressed ss) (suc i)) (block (pressed ss) (suc i)) ≡ true
  unfolding tile_fine
  tile-fine i l =
      let m = suc (length (tiles ss)) in
      let xs = (ith ss i).spots in
      let s = tile_bytes (ith ss i) in
      let back = tile-back ss g w i l in
      let some = w.sizes.some i l in
      ap₂ (tile_fine m (suc i)) (tile-entry ss g w i l) (tile-block ss g w i l)
      ∙ all_cons _ _ (ap rising (keys-back s xs back) ∙ (w.tile i l).rise)
      (all_cons _ _ (eq-eqb (key_at s 0) (first_key_of xs) (key-back-at s xs back 0 some ∙ sym (lowest-at xs some)))
      (all_cons _ _ (eq-eqb (key_at s (12 * (length xs - 1))) (last_key_of xs) (key-back-at s xs back (length xs - 1) (omega (arith, some)) ∙ sym (highest-at xs some)))
      (all_cons _ _ (tail-zero (spots_bytes xs) (12 * length xs) (length-spots_bytes xs))
      (all_cons _ _ (ap (every (above_maker m (suc i) (entry_for (ith ss i)))) (keys-back s xs back) ∙ above-maker i l) all_nil))))

  -- ---- entries

  module _ (i : ℕ) (l : i < length (tiles ss)) where
    size-fine : size_fine (suc (length (tiles ss))) (suc i) (length (ith ss i).spots) ≡ true
    unfolding size_fine
    size-fine =
        rw (half ss w)
        (⊎_elim
        (λ (e : suc i ≡ cuts_for (length ss)). rw (eq-eqb (suc i) (cuts_for (length ss)) e)
        (and_both (leb 1 (length (ith ss i).spots)) (leb (length (ith ss i).spots) 64) (le-leb 1 (length (ith ss i).spots) (w.sizes.some i l)) (le-leb (length (ith ss i).spots) 64 (w.sizes.few i l))))
        (λ (d : suc i ≡ cuts_for (length ss) → ⊥). rw (ne_eqb (suc i) (cuts_for (length ss)) d) (eq-eqb (length (ith ss i).spots) 64 (w.sizes.full i l d)))
        (same_or_not (suc i) (cuts_for (length ss))))

    made-fine : made_fine (suc (length (tiles ss))) (suc i) (ith ss i).made ≡ true
    unfolding made_fine
    made-fine =
        rw (half ss w)
        (⊎_elim
        (λ (h : suc i ≤ cuts_for (length ss)). rw (le-leb (suc i) (cuts_for (length ss)) h) (eq-eqb (ith ss i).made no_key ((w.tile i l).unmade h)))
        (λ (h : cuts_for (length ss) < suc i). rw (lt-leb (suc i) (cuts_for (length ss)) h) (key-limited ss g w (ith ss i).made ((w.tile i l).made (omega arith))))
        (less-or-not (suc i) (cuts_for (length ss))))

    last-is : eqb (suc (suc i)) (suc (length (tiles ss))) ≡ not (consumed (suc i) (sweep ss))
    last-is = eqb_same (suc (suc i)) (suc (length (tiles ss))) (suc i) (length (tiles ss)) (λ e. omega arith) (λ e. omega arith) ∙ sym (not-not (eqb (suc i) (length (tiles ss)))) ∙ ap not (sym (w.sizes.ends i l))

    ended-fine : ended_fine (suc (length (tiles ss))) (suc i) (ith ss i).ended ≡ true
    unfolding ended_fine
    ended-fine = rw last-is (go (consumed (suc i) (sweep ss)) refl)
      where
        go : (b : Bool) → consumed (suc i) (sweep ss) ≡ b → cond (not b) (eqb (ith ss i).ended no_key) (limited (ith ss i).ended) ≡ true
        go true h = key-limited ss g w (ith ss i).ended ((w.tile i l).ended h)
        go false h = eq-eqb (ith ss i).ended no_key ((w.tile i l).unended h)

    entry-fine : tile_entry_fine (suc (length (tiles ss))) (suc i) (entry_for (ith ss i)) ≡ true
    unfolding tile_entry_fine
    entry-fine =
        let xs = (ith ss i).spots in
        all_cons _ _ size-fine
        (all_cons _ _ (span-fine xs (w.sizes.some i l) (w.tile i l).rise)
        (all_cons _ _ (low-limited ss g w i l) (all_cons _ _ (high-limited ss g w i l) (all_cons _ _ made-fine (all_cons _ _ ended-fine all_nil)))))

  -- ---- the catalogue

  count-fine : blocks_fine (suc (length (tiles ss))) ≡ true
  unfolding blocks_fine
  count-fine = go (length (tiles ss)) w.sizes.count
    where
      go : (m : ℕ) → m ≡ 2 * cuts_for (length ss) - 1 → eqb (suc m) 1 || eqb (suc m % 2) 0 ≡ true
      go zero e = refl
      go (suc m) e = let z : suc (suc m) % 2 ≡ 0 = omega arith in ap (λ (b : Bool). eqb (suc (suc m)) 1 || b) (eq-eqb (suc (suc m) % 2) 0 z) ∙ or-true (eqb (suc (suc m)) 1)

  catalogue-fine : catalogue_fine (length (pressed ss)) (block (pressed ss) 0) ≡ true
  unfolding catalogue_fine
  catalogue-fine =
      let ts = tiles ss in
      let m : 2048 * suc (length ts) / 2048 ≡ suc (length ts) = omega arith in
      let k : suc (length ts) - 1 ≡ length ts = omega arith in
      let each : (j : ℕ) → 1 ≤ j → j < 1 + length ts → tile_entry_fine (suc (length ts)) j (tile_entry_at (catalogue ts) j) ≡ true = entry-each in
      ap₂ catalogue_fine (length-pressed ss g w) (first_block ss g w)
      ∙ rw (m, k)
      (all_cons _ _ (eq-eqb (be 4 (catalogue ts) 0) (2048 * suc (length ts)) (front_length ts (few-tiles ss g w)))
      (all_cons _ _ (eq-eqb (be 4 (catalogue ts) 4) 16777216 (front-version ts))
      (all_cons _ _ count-fine
      (all_cons _ _ (every-up_to (λ b. tile_entry_fine (suc (length ts)) b (tile_entry_at (catalogue ts) b)) 1 (length ts) each)
      (all_cons _ _ (ap (λ (s : List ℕ). every is_zero (drop (8 + 36 * length ts) s)) (catalogue-is ts) ∙ tail-zero (used ts) (8 + 36 * length ts) (length-used ts))
      (all_cons _ _ (entries-agree ss w (tile_entry_at (catalogue ts)) (entry_at ts (each-storable ss g w))) all_nil))))))
    where
      entry-each : (j : ℕ) → 1 ≤ j → j < 1 + length (tiles ss) → tile_entry_fine (suc (length (tiles ss))) j (tile_entry_at (catalogue (tiles ss)) j) ≡ true
      entry-each zero h l = absurd (not-suc-le-zero h)
      entry-each (suc i) h l =
          let k : i < length (tiles ss) = omega arith in
          ap (tile_entry_fine (suc (length (tiles ss))) (suc i)) (entry_at (tiles ss) (each-storable ss g w) i k) ∙ entry-fine i k

  -- the blocks that a Report reads are tiles
  pub read-from : (q : Query) {b : ℕ} → Memᴰ b (tiles_read (pressed ss) q) → (1 ≤ b) × (b < suc (length (tiles ss)))
  unfolding tiles_read
  read-from q j =
      let m = blocks_of (length (pressed ss)) in
      let r = up_to-from 1 (m - 1) (keep-in (λ b. asks q m b (tile_entry (pressed ss) b)) (up_to 1 (m - 1)) j) in
      (r.0, omega (arith, r.1, blocks-pressed ss g w))

  pub tour-fine : (q : Query) → tour_fine (pressed ss) q ≡ true
  unfolding tour_fine
  tour-fine q =
      and_both (catalogue_fine (length (pressed ss)) (block (pressed ss) 0)) (every fine (tiles_read (pressed ss) q)) catalogue-fine
      (every-make fine (tiles_read (pressed ss) q) (λ b j. at b (read-from q j)))
    where
      fine : ℕ → Bool
      fine b = tile_fine (blocks_of (length (pressed ss))) b (tile_entry (pressed ss) b) (block (pressed ss) b)

      at : (b : ℕ) → (1 ≤ b) × (b < suc (length (tiles ss))) → fine b ≡ true
      at zero h = absurd (not-suc-le-zero h.0)
      at (suc i) h =
          ap (λ (m : ℕ). tile_fine m (suc i) (tile_entry (pressed ss) (suc i)) (block (pressed ss) (suc i))) (blocks-pressed ss g w) ∙ tile-fine i (le_of_suc-le-suc h.1)

  -- ---- what is asked for

  module _ (i : ℕ) (l : i < length (tiles ss)) where
    stands-is : (q : Query) → stands q (suc (length (tiles ss))) (suc i) (entry_for (ith ss i)) ≡ has (suc i) (numbers (standing_at (least_of q) ss))
    unfolding stands
    stands-is q =
        let made = ltb (rank_of (ith ss i).made) (least_of q) in
        let ended = leb (least_of q) (rank_of (ith ss i).ended) in
        let first : leb (suc i) (suc (length (tiles ss)) / 2) ≡ ltb i (cuts_for (length ss)) = ap (leb (suc i)) (half ss w) in
        ap₂ (λ (x y : Bool). (x || made) && (y || ended)) first (last-is i l) ∙ sym ((w.tile i l).stands (least_of q))

    -- a tile is asked for exactly where it is met
    pub asks-met : (q : Query) → asks q (suc (length (tiles ss))) (suc i) (tile_entry (pressed ss) (suc i)) ≡ has (suc i) (numbers (blocks_met q ss))
    unfolding asks blocks_met
    asks-met q =
        let t = ith ss i in
        let met = meets_span q (first_key_of t.spots) (last_key_of t.spots) in
        ap (asks q (suc (length (tiles ss))) (suc i)) (tile-entry ss g w i l) ∙ ap (λ (b : Bool). b && met) (stands-is q)
        ∙ sym
        (has_kept (spanned q) (suc i) met (standing_at (least_of q) ss)
        (λ s j e. ap (λ (xs : List Spot). meets_span q (first_key_of xs) (last_key_of xs)) ((w.tile i l).same (least_of q) s j e)))
