-- The tile of a block by the block's number; the place tiles side by side; the makers of the fused ones.
-- Assumes nothing.
use mathlib.Core.Path.{◌≡◌, refl, ap, sym, subst, ◌∙◌}
use mathlib.Core.Logic.{⊎_elim}
use mathlib.Core.Bool.{true}
use mathlib.Core.List.Memᴰ
use mathlib.Core.List.{List, [], ◌∷◌, ◌++◌, Memᴰ}
use Prim.Native.Nat.{ℕ, zero, suc, ◌+◌, ◌-◌, ◌≤◌, ◌<◌}
use native.Mathlib.Nat.{le_of_suc-le-suc}
use native.Mathlib.Omega.{arith}
use lib.Dec.{ltb}
use lib.ListN.{length, get_or}
use borrow.Author.Tests.{ltb-true}
use Rattle.octets.specs.Lists.{rising, rising_from, up_to}
use Rattle.octets.proofs.Lists.{at_mem, mem-at}
use Rattle.octets.proofs.Tests.{every-mem}
use Rattle.octets.proofs.Rising.{rising-first, rising-rest, rising-make, rising-lower, rising-before, rising-right}
use Rattle.spot.specs.Keys.{rank_key}
use Rattle.spot.specs.Spots.{keys}
use Rattle.spot.specs.declared.Spot.{Spot}
use Rattle.spot.proofs.Buffers.{keys-append, only-mem}
use Rattle.sweep.specs.Sweep.{StandingBlock, Fusion, cuts_for, at_first, by_rank, above_passed, fuse, fusion_at, fused_at, next_number, fusions, first_fused, sweep}
use Rattle.sweep.specs.Pressed.{Tile, Pressable, no_key, tile_of, tiles, first_key_of, last_key_of}
use Rattle.sweep.specs.Report.{standing_spots}
use Rattle.sweep.specs.Laws.{no_tile, tile_by}
use Rattle.sweep.proofs.Orders.{rank_keys, order-rises}
use Rattle.sweep.proofs.Steps.{stepped}
use Rattle.sweep.proofs.Covers.{first-numbers, first-spots, first_some}
use Rattle.sweep.proofs.Stands.{made_by, made_by-length}
use Rattle.sweep.proofs.Tiles.{number_at, first-length, fused-numbers, made_at, tiles-length, no_standing, no_fusion, tile-place, tile-fused}
use Rattle.sweep.proofs.Found.{highest-in}

-- ---- by number

-- the block's tile stands at its number, whatever made it
abbrev pub Named : List Spot → StandingBlock → Type 0
Named ss s = (m : ℕ) × (0 < s.number) × (tile_by ss s.number ≡ tile_of (sweep ss) m s)

module _ (ss : List Spot) where
  pub first-named : {s : StandingBlock} → Memᴰ s (at_first ss) → Named ss s
  first-named i =
      let r = mem-at (at_first ss) no_standing i in
      let l = first-length ss in
      let n : (get_or (at_first ss) r.0 no_standing).number ≡ suc r.0 =
      number_at 1 (at_first ss) no_standing (first-numbers ss ∙ ap (up_to 1) (sym l)) r.0 r.1 ∙ omega arith in
      subst (Named ss) r.2 (no_key, omega (arith, n), ap (tile_by ss) n ∙ tile-place ss r.0 (omega (arith, l, r.1)))

  -- a fusion's block, whose maker is the key passed
  pub record MadeTile (f : Fusion) : Type 0 where
    pub some : 0 < f.made.number
    pub inside : f.made.number ≤ length (tiles ss)
    pub is : tile_by ss f.made.number ≡ tile_of (sweep ss) f.passed f.made

  pub made-tile : {f : Fusion} → Memᴰ f (sweep ss) → MadeTile f
  made-tile i = let r = mem-at (sweep ss) no_fusion i in subst MadeTile r.2 (at r.0 r.1)
    where
      at : (j : ℕ) → j < length (sweep ss) → MadeTile (get_or (sweep ss) j no_fusion)
      at j l =
          let c = cuts_for (length ss) in
          let fs = sweep ss in
          let e = ap (λ (z : StandingBlock). z.number) (made_at fs no_fusion j) in
          let n = number_at (suc c) (made_by fs) no_standing (fused-numbers ss ∙ ap (up_to (suc c)) (sym (made_by-length fs))) j (omega (arith, made_by-length fs)) in
          let k : (get_or fs j no_fusion).made.number ≡ suc (c + j) = sym e ∙ n ∙ omega arith in
          record { some = omega (arith, k); inside = omega (arith, k, l, tiles-length ss); is = ap (tile_by ss) k ∙ tile-fused ss j l }

-- ---- side by side

pair-apart : (xs ys zs : List Spot) → rising (keys (xs ++ (ys ++ zs))) ≡ true → 0 < length xs → 0 < length ys → last_key_of xs < first_key_of ys
pair-apart xs [] zs h p q = let e : ⊥ = omega arith in absurd e
pair-apart xs (y ∷ ys) zs h p q =
    ltb-true (last_key_of xs) y.key
    (every-mem (λ k. ltb k y.key) (keys xs) (rising-before 0 y.key (keys xs) (keys (ys ++ zs)) (rw (keys-append xs (y ∷ (ys ++ zs))) at h)) (highest-in xs p))

-- in a row that rises, with no block empty, each ends before the next begins
row_apart : (st : List StandingBlock) → rising (keys (standing_spots st)) ≡ true → ((s : StandingBlock) → Memᴰ s st → 0 < length s.spots) → (i : ℕ) → suc i < length st
    → last_key_of (get_or st i no_standing).spots < first_key_of (get_or st (suc i) no_standing).spots
row_apart [] h some i l = let e : ⊥ = omega arith in absurd e
row_apart (a ∷ []) h some i l = let e : ⊥ = omega arith in absurd e
row_apart (a ∷ b ∷ st) h some zero l =
    pair-apart a.spots b.spots (standing_spots st) h (some a (Memᴰ.head refl)) (some b (Memᴰ.tail (Memᴰ.head refl)))
row_apart (a ∷ b ∷ st) h some (suc i) l =
    let r = rw (keys-append a.spots (standing_spots (b ∷ st))) at h in
    row_apart (b ∷ st) (rising-right 0 (keys a.spots) (keys (standing_spots (b ∷ st))) r) (λ s j. some s (Memᴰ.tail j)) i (le_of_suc-le-suc l)

-- ---- the makers

rising-at : (a : ℕ) (xs : List ℕ) → rising_from a xs ≡ true → (i d : ℕ) → suc i < length xs → get_or xs i d < get_or xs (suc i) d
rising-at a [] h i d l = let e : ⊥ = omega arith in absurd e
rising-at a (x ∷ []) h i d l = let e : ⊥ = omega arith in absurd e
rising-at a (x ∷ y ∷ xs) h zero d l = rising-first (suc x) y xs (rising-rest a x (y ∷ xs) h)
rising-at a (x ∷ y ∷ xs) h (suc i) d l = rising-at (suc x) (y ∷ xs) (rising-rest a x (y ∷ xs) h) i d (le_of_suc-le-suc l)

-- the keys whose passing made fusions, in rank order
abbrev passed_ranks : List Fusion → List ℕ
passed_ranks [] = []
passed_ranks (f ∷ fs) = rank_key f.passed ∷ passed_ranks fs

ranks-length : (fs : List Fusion) → length (passed_ranks fs) ≡ length fs
ranks-length [] = refl
ranks-length (f ∷ fs) = ap suc (ranks-length fs)

ranks-at : (fs : List Fusion) (d : Fusion) (i : ℕ) → get_or (passed_ranks fs) i (rank_key d.passed) ≡ rank_key (get_or fs i d).passed
ranks-at [] d i = refl
ranks-at (f ∷ fs) d zero = refl
ranks-at (f ∷ fs) d (suc i) = ranks-at fs d i

-- they rise, since a passing makes one at most
ranks-rise : (r n : ℕ) (st : List StandingBlock) (ps : List ℕ) → rising_from r (rank_keys ps) ≡ true → rising_from r (passed_ranks (fusions n st ps)) ≡ true
unfolding fuse
ranks-rise r n st [] h = refl
ranks-rise r n st (p ∷ ps) h =
    let l = rising-first r (rank_key p) (rank_keys ps) h in
    stepped (λ st m ts fs. (gs : List Fusion) → rising_from (suc (rank_key p)) (passed_ranks gs) ≡ true → rising_from r (passed_ranks (fs ++ gs)) ≡ true) p n
    (λ st gs k. rising-lower r (suc (rank_key p)) (passed_ranks gs) (omega arith) k) (λ us a b vs e gs k. rising-make r (rank_key p) (passed_ranks gs) l k) st
    (fusions (next_number p n st) (fused_at p n st) ps)
    (ranks-rise (suc (rank_key p)) (next_number p n st) (fused_at p n st) ps (rising-rest r (rank_key p) (rank_keys ps) h))

-- a block made is above its maker
one-above : (p n : ℕ) (st : List StandingBlock) {f : Fusion} → Memᴰ f (fusion_at p n st) → (k : ℕ) → Memᴰ k (keys f.made.spots) → rank_key f.passed < rank_key k
unfolding fuse
one-above p n st {f} =
    stepped (λ st m ts fs. Memᴰ f fs → (k : ℕ) → Memᴰ k (keys f.made.spots) → rank_key f.passed < rank_key k) p n
    (λ st i. absurd (Memᴰ.not-nil i))
    (λ us a b vs h i.
    subst (λ (z : Fusion). (k : ℕ) → Memᴰ k (keys z.made.spots) → rank_key z.passed < rank_key k) (sym (Memᴰ.eq_of_singleton i))
    (λ k j. ltb-true (rank_key p) (rank_key k) (only-mem (above_passed p) (a.spots ++ b.spots) j).1))
    st

made-above : (n : ℕ) (st : List StandingBlock) (ps : List ℕ) {f : Fusion} → Memᴰ f (fusions n st ps) → (k : ℕ) → Memᴰ k (keys f.made.spots)
    → rank_key f.passed < rank_key k
made-above n st [] i = absurd (Memᴰ.not-nil i)
made-above n st (p ∷ ps) i =
    ⊎_elim (λ j. one-above p n st j) (λ j. made-above (next_number p n st) (fused_at p n st) ps j) (Memᴰ.append_cases (fusion_at p n st) i)

-- ---- of the tiles by their index

module _ (ss : List Spot) (g : Pressable ss) where
  pub tiles-apart : (i : ℕ) → suc i < cuts_for (length ss) → last_key_of (get_or (tiles ss) i no_tile).spots < first_key_of (get_or (tiles ss) (suc i) no_tile).spots
  tiles-apart i l =
      let a = ap (λ (t : Tile). last_key_of t.spots) (tile-place ss i (omega arith)) in
      let b = ap (λ (t : Tile). first_key_of t.spots) (tile-place ss (suc i) l) in
      let r = row_apart (at_first ss) (rw (first-spots ss) g.rise) (λ s j. first_some ss j) i (omega (arith, l, first-length ss)) in
      omega (arith, a, b, r)

  module _ (i : ℕ) (h : cuts_for (length ss) ≤ i) (l : i < length (tiles ss)) where
    abbrev fusion : Fusion
    fusion = get_or (sweep ss) (i - cuts_for (length ss)) no_fusion

    few : i - cuts_for (length ss) < length (sweep ss)
    few = omega (arith, tiles-length ss)

    -- the tile of a fusion
    tile-is : get_or (tiles ss) i no_tile ≡ tile_of (sweep ss) fusion.passed fusion.made
    tile-is =
        let e : i ≡ cuts_for (length ss) + (i - cuts_for (length ss)) = omega arith in
        ap (λ (n : ℕ). get_or (tiles ss) n no_tile) e ∙ tile-fused ss (i - cuts_for (length ss)) few

    pub tile-above : (k : ℕ) → Memᴰ k (keys (get_or (tiles ss) i no_tile).spots) → rank_key (get_or (tiles ss) i no_tile).made < rank_key k
    unfolding sweep
    tile-above k =
        subst (λ (t : Tile). Memᴰ k (keys t.spots) → rank_key t.made < rank_key k) (sym tile-is)
        (made-above (first_fused ss) (at_first ss) (by_rank (keys ss)) (at_mem (sweep ss) (i - cuts_for (length ss)) no_fusion few) k)

  pub makers-rise : (i : ℕ) → cuts_for (length ss) ≤ i → suc i < length (tiles ss) → rank_key (get_or (tiles ss) i no_tile).made < rank_key (get_or (tiles ss) (suc i) no_tile).made
  unfolding sweep
  makers-rise i h l =
      let c = cuts_for (length ss) in
      let fs = sweep ss in
      let j = i - c in
      let e : suc i - c ≡ suc j = omega arith in
      let a = ap (λ (t : Tile). rank_key t.made) (tile-is i h (omega arith)) ∙ sym (ranks-at fs no_fusion j) in
      let b = ap (λ (t : Tile). rank_key t.made) (tile-is (suc i) (omega arith) l) ∙ ap (λ (n : ℕ). rank_key (get_or fs n no_fusion).passed) e ∙ sym (ranks-at fs no_fusion (suc j)) in
      let r = rising-at 0 (passed_ranks fs) (ranks-rise 0 (first_fused ss) (at_first ss) (by_rank (keys ss)) (order-rises ss g)) j (rank_key no_key)
      (omega (arith, tiles-length ss, ranks-length fs)) in
      omega (arith, a, b, r)
