-- The blocks of a pressed tour in the order of their numbers: block suc i is the i-th tile, and its two keys say when it stands.
-- Assumes nothing.
use mathlib.Core.Path.{◌≡◌, refl, ap, ap₂, sym, subst, ◌∙◌}
use mathlib.Core.Logic.{inr, ⊎_elim}
use mathlib.Core.Bool.{Bool, not, ◌&&◌, ◌||◌}
use mathlib.Core.List.Memᴰ
use mathlib.Core.List.{List, [], ◌∷◌, ◌++◌, Memᴰ, head-eq_of_cons-eq, tail-eq_of_cons-eq}
use Prim.Native.Nat.{ℕ, zero, suc, ◌+◌, ◌-◌, ◌≤◌, ◌<◌}
use native.Mathlib.Omega.{arith}
use lib.Dec.{ltb, leb}
use lib.ListN.{length, get_or, length-append, get_or-append}
use lib.Seq.{get_or-append-add}
use borrow.Author.Tests.{lt-ltb, le-ltb}
use Rattle.octets.specs.Lists.{has, up_to}
use Rattle.octets.proofs.Order.{less-or-not}
use Rattle.octets.proofs.Lists.{at_mem, mem-same}
use Rattle.octets.proofs.Once.{Once}
use Rattle.octets.proofs.UpTo.{up_to-from, up_to-length, up_to-more, up_to-once, has-up_to, has-up_to-not}
use Rattle.spot.specs.Keys.{rank_of}
use Rattle.spot.specs.Spots.{keys}
use Rattle.spot.specs.declared.Spot.{Spot}
use Rattle.sweep.specs.Sweep.{StandingBlock, Fusion, cuts_for, at_first, by_rank, first_fused, sweep, keys_under, standing_at}
use Rattle.sweep.specs.Pressed.{Pressable, no_key, ended_by, tile_of, place_tiles, fused_tiles, tiles}
use Rattle.sweep.specs.Report.{numbers}
use Rattle.sweep.specs.Laws.{no_tile, consumed, TileAt, NumbersInside}
use Rattle.sweep.proofs.Orders.{by_rank-from}
use Rattle.sweep.proofs.Steps.{numbers-append, numbers-in, numbers-from}
use Rattle.sweep.proofs.Covers.{first-numbers, kept-first}
use Rattle.sweep.proofs.Stands.{made_by, made_by-append, made_by-length, made-numbers, stands_from, Block, kept_block, made-block, stands-has, passed-from, ended_by_lem, ended-none, early, late, early-rank, late-rank, sweep-split, unconsumed}

-- ---- numbers counted up

pub numbers-length : (st : List StandingBlock) → length (numbers st) ≡ length st
numbers-length [] = refl
numbers-length (s ∷ st) = ap suc (numbers-length st)

pub number_at : (n : ℕ) (st : List StandingBlock) (d : StandingBlock) → numbers st ≡ up_to n (length st) → (i : ℕ) → i < length st → (get_or st i d).number ≡ n + i
number_at n [] d e i h = let z : ⊥ = omega arith in absurd z
number_at n (s ∷ st) d e zero h = omega (arith, head-eq_of_cons-eq e)
number_at n (s ∷ st) d e (suc i) h = omega (arith, number_at (suc n) st d (tail-eq_of_cons-eq e) i (omega arith))

counted : (k n m j : ℕ) → k ≡ n + j → has k (up_to n m) ≡ ltb j m
counted k n m j e =
    ⊎_elim (λ (l : m ≤ j). has-up_to-not k n m (inr (omega arith)) ∙ sym (le-ltb j m l)) (λ (l : j < m). has-up_to k n m (omega arith) (omega arith) ∙ sym (lt-ltb j m l)) (less-or-not m j)

-- a number belongs to one block
same_number : (st : List StandingBlock) → Once (numbers st) → {s t : StandingBlock} → Memᴰ s st → Memᴰ t st → s.number ≡ t.number → s ≡ t
same_number [] o i j e = absurd (Memᴰ.not-nil i)
same_number (x ∷ st) o {s} {t} i j e =
    ⊎_elim
    (λ (a : s ≡ x).
    ⊎_elim (λ (b : t ≡ x). a ∙ sym b) (λ (b : Memᴰ t st). absurd (o.0 (Memᴰ.cast (sym (ap (λ (z : StandingBlock). z.number) a) ∙ e) (numbers-in st b)))) (Memᴰ.cases_cons j))
    (λ (a : Memᴰ s st).
    ⊎_elim (λ (b : t ≡ x). absurd (o.0 (Memᴰ.cast (sym (ap (λ (z : StandingBlock). z.number) b) ∙ sym e) (numbers-in st a))))
    (λ (b : Memᴰ t st). same_number st o.1 a b e) (Memᴰ.cases_cons j))
    (Memᴰ.cases_cons i)

-- ---- all blocks of a sweep

abbrev pub blocks : List Spot → List StandingBlock
blocks ss = at_first ss ++ made_by (sweep ss)

module _ (ss : List Spot) where
  pub first-length : length (at_first ss) ≡ cuts_for (length ss)
  first-length = sym (numbers-length (at_first ss)) ∙ ap length (first-numbers ss) ∙ up_to-length 1 (cuts_for (length ss))

  pub fused-numbers : numbers (made_by (sweep ss)) ≡ up_to (suc (cuts_for (length ss))) (length (sweep ss))
  unfolding sweep
  fused-numbers = made-numbers (first_fused ss) (at_first ss) (by_rank (keys ss))

  pub blocks-numbers : numbers (blocks ss) ≡ up_to 1 (cuts_for (length ss) + length (sweep ss))
  blocks-numbers =
      let e : suc (cuts_for (length ss)) ≡ 1 + cuts_for (length ss) = omega arith in
      numbers-append (at_first ss) (made_by (sweep ss)) ∙ ap₂ (λ (x y : List ℕ). x ++ y) (first-numbers ss) (fused-numbers ∙ ap (λ (n : ℕ). up_to n (length (sweep ss))) e)
      ∙ up_to-more 1 (cuts_for (length ss)) (length (sweep ss))

  pub blocks-once : {s t : StandingBlock} → Memᴰ s (blocks ss) → Memᴰ t (blocks ss) → s.number ≡ t.number → s ≡ t
  blocks-once = same_number (blocks ss) (rw blocks-numbers (up_to-once 1 (cuts_for (length ss) + length (sweep ss))))

  pub passed-key : (f : Fusion) → Memᴰ f (sweep ss) → Memᴰ f.passed (keys ss)
  unfolding sweep
  passed-key f i = by_rank-from (keys ss) (passed-from (first_fused ss) (at_first ss) (by_rank (keys ss)) i)

  module _ (g : Pressable ss) where
    pub blocks-block : {s : StandingBlock} → Memᴰ s (blocks ss) → Block ss s
    unfolding sweep
    blocks-block i =
        ⊎_elim (λ j. kept_block ss (first_fused ss) (at_first ss) (kept-first ss g) j) (λ j. made-block ss (first_fused ss) (at_first ss) (by_rank (keys ss)) (kept-first ss g) j)
        (Memᴰ.append_cases (at_first ss) i)

    -- what stands is one of them
    pub stands-block : (y : ℕ) {s : StandingBlock} → Memᴰ s (standing_at y ss) → Memᴰ s (blocks ss)
    unfolding standing_at
    stands-block y i =
        let e : made_by (sweep ss) ≡ made_by (early y ss) ++ made_by (late y ss) = ap made_by (sweep-split y ss g) ∙ made_by-append (early y ss) (late y ss) in
        ⊎_elim (λ j. Memᴰ.append_left (made_by (sweep ss)) j) (λ j. Memᴰ.append_right (at_first ss) (mem-same (sym e) (Memᴰ.append_left (made_by (late y ss)) j)))
        (stands_from (first_fused ss) (at_first ss) (keys_under y ss) i)

-- ---- the tiles

place-length : (fs : List Fusion) (st : List StandingBlock) → length (place_tiles fs st) ≡ length st
place-length fs [] = refl
place-length fs (s ∷ st) = ap suc (place-length fs st)

fused-length : (fs gs : List Fusion) → length (fused_tiles fs gs) ≡ length gs
fused-length fs [] = refl
fused-length fs (f ∷ gs) = ap suc (fused-length fs gs)

place-tile : (fs : List Fusion) (st : List StandingBlock) (d : StandingBlock) (i : ℕ) → i < length st → get_or (place_tiles fs st) i no_tile ≡ tile_of fs no_key (get_or st i d)
place-tile fs [] d i h = let z : ⊥ = omega arith in absurd z
place-tile fs (s ∷ st) d zero h = refl
place-tile fs (s ∷ st) d (suc i) h = place-tile fs st d i (omega arith)

fused-tile : (fs gs : List Fusion) (d : Fusion) (i : ℕ) → i < length gs → get_or (fused_tiles fs gs) i no_tile ≡ tile_of fs (get_or gs i d).passed (get_or gs i d).made
fused-tile fs [] d i h = let z : ⊥ = omega arith in absurd z
fused-tile fs (f ∷ gs) d zero h = refl
fused-tile fs (f ∷ gs) d (suc i) h = fused-tile fs gs d i (omega arith)

pub made_at : (gs : List Fusion) (d : Fusion) (i : ℕ) → get_or (made_by gs) i d.made ≡ (get_or gs i d).made
made_at [] d i = refl
made_at (f ∷ gs) d zero = refl
made_at (f ∷ gs) d (suc i) = made_at gs d i

pub tiles-length : (ss : List Spot) → length (tiles ss) ≡ cuts_for (length ss) + length (sweep ss)
unfolding tiles
tiles-length ss =
    length-append (place_tiles (sweep ss) (at_first ss)) (fused_tiles (sweep ss) (sweep ss))
    ∙ ap₂ (λ (a b : ℕ). a + b) (place-length (sweep ss) (at_first ss) ∙ first-length ss) (fused-length (sweep ss) (sweep ss))

pub inside : (ss : List Spot) → Pressable ss → NumbersInside ss
inside ss g y b i =
    let r = numbers-from (standing_at y ss) i in
    let j = numbers-in (blocks ss) (stands-block ss g y r.1) in
    let u = up_to-from 1 (cuts_for (length ss) + length (sweep ss)) (mem-same (blocks-numbers ss) (Memᴰ.cast r.2 j)) in
    (omega (arith, u.0), omega (arith, u.1, tiles-length ss))

-- where there is none
abbrev pub no_standing : StandingBlock
no_standing = record { number = 0; spots = [] }

abbrev pub no_fusion : Fusion
no_fusion = record { passed = no_key; first = 0; second = 0; made = no_standing }

-- the i-th tile is that of a place block or that of a fusion
pub tile-place : (ss : List Spot) (i : ℕ) → i < cuts_for (length ss) → get_or (tiles ss) i no_tile ≡ tile_of (sweep ss) no_key (get_or (at_first ss) i no_standing)
unfolding tiles
tile-place ss i h =
    let fs = sweep ss in
    let l : i < length (at_first ss) = omega (arith, first-length ss) in
    get_or-append (place_tiles fs (at_first ss)) (fused_tiles fs fs) no_tile i (omega (arith, place-length fs (at_first ss)))
    ∙ place-tile fs (at_first ss) no_standing i l

pub tile-fused : (ss : List Spot) (j : ℕ) → j < length (sweep ss)
    → get_or (tiles ss) (cuts_for (length ss) + j) no_tile ≡ tile_of (sweep ss) (get_or (sweep ss) j no_fusion).passed (get_or (sweep ss) j no_fusion).made
unfolding tiles
tile-fused ss j h =
    let fs = sweep ss in
    let k : cuts_for (length ss) + j ≡ length (place_tiles fs (at_first ss)) + j = omega (arith, place-length fs (at_first ss), first-length ss) in
    ap (λ (n : ℕ). get_or (tiles ss) n no_tile) k
    ∙ get_or-append-add (place_tiles fs (at_first ss)) (fused_tiles fs fs) j no_tile ∙ fused-tile fs fs no_fusion j h

module _ (ss : List Spot) (g : Pressable ss) (i : ℕ) where
  -- a block's tile, if its key says when it was made
  tile-of : (s : StandingBlock) (m : ℕ) → Memᴰ s (blocks ss) → s.number ≡ suc i → (i < cuts_for (length ss) → m ≡ no_key) → (cuts_for (length ss) ≤ i → Memᴰ m (keys ss))
      → ((y : ℕ) → has (suc i) (numbers (at_first ss)) || has (suc i) (numbers (made_by (early y ss))) ≡ ltb i (cuts_for (length ss)) || ltb (rank_of m) y)
      → TileAt ss i (tile_of (sweep ss) m s)
  unfolding standing_at
  tile-of s m b e place fused when = record {
    rise = (blocks-block ss g b).rise;
    from = (blocks-block ss g b).from;
    unmade = place;
    made = fused;
    ended = λ h. let r = ended_by_lem (suc i) (sweep ss) h in Memᴰ.cast (ap (λ (n : ℕ). ended_by n (sweep ss)) e ∙ r.2) (passed-key ss r.0 r.1);
    unended = λ h. ap (λ (n : ℕ). ended_by n (sweep ss)) e ∙ ended-none (suc i) (sweep ss) h;
    stands = λ y.
        stands-has ss (suc i) (first_fused ss) (at_first ss) (keys_under y ss) (kept-first ss g)
        ∙ ap₂ (λ (x z : Bool). x && z) (when y) (unconsumed y ss g (suc i) ∙ ap (λ (n : ℕ). not (consumed (suc i) (sweep ss)) || leb y (rank_of (ended_by n (sweep ss)))) (sym e));
    same = λ y t j h. ap (λ (z : StandingBlock). z.spots) (blocks-once ss (stands-block ss g y j) b (h ∙ sym e));
  }

  -- the j-th fusion is an early one if its key has a rank under y
  early-at : (y j : ℕ) → j < length (sweep ss) → ltb j (length (early y ss)) ≡ ltb (rank_of (get_or (sweep ss) j no_fusion).passed) y
  early-at y j h =
      let c = length (early y ss) in
      let e = sweep-split y ss g in
      let at = ap (λ (l : List Fusion). get_or l j no_fusion) e in
      ⊎_elim
      (λ (l : c ≤ j).
      let k : j ≡ c + (j - c) = omega arith in
      let f = get_or (late y ss) (j - c) no_fusion in
      let d : get_or (sweep ss) j no_fusion ≡ f = at ∙ ap (λ (n : ℕ). get_or (early y ss ++ late y ss) n no_fusion) k ∙ get_or-append-add (early y ss) (late y ss) (j - c) no_fusion in
      let r = late-rank y ss f (at_mem (late y ss) (j - c) no_fusion (omega (arith, ap length e, length-append (early y ss) (late y ss)))) in
      le-ltb j c l ∙ sym (ap (λ (x : Fusion). ltb (rank_of x.passed) y) d ∙ le-ltb (rank_of f.passed) y r))
      (λ (l : j < c).
      let f = get_or (early y ss) j no_fusion in
      let d : get_or (sweep ss) j no_fusion ≡ f = at ∙ get_or-append (early y ss) (late y ss) no_fusion j l in
      let r = early-rank y ss f (at_mem (early y ss) j no_fusion l) in
      lt-ltb j c l ∙ sym (ap (λ (x : Fusion). ltb (rank_of x.passed) y) d ∙ lt-ltb (rank_of f.passed) y r))
      (less-or-not c j)

  place-at : i < cuts_for (length ss) → TileAt ss i (get_or (tiles ss) i no_tile)
  place-at h =
      let c = cuts_for (length ss) in
      let fs = sweep ss in
      let l = first-length ss in
      let s = get_or (at_first ss) i no_standing in
      subst (TileAt ss i) (sym (tile-place ss i h))
      (tile-of s no_key (Memᴰ.append_left (made_by fs) (at_mem (at_first ss) i no_standing (omega arith)))
      (omega (arith, number_at 1 (at_first ss) no_standing (first-numbers ss ∙ ap (up_to 1) (sym l)) i (omega arith)))
      (λ z. refl) (λ z. absurd (omega arith))
      (λ y. rw (first-numbers ss, has-up_to (suc i) 1 c (omega arith) (omega arith), lt-ltb i c h)))

  fused_at : cuts_for (length ss) ≤ i → i < length (tiles ss) → TileAt ss i (get_or (tiles ss) i no_tile)
  fused_at h m =
      let c = cuts_for (length ss) in
      let fs = sweep ss in
      let j = i - c in
      let few : j < length fs = omega (arith, tiles-length ss) in
      let f = get_or fs j no_fusion in
      let k : i ≡ c + j = omega arith in
      let e : get_or (tiles ss) i no_tile ≡ tile_of fs f.passed f.made = ap (λ (n : ℕ). get_or (tiles ss) n no_tile) k ∙ tile-fused ss j few in
      let d = made_at fs no_fusion j in
      let small : j < length (made_by fs) = omega (arith, made_by-length fs) in
      let n = number_at (suc c) (made_by fs) no_standing (fused-numbers ss ∙ ap (up_to (suc c)) (sym (made_by-length fs))) j small in
      subst (TileAt ss i) (sym e)
      (tile-of f.made f.passed (Memᴰ.append_right (at_first ss) (Memᴰ.cast (sym d) (at_mem (made_by fs) j no_standing small)))
      (omega (arith, n, ap (λ (z : StandingBlock). z.number) d))
      (λ z. absurd (omega arith)) (λ z. passed-key ss f (at_mem fs j no_fusion few))
      (λ y.
      rw (first-numbers ss, has-up_to-not (suc i) 1 c (inr (omega arith)), le-ltb i c h, made-numbers (first_fused ss) (at_first ss) (keys_under y ss))
      (counted (suc i) (suc c) (length (early y ss)) j (omega arith) ∙ early-at y j few)))

pub tile-at : (ss : List Spot) → Pressable ss → (i : ℕ) → i < length (tiles ss) → TileAt ss i (get_or (tiles ss) i no_tile)
tile-at ss g i h =
    ⊎_elim (λ (l : cuts_for (length ss) ≤ i). fused_at ss g i l h) (λ (l : i < cuts_for (length ss)). place-at ss g i l) (less-or-not (cuts_for (length ss)) i)
