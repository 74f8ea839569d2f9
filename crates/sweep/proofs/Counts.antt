-- How many blocks a tour has and how large they are: each fusion leaves one block less, and in the end one stands, the last made.
-- Assumes nothing.
use mathlib.Core.Path.{◌≡◌, ap, sym, ◌∙◌}
use mathlib.Core.Logic.{⊎_elim}
use mathlib.Core.Bool.{Bool, true, false, not, ◌&&◌, false≢true, or-false}
use mathlib.Core.List.Memᴰ
use mathlib.Core.List.{List, [], ◌∷◌, ◌++◌, Memᴰ}
use Prim.Native.Nat.{ℕ, zero, suc, ◌+◌, ◌-◌, ◌≤◌, ◌<◌}
use native.Mathlib.Nat.{le_of_suc-le-suc, not-suc-le-zero}
use native.Mathlib.Omega.{arith}
use lib.Dec.{eqb}
use lib.ListN.{length, drop, get_or, length-append}
use borrow.Author.Tests.{leb-true, eqb-true}
use Rattle.octets.specs.Lists.{has}
use Rattle.octets.proofs.Order.{less-or-not}
use Rattle.octets.proofs.Lists.{at_mem, no_member}
use Rattle.octets.proofs.Tests.{refuted, or-either, keep-in, keep-passes}
use Rattle.octets.proofs.Sets.{has-append}
use Rattle.octets.proofs.UpTo.{has-up_to}
use Rattle.spot.specs.Keys.{all_keys, rank_key}
use Rattle.spot.specs.Spots.{keys}
use Rattle.spot.specs.Sorted.{only}
use Rattle.spot.specs.declared.Spot.{Spot}
use Rattle.spot.proofs.Halves.{rank-small}
use Rattle.spot.proofs.Buffers.{keys-mem}
use Rattle.sweep.specs.Sweep.{StandingBlock, Fusion, cut, cuts_for, numbered, at_first, by_rank, fuse, fusion_at, fused_at, next_number, fusions, standing, first_fused, sweep}
use Rattle.sweep.specs.Pressed.{Tile, Pressable, tiles}
use Rattle.sweep.specs.Report.{numbers}
use Rattle.sweep.specs.Laws.{no_tile, consumed, TileSizes}
use Rattle.sweep.proofs.Orders.{given-small}
use Rattle.sweep.proofs.Steps.{numbers-append, stepped, carried}
use Rattle.sweep.proofs.Covers.{first_some, Kept, kept-first, kept_next, ripe-left}
use Rattle.sweep.proofs.Stands.{made_by, consumed-append, one-consumed, stands-has}
use Rattle.sweep.proofs.Tiles.{first-length, blocks-numbers, tiles-length, no_standing, no_fusion, tile-place, tile-fused}
use Rattle.sweep.proofs.Pairs.{Apart65, since, total, total-cons, paired-all, Cuts, cuts-for, cut_parts}

-- ---- one block less with each fusion

less-at : (p n : ℕ) (st : List StandingBlock) → length (fusion_at p n st) + length (fused_at p n st) ≡ length st
less-at p n st =
    stepped (λ st m ts fs. length fs + length ts ≡ length st) p n (λ st. omega arith)
    (λ us a b vs h. omega (arith, length-append us (a ∷ b ∷ vs), length-append us ((fuse p n a b).made ∷ vs))) st

some_at : (p n : ℕ) (st : List StandingBlock) → 0 < length st → 0 < length (fused_at p n st)
some_at p n st =
    stepped (λ st m ts fs. 0 < length st → 0 < length ts) p n (λ st h. h) (λ us a b vs h l. omega (arith, length-append us ((fuse p n a b).made ∷ vs))) st

less : (n : ℕ) (st : List StandingBlock) (ps : List ℕ) → length (fusions n st ps) + length (standing n st ps) ≡ length st
less n st [] = omega arith
less n st (p ∷ ps) =
    omega
    (arith, length-append (fusion_at p n st) (fusions (next_number p n st) (fused_at p n st) ps), less-at p n st, less (next_number p n st) (fused_at p n st) ps)

some : (n : ℕ) (st : List StandingBlock) (ps : List ℕ) → 0 < length st → 0 < length (standing n st ps)
some = carried (λ n st. 0 < length st) some_at

-- ---- with no spot left one block stands

one_left : (g : ℕ → Bool) (st : List StandingBlock) → total g st ≡ 0 → Apart65 g st → length st ≤ 1
one_left g [] t h = omega arith
one_left g (a ∷ []) t h = omega arith
one_left g (a ∷ b ∷ st) t h = let e : ⊥ = omega (arith, t, total-cons g a (b ∷ st), total-cons g b st, h.2.0) in absurd e

module _ (ss : List Spot) (g : Pressable ss) where
  abbrev at_last : List StandingBlock
  at_last = standing (first_fused ss) (at_first ss) (by_rank (keys ss))

  all-passed : only (since all_keys) ss ≡ []
  all-passed =
      no_member (only (since all_keys) ss)
      (λ x i.
      let f : Spot → Bool = λ y. since all_keys y.key in
      let a = leb-true all_keys (rank_key x.key) (keep-passes f ss i) in
      let b = rank-small x.key (given-small ss g x.key (keys-mem ss (keep-in f ss i))) in
      omega arith)

  last_one : length at_last ≤ 1
  last_one = let k = paired-all ss g in one_left (since all_keys) at_last (ap length (k.covers ∙ all-passed)) k.pairs

length-sweep : (ss : List Spot) → Pressable ss → length (sweep ss) ≡ cuts_for (length ss) - 1
unfolding sweep
length-sweep ss g =
    ⊎_elim (λ (h : length (at_first ss) ≤ 0). omega (arith, all, first-length ss))
    (λ (h : 0 < length (at_first ss)). omega (arith, all, first-length ss, last_one ss g, some (first_fused ss) (at_first ss) (by_rank (keys ss)) h))
    (less-or-not (length (at_first ss)) 0)
  where
    all : length (fusions (first_fused ss) (at_first ss) (by_rank (keys ss))) + length (at_last ss g) ≡ length (at_first ss)
    all = less (first_fused ss) (at_first ss) (by_rank (keys ss))

-- ---- how large they are

-- place blocks have 64 spots but the last, which has no more
place-size : (c n i : ℕ) (ss : List Spot) → Cuts (length ss) c → i < c
    → (length (get_or (numbered n (cut c ss)) i no_standing).spots ≤ 64) × ((suc i ≡ c → ⊥) → length (get_or (numbered n (cut c ss)) i no_standing).spots ≡ 64)
place-size zero n i ss h l = absurd (not-suc-le-zero l)
place-size (suc c) n zero ss h l =
    let r = cut_parts c ss h in (r.1, λ d. r.2 (⊎_elim (λ (z : c ≤ 0). absurd (d (omega arith))) (λ z. z) (less-or-not c 0)))
place-size (suc c) n (suc i) ss h l =
    let r = place-size c (suc n) i (drop 64 ss) (cut_parts c ss h).3 (le_of_suc-le-suc l) in (r.0, λ d. r.1 (λ e. d (ap suc e)))

-- every fusion makes a block of 64
full_at : (p n : ℕ) (st : List StandingBlock) {f : Fusion} → Memᴰ f (fusion_at p n st) → length f.made.spots ≡ 64
unfolding fuse
full_at p n st {f} =
    stepped (λ st m ts fs. Memᴰ f fs → length f.made.spots ≡ 64) p n (λ st i. absurd (Memᴰ.not-nil i))
    (λ us a b vs h i. ap (λ (g : Fusion). length g.made.spots) (Memᴰ.eq_of_singleton i) ∙ ripe-left p a b h) st

full : (n : ℕ) (st : List StandingBlock) (ps : List ℕ) {f : Fusion} → Memᴰ f (fusions n st ps) → length f.made.spots ≡ 64
full n st [] i = absurd (Memᴰ.not-nil i)
full n st (p ∷ ps) i =
    ⊎_elim (λ j. full_at p n st j) (λ j. full (next_number p n st) (fused_at p n st) ps j) (Memᴰ.append_cases (fusion_at p n st) i)

-- how many spots the tile with index i has, the last place block being block c
record Sized (c i n : ℕ) : Type 0 where
  some : 0 < n
  few : n ≤ 64
  full : (suc i ≡ c → ⊥) → n ≡ 64

module _ (ss : List Spot) (i : ℕ) where
  abbrev size : ℕ
  size = length (get_or (tiles ss) i no_tile).spots

  place-sized : i < cuts_for (length ss) → Sized (cuts_for (length ss)) i size
  unfolding at_first
  place-sized h =
      let e = ap (λ (t : Tile). length t.spots) (tile-place ss i h) in
      let r = place-size (cuts_for (length ss)) 1 i ss (cuts-for (length ss)) h in
      let m = first_some ss (at_mem (at_first ss) i no_standing (omega (arith, first-length ss))) in
      record { some = omega (arith, e, m); few = omega (arith, e, r.0); full = λ d. e ∙ r.1 d }

  fused-sized : cuts_for (length ss) ≤ i → i < length (tiles ss) → Sized (cuts_for (length ss)) i size
  unfolding sweep
  fused-sized h l =
      let c = cuts_for (length ss) in
      let j = i - c in
      let k : i ≡ c + j = omega arith in
      let few : j < length (sweep ss) = omega (arith, tiles-length ss) in
      let z : size ≡ 64 = ap (λ (n : ℕ). length (get_or (tiles ss) n no_tile).spots) k ∙ ap (λ (t : Tile). length t.spots) (tile-fused ss j few)
      ∙ full (first_fused ss) (at_first ss) (by_rank (keys ss)) (at_mem (sweep ss) j no_fusion few) in
      record { some = omega arith; few = omega arith; full = λ d. z }

  sized : i < length (tiles ss) → Sized (cuts_for (length ss)) i size
  sized l = ⊎_elim (λ (h : cuts_for (length ss) ≤ i). fused-sized h l) (λ (h : i < cuts_for (length ss)). place-sized h) (less-or-not (cuts_for (length ss)) i)

-- ---- which are halves of a fusion

consumed-some : (b : ℕ) (fs : List Fusion) → consumed b fs ≡ true → 0 < length fs
consumed-some b [] h = absurd (false≢true h)
consumed-some b (f ∷ fs) h = omega arith

-- the last block made is a half of none
consumed-early : (ss : List Spot) (b n : ℕ) (st : List StandingBlock) (ps : List ℕ) → Kept ss n st → consumed b (fusions n st ps) ≡ true → suc b < n + length (fusions n st ps)
consumed-early ss b n st [] k e = absurd (false≢true e)
consumed-early ss b n st (p ∷ ps) k e =
    let fs = fusion_at p n st in
    let gs = fusions (next_number p n st) (fused_at p n st) ps in
    let a = length-append fs gs in
    ⊎_elim (λ h. omega (arith, a, k.numbered b (one-consumed b p n st h), consumed-some b fs h))
    (λ h. omega (arith, a, consumed-early ss b (next_number p n st) (fused_at p n st) ps (kept_next ss p n st k) h))
    (or-either (consumed b fs) (consumed b gs) (sym (consumed-append b fs gs) ∙ e))

-- of one block alone
only_one : (st : List StandingBlock) (b z : ℕ) → length st ≤ 1 → has z (numbers st) ≡ true → has b (numbers st) ≡ eqb b z
only_one [] b z l h = absurd (false≢true h)
only_one (s ∷ []) b z l h = or-false (eqb b s.number) ∙ ap (eqb b) (sym (eqb-true z s.number (sym (or-false (eqb z s.number)) ∙ h)))
only_one (s ∷ r ∷ st) b z l h = let e : ⊥ = omega arith in absurd e

module _ (ss : List Spot) (g : Pressable ss) where
  -- in the end a block stands if it is a half of none
  stands-last : (b : ℕ) → 0 < b → b ≤ length (tiles ss) → has b (numbers (at_last ss g)) ≡ not (consumed b (sweep ss))
  unfolding sweep
  stands-last b h l =
      stands-has ss b (first_fused ss) (at_first ss) (by_rank (keys ss)) (kept-first ss g) ∙
      ap (λ (x : Bool). x && not (consumed b (sweep ss))) (sym (has-append b (numbers (at_first ss)) (numbers (made_by (sweep ss)))) ∙ all)
    where
      all : has b (numbers (at_first ss) ++ numbers (made_by (sweep ss))) ≡ true
      all =
          ap (has b) (sym (numbers-append (at_first ss) (made_by (sweep ss))) ∙ blocks-numbers ss) ∙
          has-up_to b 1 (cuts_for (length ss) + length (sweep ss)) h (omega (arith, l, tiles-length ss))

  last-unconsumed : consumed (length (tiles ss)) (sweep ss) ≡ false
  unfolding sweep
  last-unconsumed =
      refuted (consumed (length (tiles ss)) (sweep ss))
      (λ h. let z = consumed-early ss (length (tiles ss)) (first_fused ss) (at_first ss) (by_rank (keys ss)) (kept-first ss g) h in omega (arith, z, tiles-length ss))

  ends : (i : ℕ) → i < length (tiles ss) → consumed (suc i) (sweep ss) ≡ not (eqb (suc i) (length (tiles ss)))
  ends i l =
      let t = length (tiles ss) in
      let last = stands-last t (omega arith) (omega arith) ∙ ap not last-unconsumed in
      twice (consumed (suc i) (sweep ss)) (sym (stands-last (suc i) (omega arith) l) ∙ only_one (at_last ss g) (suc i) t (last_one ss g) last)
    where
      twice : (x : Bool) {y : Bool} → not x ≡ y → x ≡ not y
      twice true e = ap not e
      twice false e = ap not e

pub sizes : (ss : List Spot) → Pressable ss → TileSizes ss
sizes ss g = record {
  count = omega (arith, tiles-length ss, length-sweep ss g);
  full = λ i l. (sized ss i l).full;
  some = λ i l. (sized ss i l).some;
  few = λ i l. (sized ss i l).few;
  ends = ends ss g;
}
