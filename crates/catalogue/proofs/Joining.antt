-- The entries of a pressed tour agree with each other: the place blocks lie apart, the makers rise, and each fused block takes the place of two that its maker ended.
-- Assumes nothing.
use mathlib.Core.Path.{◌≡◌, refl, sym, ap, ◌∙◌}
use mathlib.Core.Logic.{◌↔◌, ⊎_elim}
use mathlib.Core.Bool.{Bool, true, false, cond, ◌&&◌, ◌||◌, or-true}
use mathlib.Core.List.Memᴰ
use mathlib.Core.List.{List, [], ◌∷◌, ◌++◌, Memᴰ}
use Prim.Native.Nat.{ℕ, zero, suc, ◌+◌, ◌-◌, ◌/◌, ◌≤◌, ◌<◌}
use native.Mathlib.Omega.{arith}
use lib.ListN.{length}
use lib.Dec.{ltb, leb, eqb}
use borrow.Author.Tests.{lt-ltb, le-leb, eq-eqb, ne_eqb}
use Rattle.octets.specs.Lists.{every, rising, up_to}
use Rattle.octets.proofs.Lists.{mem-same, mem-more, mem-here, mem-less}
use Rattle.octets.proofs.Tests.{and_both, all_cons, all_nil}
use Rattle.octets.proofs.UpTo.{up_to-from, every-up_to}
use Rattle.octets.proofs.Rising.{rising-rest, rising-least}
use Rattle.spot.specs.Keys.{rank_key}
use Rattle.spot.specs.Spots.{keys}
use Rattle.spot.specs.declared.Spot.{Spot}
use Rattle.spot.proofs.Buffers.{keys_from_lem, only-mem}
use Rattle.sweep.specs.Sweep.{cuts_for, above_passed}
use Rattle.sweep.specs.Pressed.{Tile, tiles, first_key_of, last_key_of}
use Rattle.sweep.specs.Laws.{tile_by, FusedOf, Joining, Joins, SweepLaws}
use Rattle.sweep.proofs.Found.{lowest-in, highest-in, lowest-least, highest-most}
use Rattle.catalogue.specs.declared.Entry.{Entry}
use Rattle.catalogue.specs.Catalogue.{span_fine, apart, makers_rise, in_spans, ended_both, fused_fine, joins_from, joins, joined_from, joined_row, joins_all, entries_agree}
use Rattle.catalogue.proofs.Entries.{entry_for}
use Rattle.catalogue.proofs.Blocks.{ith}

-- ---- what two entries or three show

ended-both : (p : ℕ) (x y : Entry) → x.ended ≡ p → y.ended ≡ p → ended_both p x y ≡ true
unfolding ended_both
ended-both p x y h k = and_both (eqb x.ended p) (eqb y.ended p) (eq-eqb x.ended p h) (eq-eqb y.ended p k)

module _ (e : ℕ → Entry) (b : ℕ) where
  apart_by : {high low : ℕ} → (e b).high ≡ high → (e (suc b)).low ≡ low → high < low → apart e b ≡ true
  unfolding apart
  apart_by p q h = lt-ltb (e b).high (e (suc b)).low (omega (arith, p, q, h))

  makers-by : {old new : ℕ} → (e b).made ≡ old → (e (suc b)).made ≡ new → rank_key old < rank_key new → makers_rise e b ≡ true
  unfolding makers_rise
  makers-by p q h = lt-ltb (rank_key (e b).made) (rank_key (e (suc b)).made) (omega (arith, ap rank_key p, ap rank_key q, h))

-- ---- a row of blocks

module _ (e : ℕ → Entry) (b : ℕ) where
  -- a block that the maker of b did not end is none of the two
  passed_over : (u v : ℕ) (row : List ℕ) → eqb (e u).ended (e b).made ≡ false
      → (joins e b (u ∷ v ∷ row) ≡ joins e b (v ∷ row)) × (joined_row e b (u ∷ v ∷ row) ≡ u ∷ joined_row e b (v ∷ row))
  unfolding ended_both
  passed_over u v row h =
      let t : ended_both (e b).made (e u) (e v) ≡ false = ap (λ (x : Bool). x && eqb (e v).ended (e b).made) h in (
        ap (λ (x : Bool). cond x (fused_fine (e b) (e u) (e v)) (joins_from e b v row)) t,
        ap (λ (x : Bool). cond x (b ∷ row) (u ∷ joined_from e b v row)) t,
      )

  -- the first two that it ended are found, and b stands in their place
  found : (us : List ℕ) (a c : ℕ) (vs : List ℕ) → ((x : ℕ) → Memᴰ x us → eqb (e x).ended (e b).made ≡ false) → ended_both (e b).made (e a) (e c) ≡ true
      → (joins e b (us ++ (a ∷ c ∷ vs)) ≡ fused_fine (e b) (e a) (e c)) × (joined_row e b (us ++ (a ∷ c ∷ vs)) ≡ us ++ (b ∷ vs))
  found [] a c vs h t = (
    ap (λ (x : Bool). cond x (fused_fine (e b) (e a) (e c)) (joins_from e b c vs)) t,
    ap (λ (x : Bool). cond x (b ∷ vs) (a ∷ joined_from e b c vs)) t,
  )
  found (u ∷ []) a c vs h t =
      let p = passed_over u a (c ∷ vs) (h u (Memᴰ.head refl)) in
      let r = found [] a c vs (λ x i. h x (Memᴰ.tail i)) t in
      (p.0 ∙ r.0, p.1 ∙ ap (λ (l : List ℕ). u ∷ l) r.1)
  found (u ∷ v ∷ us) a c vs h t =
      let p = passed_over u v (us ++ (a ∷ c ∷ vs)) (h u (Memᴰ.head refl)) in
      let r = found (v ∷ us) a c vs (λ x i. h x (Memᴰ.tail i)) t in
      (p.0 ∙ r.0, p.1 ∙ ap (λ (l : List ℕ). u ∷ l) r.1)

-- ---- spans

-- of one spot the first key is the last, of more they rise
pub span-fine : (xs : List Spot) → 0 < length xs → rising (keys xs) ≡ true → span_fine (length xs) (first_key_of xs) (last_key_of xs) ≡ true
unfolding span_fine
span-fine [] h r = let z : ⊥ = omega arith in absurd z
span-fine (x ∷ []) h r = eq-eqb x.key x.key refl
span-fine (x ∷ y ∷ xs) h r =
    let m = last_key_of (y ∷ xs) in
    let l = rising-least (suc x.key) (keys (y ∷ xs)) (rising-rest 0 x.key (keys (y ∷ xs)) r) (highest-in (y ∷ xs) (omega arith)) in
    ap (λ (t : Bool). cond t (eqb x.key m) (ltb x.key m)) (ne_eqb (suc (suc (length xs))) 1 (λ d. omega arith)) ∙ lt-ltb x.key m l

module _ (x y : Tile) (up-x : rising (keys x.spots) ≡ true) (up-y : rising (keys y.spots) ≡ true) where
  -- a key of one of two blocks lies in its span
  in-spans : (k : ℕ) → Memᴰ k (keys (x.spots ++ y.spots)) → in_spans (entry_for x) (entry_for y) k ≡ true
  unfolding in_spans
  in-spans k i =
      let r = keys_from_lem (x.spots ++ y.spots) i in
      let inside : (xs : List Spot) → rising (keys xs) ≡ true → Memᴰ r.0 xs → leb (first_key_of xs) k && leb k (last_key_of xs) ≡ true = λ xs up j.
      let l = lowest-least xs up j in
      let m = highest-most xs up j in
      and_both (leb (first_key_of xs) k) (leb k (last_key_of xs)) (le-leb (first_key_of xs) k (omega (arith, l, r.2))) (le-leb k (last_key_of xs) (omega (arith, m, r.2))) in
      let one = leb (first_key_of x.spots) k && leb k (last_key_of x.spots) in
      let two = leb (first_key_of y.spots) k && leb k (last_key_of y.spots) in
      ⊎_elim (λ (j : Memᴰ r.0 x.spots). ap (λ (t : Bool). t || two) (inside x.spots up-x j))
      (λ (j : Memᴰ r.0 y.spots). ap (λ (t : Bool). one || t) (inside y.spots up-y j) ∙ or-true one)
      (Memᴰ.append_cases x.spots r.1)

  fused-fine : (z : Tile) → FusedOf z x y → 0 < length z.spots → fused_fine (entry_for z) (entry_for x) (entry_for y) ≡ true
  unfolding fused_fine
  fused-fine z f some =
      let from : (k : ℕ) → Memᴰ k (keys z.spots) → Memᴰ k (keys (x.spots ++ y.spots)) × (above_passed z.made k ≡ true) = λ k i.
      only-mem (above_passed z.made) (x.spots ++ y.spots) (mem-same (ap keys f.spots) i) in
      let low = from (first_key_of z.spots) (lowest-in z.spots some) in
      let high = from (last_key_of z.spots) (highest-in z.spots some) in
      all_cons _ _ (in-spans z.made f.maker)
      (all_cons _ _ (in-spans (first_key_of z.spots) low.0)
      (all_cons _ _ (in-spans (last_key_of z.spots) high.0) (all_cons _ _ low.1 (all_cons _ _ high.1 all_nil))))

-- ---- the entries of a pressed tour

module _ (ss : List Spot) (w : SweepLaws ss) where
  -- of its blocks with the catalogue, half are place blocks
  pub half : suc (length (tiles ss)) / 2 ≡ cuts_for (length ss)
  half = omega (arith, w.sizes.count)

  -- the number of a tile
  abbrev Inside : ℕ → Type 0
  Inside b = (0 < b) × (b ≤ length (tiles ss))

  rises_by : (b : ℕ) → Inside b → rising (keys (tile_by ss b).spots) ≡ true
  rises_by zero h = let z : ⊥ = omega (arith, h.0) in absurd z
  rises_by (suc i) h = (w.tile i h.1).rise

  some-by : (b : ℕ) → Inside b → 0 < length (tile_by ss b).spots
  some-by zero h = let z : ⊥ = omega (arith, h.0) in absurd z
  some-by (suc i) h = w.sizes.some i h.1

  module _ (e : ℕ → Entry) (at : (i : ℕ) → i < length (tiles ss) → e (suc i) ≡ entry_for (ith ss i)) where
    entry-by : (b : ℕ) → Inside b → e b ≡ entry_for (tile_by ss b)
    entry-by zero h = let z : ⊥ = omega (arith, h.0) in absurd z
    entry-by (suc i) h = at i h.1

    -- what the tiles show of two ends, the entries do
    ended-as : (x b : ℕ) → Inside x → Inside b → ((e x).ended ≡ (e b).made) ↔ ((tile_by ss x).ended ≡ (tile_by ss b).made)
    ended-as x b hx hb =
        let p = ap (λ (t : Entry). t.ended) (entry-by x hx) in
        let q = ap (λ (t : Entry). t.made) (entry-by b hb) in
        (λ d. sym p ∙ d ∙ q, λ d. p ∙ d ∙ sym q)

    -- one block takes its place in the row
    module _ (b : ℕ) (row : List ℕ) (j : Joining ss b row) (hb : Inside b) (hr : (x : ℕ) → Memᴰ x row → Inside x) where
      in_row : (x : ℕ) → Memᴰ x (j.before ++ (j.first ∷ j.second ∷ j.behind)) → Inside x
      in_row x i = hr x (mem-same (sym j.parts) i)

      first-in : Inside j.first
      first-in = in_row j.first (mem-here j.before j.first (j.second ∷ j.behind))

      second-in : Inside j.second
      second-in = in_row j.second (mem-more j.before j.first (j.second ∷ j.behind) (mem-here j.before j.second j.behind))

      next-in : (x : ℕ) → Memᴰ x (j.before ++ (b ∷ j.behind)) → Inside x
      next-in x i =
          ⊎_elim (λ (d : x ≡ b). rw d hb)
          (λ (k : Memᴰ x (j.before ++ j.behind)).
          in_row x (mem-more j.before j.first (j.second ∷ j.behind) (mem-more j.before j.second j.behind k)))
          (mem-less j.before b j.behind i)

      one-joins : (joins e b row ≡ true) × (joined_row e b row ≡ j.before ++ (b ∷ j.behind))
      one-joins =
          let r = found e b j.before j.first j.second j.behind
          (λ x i. ne_eqb (e x).ended (e b).made (λ d. j.others x i ((ended-as x b (in_row x (Memᴰ.append_left (j.first ∷ j.second ∷ j.behind) i)) hb).0 d)))
          (ended-both (e b).made (e j.first) (e j.second) ((ended-as j.first b first-in hb).1 j.ends-first) ((ended-as j.second b second-in hb).1 j.ends-second)) in
          let fine : fused_fine (e b) (e j.first) (e j.second) ≡ true =
          rw (entry-by b hb, entry-by j.first first-in, entry-by j.second second-in)
          (fused-fine (tile_by ss j.first) (tile_by ss j.second) (rises_by j.first first-in) (rises_by j.second second-in) (tile_by ss b) j.fused (some-by b hb)) in
          (ap (joins e b) j.parts ∙ r.0 ∙ fine, ap (joined_row e b) j.parts ∙ r.1)

    all_join : (bs row : List ℕ) → ((b : ℕ) → Memᴰ b bs → Inside b) → ((b : ℕ) → Memᴰ b row → Inside b) → Joins ss bs row → joins_all e bs row ≡ true
    all_join [] row hb hr j = refl
    all_join (b ∷ bs) row hb hr j =
        let h = hb b (Memᴰ.head refl) in
        let r = one-joins b row j.0 h hr in
        and_both (joins e b row) (joins_all e bs (joined_row e b row)) r.0
        (ap (joins_all e bs) r.1 ∙ all_join bs (j.0.before ++ (b ∷ j.0.behind)) (λ x i. hb x (Memᴰ.tail i)) (next-in b row j.0 h hr) j.1)

    -- all of them

    apart-each : every (apart e) (up_to 1 (cuts_for (length ss) - 1)) ≡ true
    apart-each = every-up_to (apart e) 1 (cuts_for (length ss) - 1) each
      where
        each : (b : ℕ) → 1 ≤ b → b < 1 + (cuts_for (length ss) - 1) → apart e b ≡ true
        each zero h l = let z : ⊥ = omega arith in absurd z
        each (suc i) h l =
            let k : suc i < cuts_for (length ss) = omega arith in
            apart_by e (suc i) (ap (λ (x : Entry). x.high) (at i (omega (arith, w.sizes.count)))) (ap (λ (x : Entry). x.low) (at (suc i) (omega (arith, w.sizes.count)))) (w.fused.apart i k)

    makers-each : every (makers_rise e) (up_to (suc (cuts_for (length ss))) (suc (length (tiles ss)) - cuts_for (length ss) - 2)) ≡ true
    makers-each = every-up_to (makers_rise e) (suc (cuts_for (length ss))) (suc (length (tiles ss)) - cuts_for (length ss) - 2) each
      where
        each : (b : ℕ) → suc (cuts_for (length ss)) ≤ b → b < suc (cuts_for (length ss)) + (suc (length (tiles ss)) - cuts_for (length ss) - 2) → makers_rise e b ≡ true
        each zero h l = let z : ⊥ = omega arith in absurd z
        each (suc i) h l =
            let k : suc i < length (tiles ss) = omega arith in
            makers-by e (suc i) (ap (λ (x : Entry). x.made) (at i (omega arith))) (ap (λ (x : Entry). x.made) (at (suc i) k)) (w.fused.makers i (omega arith) k)

    joins-each : joins_all e (up_to (suc (cuts_for (length ss))) (suc (length (tiles ss)) - cuts_for (length ss) - 1)) (up_to 1 (cuts_for (length ss))) ≡ true
    joins-each =
        let c = cuts_for (length ss) in
        let n : suc (length (tiles ss)) - c - 1 ≡ length (tiles ss) - c = omega arith in
        ap (λ (k : ℕ). joins_all e (up_to (suc c) k) (up_to 1 c)) n
        ∙ all_join (up_to (suc c) (length (tiles ss) - c)) (up_to 1 c)
        (λ b i. let r = up_to-from (suc c) (length (tiles ss) - c) i in (omega (arith, r.0), omega (arith, r.0, r.1)))
        (λ b i. let r = up_to-from 1 c i in (omega (arith, r.0), omega (arith, r.0, r.1, w.sizes.count)))
        w.fused.joins

    pub entries-agree : entries_agree (suc (length (tiles ss))) e ≡ true
    unfolding entries_agree
    entries-agree = rw half (all_cons _ _ apart-each (all_cons _ _ makers-each (all_cons _ _ joins-each all_nil)))
