-- The rules on the children's blocks and ranges, as tests of the entries' bytes.
-- Assumes nothing.
use mathlib.Core.Path.{◌≡◌, refl, sym, ap, ap₂, subst, ◌∙◌}
use mathlib.Core.Logic.{⊎_elim}
use mathlib.Core.Bool.{Bool, true, false, not, cond, ◌&&◌, ◌||◌}
use mathlib.Core.List.Memᴰ
use mathlib.Core.List.{List, [], ◌∷◌}
use Prim.Native.Nat.{ℕ, zero, suc, ◌+◌, ◌-◌, ◌*◌, ◌≤◌, ◌<◌}
use native.Mathlib.Nat.{eq-or-lt_of_le}
use native.Mathlib.Omega.{arith}
use lib.Dec.{leb, ltb, eqb}
use borrow.Author.Tests.{leb-true, ltb-true, le-leb, lt-leb, lt-ltb, ne_eqb, not-true}
use Rattle.octets.specs.Lists.{all, every, records, has, distinct}
use Rattle.octets.specs.Bytes.{be}
use Rattle.octets.proofs.Order.{less-or-not}
use Rattle.octets.proofs.Tests.{and_left, and_right, and_both, or_left, bool-ext}
use Rattle.octets.proofs.Sets.{has-not, not-has-mem, distinct-split, distinct-join}
use Rattle.octets.proofs.Records.{records-more, tests-at, tests-make}
use Rattle.spot.specs.Keys.{rank_key, within, limited, start_key, end_key}
use Rattle.spot.specs.Spots.{key_at, keys_from}
use Rattle.spot.proofs.Limits.{limited-within}
use Rattle.block.specs.declared.Entry.{Entry}
use Rattle.block.specs.declared.Asked.{Asked}
use Rattle.block.specs.Table.{version1}
use Rattle.block.specs.Node.{Node, node_from, entry_at, open_below, first_open}
use Rattle.block.specs.NodeRules.{low_of, stands_in, child_blocks, lows_not_below, children_apart, before_next, in_child, entry_credible, all_credible, entries_credible, extremes}
use Rattle.block.specs.Checks.{other_block, comes_before, start_of, in_fine, credible_fine, from_at, next_at, fresh_fine, place_fine, blocks_fine}
use Rattle.block.proofs.Shut.{shuffle, in_left, in_right, cond-or, all2, all3, all4}
use Rattle.block.proofs.Views.{every-extremes, rest-lows}
use Rattle.block.proofs.Inside.{start-low, start_first, start-least}
use Rattle.block.proofs.Marks.{credible_at}

-- ---- blocks named once

not-or : (a b : Bool) → not (a || b) ≡ not a && not b
not-or true b = refl
not-or false b = refl

module _ (f : ℕ → ℕ) (w at : ℕ) where
  has-none : (k n p : ℕ) → not (has k (records f w n p)) ≡ all (records (λ a. not (eqb k (f a))) w n p)
  unfolding all
  has-none k zero p = refl
  has-none k (suc n) p = not-or (eqb k (f p)) (has k (records f w n (p + w))) ∙ ap (λ (b : Bool). not (eqb k (f p)) && b) (has-none k n (p + w))

  -- no record before the j-th is the same
  abbrev fresh : ℕ → Bool
  fresh j = all (records (λ a. not (eqb (f (at + w * j)) (f a))) w j at)

  fresh-of : (n : ℕ) → distinct (records f w n at) ≡ true → (j : ℕ) → j < n → fresh j ≡ true
  fresh-of zero h j l = let z : ⊥ = omega arith in absurd z
  fresh-of (suc n) h j l =
      let x : ℕ = f (at + w * n) in
      let r = distinct-split (records f w n at) (x ∷ []) (ap distinct (sym (records-more f w n at)) ∙ h) in
      ⊎_elim
      (λ (e : j ≡ n). subst (λ (i : ℕ). fresh i ≡ true) (sym e) (sym (has-none x n at) ∙ ap not (has-not x (records f w n at) (λ i. r.off x i (Memᴰ.head refl)))))
      (λ g. fresh-of n r.left j g)
      (eq-or-lt_of_le (let b : j ≤ n = omega arith in b))

  of-fresh : (n : ℕ) → ((j : ℕ) → j < n → fresh j ≡ true) → distinct (records f w n at) ≡ true
  of-fresh zero h = refl
  of-fresh (suc n) h =
      let x : ℕ = f (at + w * n) in
      ap distinct (records-more f w n at)
      ∙ distinct-join (records f w n at) (x ∷ []) (of-fresh n (λ j l. h j (omega arith))) refl
      (λ z i j. not-has-mem x (records f w n at) (not-true _ (has-none x n at ∙ h n (omega arith))) (Memᴰ.cast (sym (Memᴰ.eq_of_singleton j)) i))

-- of at most eight entries
pub once_is : (s : List ℕ) (c : ℕ) → c ≤ 8 → distinct (records (be 2 s) 28 c 8) ≡ blocks_fine s c
unfolding blocks_fine fresh_fine
once_is s c h =
    bool-ext (distinct (records (be 2 s) 28 c 8)) (all (records (place_fine c s) 1 8 0))
    (λ d. tests-make (place_fine c s) 1 8 0 (λ i l. to d (0 + 1 * i)))
    (λ d. of-fresh (be 2 s) 28 8 c (λ j l. from j l (tests-at (place_fine c s) 1 8 0 j d (omega arith))))
  where
    to : distinct (records (be 2 s) 28 c 8) ≡ true → (j : ℕ) → leb c j || fresh (be 2 s) 28 8 j ≡ true
    to d j = ⊎_elim (λ g. in_left (fresh (be 2 s) 28 8 j) (le-leb c j g)) (λ g. in_right (leb c j) (fresh-of (be 2 s) 28 8 c d j g)) (less-or-not c j)

    from : (j : ℕ) → j < c → leb c (0 + 1 * j) || fresh (be 2 s) 28 8 (0 + 1 * j) ≡ true → fresh (be 2 s) 28 8 j ≡ true
    from j l t =
        let e : 0 + 1 * j ≡ j = omega arith in
        or_left (leb c j) (fresh (be 2 s) 28 8 j) (ap (λ (k : ℕ). leb c k || fresh (be 2 s) 28 8 k) (sym e) ∙ t) (lt-leb c j l)

-- ---- the blocks of a node's entries

open_blocks : (es : List Entry) → child_blocks (first_open es) ≡ child_blocks es
open_blocks [] = refl
open_blocks (e ∷ es) = refl

blocks-records : (s : List ℕ) (n at : ℕ) → child_blocks (records (entry_at s) 28 n at) ≡ records (be 2 s) 28 n at
unfolding entry_at
blocks-records s zero at = refl
blocks-records s (suc n) at = ap (λ (l : List ℕ). be 2 s at ∷ l) (blocks-records s n (at + 28))

-- ---- an entry that some P agrees with

-- the highest and the lowest that an entry shows are inside the limits
abbrev ended : Entry → Bool
ended e = eqb e.size 0 || (limited e.top && limited e.bottom)

-- of an entry with the size n, whatever its block is: lo is where its range begins inside the limits, and next where it ends there
module _ (n t b from lo low block : ℕ) (es : List Entry) (next : ℕ) (start : (k : ℕ) → (leb from k && leb low k) && leb start_key k ≡ leb lo k)
    (end : (k : ℕ) → before_next es k && ltb k end_key ≡ ltb k next) where
  abbrev inside : ℕ → Bool
  inside k = all (leb from k ∷ leb low k ∷ before_next es k ∷ [])

  in_is : (k : ℕ) → inside k && limited k ≡ in_fine lo next k
  unfolding in_fine within
  in_is k =
      ap₂ (λ (x y : Bool). x && y) (all3 (leb from k) (leb low k) (before_next es k)) (limited-within k ∙ all2 (leb start_key k) (ltb k end_key))
      ∙ shuffle true (leb from k && leb low k) (leb start_key k) (before_next es k) (ltb k end_key)
      ∙ ap₂ (λ (x y : Bool). x && y) (start k) (end k)

  abbrev entry : Entry
  entry = record { block = block; size = n; low = low; top = cond (eqb n 0) 0 t; bottom = cond (eqb n 0) 0 b }

  entry-credible : entry_credible from entry es && ended entry ≡ eqb n 0 || (leb n 64 && credible_fine n t b lo next)
  unfolding entry_credible in_child credible_fine
  entry-credible = pick (eqb n 0)
    where
      same : Bool → Bool
      same z = cond (eqb n 1) (eqb (cond z 0 t) (cond z 0 b)) (ltb (rank_key (cond z 0 b)) (rank_key (cond z 0 t)))

      regroup : (l m x y u v : Bool) → (((l && m) && x) && y) && (u && v) ≡ l && ((m && (x && u)) && (y && v))
      regroup false m x y u v = refl
      regroup true false x y u v = refl
      regroup true true false y u v = refl
      regroup true true true y true v = refl
      regroup true true true true false v = refl
      regroup true true true false false v = refl

      pick : (z : Bool) → (z || all (leb n 64 ∷ same z ∷ inside (cond z 0 t) ∷ inside (cond z 0 b) ∷ [])) && (z || (limited (cond z 0 t) && limited (cond z 0 b)))
          ≡ z || (leb n 64 && credible_fine n t b lo next)
      pick true = refl
      pick false =
          ap (λ (x : Bool). x && (limited t && limited b)) (all4 (leb n 64) (same false) (inside t) (inside b))
          ∙ regroup (leb n 64) (same false) (inside t) (inside b) (limited t) (limited b)
          ∙ ap₂ (λ (x y : Bool). leb n 64 && ((x && y) && (inside b && limited b))) (cond-or (eqb n 1) (eqb t b) (ltb (rank_key b) (rank_key t))) (in_is t)
          ∙ ap (λ (x : Bool). leb n 64 && ((((eqb n 1 && eqb t b) || (not (eqb n 1) && ltb (rank_key b) (rank_key t))) && in_fine lo next t) && x)) (in_is b)

-- the highest of some tests is the only one
higher : (a b c d k : ℕ) → a ≤ d → b ≤ d → c ≤ d → ((k : ℕ) → a ≤ k → b ≤ k → c ≤ k → d ≤ k) → (leb a k && leb b k) && leb c k ≡ leb d k
higher a b c d k l m n least =
    bool-ext ((leb a k && leb b k) && leb c k) (leb d k)
    (λ q. let ab : leb a k && leb b k ≡ true = and_left (leb a k && leb b k) (leb c k) q in
    le-leb d k
    (least k (leb-true a k (and_left (leb a k) (leb b k) ab)) (leb-true b k (and_right (leb a k) (leb b k) ab)) (leb-true c k (and_right (leb a k && leb b k) (leb c k) q))))
    (λ q. let g : d ≤ k = leb-true d k q in and_both _ _ (and_both _ _ (le-leb a k (omega arith)) (le-leb b k (omega arith))) (le-leb c k (omega arith)))

-- and so is the lower of two ends
lower : (k a b : ℕ) → a < b → ltb k a && ltb k b ≡ ltb k a
lower k a b h =
    bool-ext (ltb k a && ltb k b) (ltb k a) (λ q. and_left (ltb k a) (ltb k b) q)
    (λ q. let l : k < a = ltb-true k a q in and_both _ _ q (lt-ltb k b (omega arith)))

module _ (s : List ℕ) (from floor : ℕ) (above : from ≤ floor) (first : start_key ≤ floor) (least : (k : ℕ) → from ≤ k → start_key ≤ k → floor ≤ k) where
  -- where a child's range ends, of which m more follow
  before : (at end m : ℕ) → end ≡ at + 28 * suc m → every (comes_before end_key) (keys_from s 28 m (at + 32)) ≡ true
      → (k : ℕ) → before_next (records (entry_at s) 28 m (at + 28)) k && ltb k end_key ≡ ltb k (next_at end s at)
  unfolding entry_at
  before at end zero g q k = sym (ap (λ (z : Bool). ltb k (cond z end_key (key_at s (at + 32)))) (le-leb end (at + 28) (omega arith)))
  before at end (suc m) g q k =
      let p : at + 28 + 4 ≡ at + 32 = omega arith in
      ap (λ (j : ℕ). ltb k (key_at s j) && ltb k end_key) p
      ∙ lower k (key_at s (at + 32)) end_key (ltb-true _ _ (and_left (ltb (key_at s (at + 32)) end_key) (every (comes_before end_key) (keys_from s 28 m (at + 32 + 28))) q))
      ∙ sym (ap (λ (z : Bool). ltb k (cond z end_key (key_at s (at + 32)))) (lt-leb end (at + 28) (omega arith)))

  -- the entries from the second on
  credible-later : (n at end : ℕ) → 8 < at → end ≡ at + 28 * n → every (leb floor) (keys_from s 28 n (at + 4)) ≡ true
      → every (comes_before end_key) (keys_from s 28 n (at + 4)) ≡ true
      → all_credible from (records (entry_at s) 28 n at) && every ended (records (entry_at s) 28 n at) ≡ all (records (credible_at floor end s) 28 n at)
  unfolding all entry_at
  credible-later zero at end h e q r = refl
  credible-later (suc n) at end h e q r =
      let p : at + 4 + 28 ≡ at + 28 + 4 = omega arith in
      let w : at + 4 + 28 ≡ at + 32 = omega arith in
      let es : List Entry = records (entry_at s) 28 n (at + 28) in
      let r' : every (comes_before end_key) (keys_from s 28 n (at + 4 + 28)) ≡ true = and_right (ltb (key_at s (at + 4)) end_key) (every (comes_before end_key) (keys_from s 28 n (at + 4 + 28))) r in
      shuffle true (entry_credible from (entry_at s at) es) (ended (entry_at s at)) (all_credible from es) (every ended es)
      ∙ ap₂ (λ (x y : Bool). x && y)
      (entry-credible (be 1 s (at + 2)) (key_at s (at + 12)) (key_at s (at + 20)) from (from_at floor s at) (key_at s (at + 4)) (be 2 s at) es (next_at end s at) start
      (before at end n e (ap (λ (k : ℕ). every (comes_before end_key) (keys_from s 28 n k)) (sym w) ∙ r')))
      (credible-later n (at + 28) end (omega arith) (omega arith) (ap (λ (k : ℕ). every (leb floor) (keys_from s 28 n k)) (sym p) ∙ and_right (leb floor (key_at s (at + 4))) (every (leb floor) (keys_from s 28 n (at + 4 + 28))) q)
      (ap (λ (k : ℕ). every (comes_before end_key) (keys_from s 28 n k)) (sym p) ∙ r'))
    where
      start : (k : ℕ) → (leb from k && leb (key_at s (at + 4)) k) && leb start_key k ≡ leb (from_at floor s at) k
      start k =
          let l : floor ≤ key_at s (at + 4) = leb-true _ _ (and_left (leb floor (key_at s (at + 4))) (every (leb floor) (keys_from s 28 n (at + 4 + 28))) q) in
          higher from (key_at s (at + 4)) start_key (key_at s (at + 4)) k (omega arith) (omega arith) (omega arith) (λ j x y z. y)
          ∙ sym (ap (λ (z : Bool). leb (cond z floor (key_at s (at + 4))) k) (ne_eqb at 8 (λ z. omega arith)))

  credible-all : (c : ℕ) → every (leb floor) (keys_from s 28 (c - 1) 40) ≡ true → every (comes_before end_key) (keys_from s 28 (c - 1) 40) ≡ true
      → all_credible from (first_open (records (entry_at s) 28 c 8)) && every ended (first_open (records (entry_at s) 28 c 8)) ≡ all (records (credible_at floor (8 + 28 * c) s) 28 c 8)
  unfolding all entry_at
  credible-all zero q r = refl
  credible-all (suc c) q r =
      let e : suc c - 1 ≡ c = omega arith in
      let es : List Entry = records (entry_at s) 28 c 36 in
      let r' : every (comes_before end_key) (keys_from s 28 c 40) ≡ true = ap (λ (k : ℕ). every (comes_before end_key) (keys_from s 28 k 40)) (sym e) ∙ r in
      shuffle true (entry_credible from (open_below (entry_at s 8)) es) (ended (open_below (entry_at s 8))) (all_credible from es) (every ended es)
      ∙ ap₂ (λ (x y : Bool). x && y)
      (entry-credible (be 1 s 10) (key_at s 20) (key_at s 28) from floor 0 (be 2 s 8) es (next_at (8 + 28 * suc c) s 8)
      (λ k. higher from 0 start_key floor k above (omega arith) first (λ j x y z. least j x z)) (before 8 (8 + 28 * suc c) c refl r'))
      (credible-later c 36 (8 + 28 * suc c) (omega arith) (omega arith) (ap (λ (k : ℕ). every (leb floor) (keys_from s 28 k 40)) (sym e) ∙ q) r')

-- ---- the rules

module _ (blocks : ℕ) (s : List ℕ) (c p i d : ℕ) (a : Asked) where
  abbrev node : Node
  node = node_from version1 blocks s c p i d

  pub lows-above-is : lows_not_below a node ≡ every (leb (low_of a)) (keys_from s 28 (c - 1) 40)
  unfolding lows_not_below node_from
  lows-above-is = ap (every (λ k. leb (low_of a) k)) (rest-lows s c)

  pub apart-is : children_apart a node ≡ all (records (other_block (stands_in a) s) 28 c 8) && distinct (records (be 2 s) 28 c 8)
  unfolding children_apart node_from
  apart-is =
      ap (λ (l : List ℕ). distinct (stands_in a ∷ l)) (open_blocks (records (entry_at s) 28 c 8) ∙ blocks-records s c 8)
      ∙ ap (λ (b : Bool). b && distinct (records (be 2 s) 28 c 8)) (has-none (be 2 s) 28 8 (stands_in a) c 8)

  -- with what the limits ask of the entries
  pub credible-is : every (leb (start_of a)) (keys_from s 28 (c - 1) 40) ≡ true → every (comes_before end_key) (keys_from s 28 (c - 1) 40) ≡ true
      → entries_credible a node && every limited (extremes node.entries) ≡ all (records (credible_at (start_of a) (8 + 28 * c) s) 28 c 8)
  unfolding entries_credible node_from
  credible-is q r =
      ap (λ (b : Bool). all_credible (low_of a) (first_open (records (entry_at s) 28 c 8)) && b) (every-extremes limited (first_open (records (entry_at s) 28 c 8)))
      ∙ credible-all s (low_of a) (start_of a) (start-low a) (start_first a) (start-least a) c q r
