-- The rules of a node, as tests of its numbers.
-- Assumes nothing.
use mathlib.Core.Path.{◌≡◌, refl, sym, ap, ap₂, ◌∙◌}
use mathlib.Core.Bool.{Bool, true, false, not, cond, ◌&&◌, ◌||◌}
use mathlib.Core.List.{List, [], ◌∷◌, ◌++◌, append_assoc}
use mathlib.Core.Logic.{⊎_elim}
use Prim.Native.Nat.{ℕ, ◌+◌, ◌-◌, ◌*◌, ◌≤◌}
use native.Mathlib.Omega.{arith}
use lib.Dec.{leb, ltb, eqb}
use lib.ListN.{length}
use borrow.Author.Tests.{eqb-true, leb-true}
use Rattle.octets.specs.Lists.{all, every, records, is_empty, rest, rising, rising_from}
use Rattle.octets.specs.Bytes.{be}
use Rattle.spot.specs.Keys.{limited}
use Rattle.spot.specs.Spots.{key_at, spot_at, keys_from}
use Rattle.block.specs.declared.Entry.{Entry}
use Rattle.block.specs.declared.Asked.{Asked}
use Rattle.block.specs.declared.Asked.TheVariants.{Root, Child}
use Rattle.block.specs.Table.{block_ok, version1}
use Rattle.block.specs.Node.{Node, node_from, entry_at, first_open}
use Rattle.block.specs.NodeRules.{low_of, names, fewest, child_count_ok, filled, lowest, leaf_buffers_empty, not_below, lows, zero_first, lows_rise, child_blocks_ok, extremes, inside_limits}
use Rattle.block.specs.Checks.{count_fine, leaf_fine}
use Rattle.octets.proofs.Tests.{and_left, and_right, and_both, or-either, every_append, every-join}
use Rattle.octets.proofs.Rising.{rising-rest, rising-from}
use Rattle.octets.proofs.Records.{length-records, empty-records}
use Rattle.block.proofs.Shut.{cond-or, all2, all4}
use Rattle.spot.proofs.Buffers.{keys-records}
use Rattle.block.proofs.Views.{length-open, empty-open, open-zero, every-entry, rest-lows}

-- ---- ranges

pub rising-floor : (a : ℕ) (xs : List ℕ) → rising xs ≡ true → every (leb a) xs ≡ true → rising_from a xs ≡ true
rising-floor a [] p q = refl
rising-floor a (x ∷ xs) p q = and_both _ _ (and_left (leb a x) (every (leb a) xs) q) (rising-rest 0 x xs p)

pub floor-forward : (a : Asked) (n : Node) (ks xs : List ℕ) → names n ≡ ks → ((f : ℕ → Bool) → every f ks ≡ true → every f xs ≡ true)
    → not_below a n ≡ true → rising xs ≡ true → rising_from (low_of a) xs ≡ true
unfolding not_below
floor-forward (Root b) n ks xs q part h p = p
floor-forward (Child e) n ks xs q part h p = rising-floor e.low xs p (part (λ k. leb e.low k) (ap (every (λ k. leb e.low k)) (sym q) ∙ h))

pub floor-back : (a : Asked) (n : Node) (xs ys zs : List ℕ) → names n ≡ xs ++ (ys ++ zs) → rising_from (low_of a) xs ≡ true → rising_from (low_of a) ys ≡ true
    → rising_from (low_of a) zs ≡ true → not_below a n ≡ true
unfolding not_below
floor-back (Root b) n xs ys zs q u v w = refl
floor-back (Child e) n xs ys zs q u v w =
    let f : ℕ → Bool = λ k. leb e.low k in
    ap (every f) q
    ∙ every-join f xs (ys ++ zs) (rising-from e.low xs u) (every-join f ys zs (rising-from e.low ys v) (rising-from e.low zs w))

leaf-or : (b x : Bool) → cond b x true ≡ not b || x
leaf-or true x = refl
leaf-or false x = refl

module _ (blocks : ℕ) (s : List ℕ) (c p i d : ℕ) where
  abbrev node : Node
  node = node_from version1 blocks s c p i d

  abbrev es : List Entry
  es = first_open (records (entry_at s) 28 c 8)

  es-length : length es ≡ c
  es-length = length-open (records (entry_at s) 28 c 8) ∙ length-records (entry_at s) 28 c 8

  es-empty : is_empty es ≡ eqb c 0
  es-empty = empty-open (records (entry_at s) 28 c 8) ∙ empty-records (entry_at s) 28 c 8

  pub names-are : names node ≡ keys_from s 12 p (8 + 28 * c) ++ (keys_from s 12 i (8 + 28 * c + 12 * p) ++ keys_from s 8 d (8 + 28 * c + 12 * (p + i)))
  unfolding names node_from
  names-are =
      ap₂ (λ (x y : List ℕ). (x ++ y) ++ keys_from s 8 d (8 + 28 * c + 12 * (p + i))) (keys-records s 12 p (8 + 28 * c)) (keys-records s 12 i (8 + 28 * c + 12 * p))
      ∙ append_assoc (keys_from s 12 p (8 + 28 * c)) (keys_from s 12 i (8 + 28 * c + 12 * p)) (keys_from s 8 d (8 + 28 * c + 12 * (p + i)))

  pub count-is : (a : Asked) → child_count_ok a node ≡ count_fine (be 1 s 3) (fewest a) c
  unfolding child_count_ok node_from count_fine
  count-is a =
      let b : Bool = eqb (be 1 s 3) 0 in
      cond-or b (is_empty es) (all (leb (fewest a) (length es) ∷ leb (length es) 8 ∷ []))
      ∙ ap₂ (λ (x : Bool) (n : ℕ). (b && x) || (not b && all (leb (fewest a) n ∷ leb n 8 ∷ []))) es-empty es-length
      ∙ ap (λ (x : Bool). (b && eqb c 0) || (not b && x)) (all2 (leb (fewest a) c) (leb c 8))

  pub count_most : (few : ℕ) → count_fine (be 1 s 3) few c ≡ true → c ≤ 8
  unfolding count_fine
  count_most few h =
      let b : Bool = eqb (be 1 s 3) 0 in
      ⊎_elim (λ q. let z : c ≡ 0 = eqb-true c 0 (and_right b (eqb c 0) q) in omega arith)
      (λ q. leb-true c 8 (and_right (leb few c) (leb c 8) (and_right (not b) (leb few c && leb c 8) q)))
      (or-either (b && eqb c 0) (not b && (leb few c && leb c 8)) h)

  pub filled_is : filled node ≡ (leb 32 p && leb p 64 && leb i 64 && leb d 16)
  unfolding filled node_from
  filled_is =
      rw (length-records (spot_at s) 12 p (8 + 28 * c), length-records (spot_at s) 12 i (8 + 28 * c + 12 * p), length-records (key_at s) 8 d (8 + 28 * c + 12 * (p + i)))
      (all4 (leb 32 p) (leb p 64) (leb i 64) (leb d 16))

  pub lowest-is : lowest node ≡ (ltb p 32 && eqb i 0 && eqb d 0) && all (records (λ a. eqb (be 1 s (a + 2)) 0) 28 c 8)
  unfolding lowest node_from entry_at
  lowest-is =
      rw (length-records (spot_at s) 12 p (8 + 28 * c), empty-records (spot_at s) 12 i (8 + 28 * c + 12 * p), empty-records (key_at s) 8 d (8 + 28 * c + 12 * (p + i)), every-entry (λ e. eqb e.size 0) (λ e. refl) s c)
      (all4 (ltb p 32) (eqb i 0) (eqb d 0) (all (records (λ a. eqb (be 1 s (a + 2)) 0) 28 c 8)))

  pub leaf-is : leaf_buffers_empty node ≡ leaf_fine (be 1 s 3) i d
  unfolding leaf_buffers_empty node_from leaf_fine
  leaf-is =
      leaf-or (eqb (be 1 s 3) 0) (all (is_empty (records (spot_at s) 12 i (8 + 28 * c + 12 * p)) ∷ is_empty (records (key_at s) 8 d (8 + 28 * c + 12 * (p + i))) ∷ []))
      ∙ ap₂ (λ (x y : Bool). not (eqb (be 1 s 3) 0) || all (x ∷ y ∷ [])) (empty-records (spot_at s) 12 i (8 + 28 * c + 12 * p)) (empty-records (key_at s) 8 d (8 + 28 * c + 12 * (p + i)))
      ∙ ap (λ (x : Bool). not (eqb (be 1 s 3) 0) || x) (all2 (eqb i 0) (eqb d 0))

  pub lows-is : lows_rise node ≡ rising (keys_from s 28 (c - 1) 40)
  unfolding lows_rise node_from
  lows-is =
      all2 (zero_first (lows es)) (rising (rest (lows es)))
      ∙ ap₂ (λ (x : Bool) (l : List ℕ). x && rising l) (open-zero (records (entry_at s) 28 c 8)) (rest-lows s c)

  pub blocks_is : child_blocks_ok node ≡ all (records (λ a. block_ok blocks (be 2 s a)) 28 c 8)
  unfolding child_blocks_ok node_from entry_at
  blocks_is = every-entry (λ e. block_ok blocks e.block) (λ e. refl) s c

  pub limits-are : inside_limits node
      ≡ (every limited (keys_from s 12 p (8 + 28 * c) ++ (keys_from s 12 i (8 + 28 * c + 12 * p) ++ keys_from s 8 d (8 + 28 * c + 12 * (p + i))))
      && every limited (keys_from s 28 (c - 1) 40))
      && every limited (extremes es)
  unfolding inside_limits node_from
  limits-are =
      every_append limited (names node ++ rest (lows es)) (extremes es)
      ∙ ap (λ (b : Bool). b && every limited (extremes es))
      (every_append limited (names node) (rest (lows es)) ∙ ap₂ (λ (x y : List ℕ). every limited x && every limited y) names-are (rest-lows s c))
