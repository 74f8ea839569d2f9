-- Block 0: its numbers in the table, its map as a part of the table, and its tests as the rules.
-- Assumes nothing.
use mathlib.Core.Path.{◌≡◌, refl, sym, ap, ap₂, ◌∙◌}
use mathlib.Core.Bool.{Bool, true, false, not, ◌&&◌}
use mathlib.Core.List.{List, [], ◌∷◌}
use Prim.Native.Nat.{ℕ, zero, suc, ◌+◌, ◌/◌, ◌≤◌, ◌<◌}
use native.Mathlib.Nat.{zero-add}
use native.Mathlib.Omega.{arith}
use lib.ListN.{take, drop}
use lib.Seq.{take-take}
use borrow.Author.Tests.{leb-true, ltb-true}
use Rattle.octets.specs.Lists.{every}
use Rattle.octets.specs.Bytes.{be}
use Rattle.octets.proofs.Tests.{and_left, and_right, and_both, all-at, all_cons, all_nil, bool-ext}
use Rattle.octets.proofs.Bytes.{be-part}
use Rattle.block.specs.Table.{block, blocks_of, block_ok, sized_for}
use Rattle.block.specs.Header.{header_of, head_of}
use Rattle.block.specs.HeaderRules.{header_ok, map_shows}
use Rattle.block.specs.Checks.{◌and◌, is_zero, map_fine, numbers_fine}
use Rattle.block.proofs.Shut.{all3, fst, snd, pair, and-go, and-stop}

-- ---- in the table

-- a number of block 0 stands at the same place of the table
pub head-number : (n : ℕ) (t : List ℕ) (i : ℕ) → i + n ≤ 2048 → be n (block t 0) i ≡ be n t i
head-number n t i h = be-part n 0 2048 t i h ∙ ap (be n t) (zero-add i)

-- a part of the first n elements is a part of the whole
pub part-part : {A : Type 0} (a k n : ℕ) (l : List A) → a + k ≤ n → take k (drop a (take n l)) ≡ take k (drop a l)
part-part zero k n l h = take-take k n l (omega arith)
part-part (suc a) k zero l h = let z : ⊥ = omega arith in absurd z
part-part (suc a) k (suc n) [] h = refl
part-part (suc a) k (suc n) (x ∷ l) h = part-part a k n l (omega arith)

-- the map of blocks in use is a part of the table
pub map-part : (t : List ℕ) → (head_of t).in_use ≡ take 512 (drop 12 t)
unfolding head_of header_of
map-part t = part-part 12 512 2048 t (omega arith)

-- ---- the rules

module _ (bytes : ℕ) (s : List ℕ) where
  abbrev more : Bool
  more = map_fine (blocks_of bytes) (be 2 s 6) (take 512 (drop 12 s)) && every is_zero (drop 524 s)

  -- what the test of the numbers says of the map's size and the root
  pub numbers-blocks : numbers_fine bytes s ≡ true → bytes / 2048 ≤ 4096
  unfolding numbers_fine sized_for
  numbers-blocks h = leb-true _ _ (all-at _ (snd _ _ h) 2)

  pub numbers-root : numbers_fine bytes s ≡ true → be 2 s 6 < bytes / 2048
  unfolding numbers_fine
  numbers-root h = ltb-true _ _ (snd _ _ (fst _ _ (fst _ _ h)))

  map_is : map_shows (blocks_of bytes) (header_of s) ≡ map_fine (blocks_of bytes) (be 2 s 6) (take 512 (drop 12 s))
  unfolding map_shows map_fine header_of
  map_is = all3 _ _ _

  head-back : numbers_fine bytes s ≡ true → more ≡ true → header_ok bytes (header_of s) ≡ true
  unfolding numbers_fine header_ok header_of block_ok
  head-back h m =
      all_cons _ _ (fst _ _ (fst _ _ (fst _ _ (fst _ _ (fst _ _ (fst _ _ (fst _ _ h)))))))
      (all_cons _ _ (snd _ _ (fst _ _ (fst _ _ (fst _ _ (fst _ _ (fst _ _ (fst _ _ h)))))))
      (all_cons _ _ (snd _ _ (fst _ _ (fst _ _ (fst _ _ (fst _ _ (fst _ _ h))))))
      (all_cons _ _ (snd _ _ (fst _ _ (fst _ _ (fst _ _ (fst _ _ h)))))
      (all_cons _ _ (all_cons _ _ (snd _ _ (fst _ _ (fst _ _ (fst _ _ h)))) (all_cons _ _ (snd _ _ (fst _ _ (fst _ _ h))) all_nil))
      (all_cons _ _ (snd _ _ (fst _ _ h))
      (all_cons _ _ (map_is ∙ and_left (map_fine (blocks_of bytes) (be 2 s 6) (take 512 (drop 12 s))) (every is_zero (drop 524 s)) m)
      (all_cons _ _ (and_right (map_fine (blocks_of bytes) (be 2 s 6) (take 512 (drop 12 s))) (every is_zero (drop 524 s)) m) (all_cons _ _ (snd _ _ h) all_nil))))))))

  module _ (ok : header_ok bytes (header_of s) ≡ true) where
    root_ok : block_ok (blocks_of bytes) (be 2 s 6) ≡ true
    unfolding header_ok header_of
    root_ok = all-at _ ok 4

    head-numbers : numbers_fine bytes s ≡ true
    unfolding numbers_fine header_ok header_of block_ok
    head-numbers =
        pair
        (pair (pair (pair (pair (pair (pair (all-at _ ok 0) (all-at _ ok 1)) (all-at _ ok 2)) (all-at _ ok 3)) (all-at _ root_ok 0)) (all-at _ root_ok 1)) (all-at _ ok 5))
        (all-at _ ok 8)

    head_more : more ≡ true
    unfolding header_ok header_of
    head_more = and_both _ _ (sym map_is ∙ all-at _ ok 6) (all-at _ ok 7)

  -- the tests of the numbers and of the rest are the rules
  head-is : (numbers_fine bytes s and more) ≡ header_ok bytes (header_of s)
  head-is =
      bool-ext (numbers_fine bytes s and more) (header_ok bytes (header_of s)) (λ q. head-back (fst _ _ q) (snd _ _ q)) (λ q. pair (head-numbers q) (head_more q))

  pub head-stop : {r : Bool} → r ≡ numbers_fine bytes s → not r ≡ true → false ≡ header_ok bytes (header_of s)
  head-stop e t = and-stop more e t ∙ head-is

  pub head-go : {r p q : Bool} {root : ℕ} → r ≡ numbers_fine bytes s → not r ≡ false → root ≡ be 2 s 6
      → p ≡ map_fine (blocks_of bytes) root (take 512 (drop 12 s)) → q ≡ every is_zero (drop 524 s) → p && q ≡ header_ok bytes (header_of s)
  head-go e t f g h =
      and-go (numbers_fine bytes s) e t (ap₂ (λ (x y : Bool). x && y) (g ∙ ap (λ (k : ℕ). map_fine (blocks_of bytes) k (take 512 (drop 12 s))) f) h) ∙ head-is
