-- The walk at the lowest rank counts for Top: where it is whole, so is the walk of Top for every k, and Top gives k of the spots found, or all.
-- Assumes nothing.
use mathlib.Core.Path.{◌≡◌, refl, ap, sym, ◌∙◌}
use mathlib.Core.Logic.{◌⊎◌, ⊎_elim}
use mathlib.Core.Bool.{Bool, true, false, cond, true≢false}
use mathlib.Core.List.{List, [], ◌++◌}
use Prim.Native.Nat.{ℕ, zero, suc, ◌≤◌, ◌<◌, min}
use native.Mathlib.Omega.{arith}
use lib.IntN.{ℤ}
use lib.ListN.{length, length-take}
use borrow.Author.Tests.{leb-true}
use Rattle.octets.proofs.Order.{less-or-not}
use Rattle.octets.proofs.UpTo.{largest-hit}
use Rattle.spot.specs.declared.Spot.{Spot}
use Rattle.spot.specs.declared.Query.{Query}
use Rattle.spot.specs.Keys.{word}
use Rattle.spot.specs.Query.{top_query}
use Rattle.spot.proofs.Ranks.{of_rank, top-length}
use Rattle.block.specs.Header.{head_of}
use Rattle.block.specs.HeaderRules.{header_ok}
use Rattle.block.specs.Node.{store_of}
use Rattle.block.specs.NodeRules.{names}
use Rattle.tree.specs.Part.{Part}
use Rattle.tree.specs.Walk.{Walk, broken, walked, is_broken, spots, finds, walk_from, walk_table}
use Rattle.tree.specs.Top.{enough, threshold, top_walk, best, top_table}
use Rattle.tree.specs.Trace.{admitted}
use Rattle.tree.specs.BestFirst.{Pending}
use Rattle.tree.proofs.BestFirstSums.{sum, counted, one, counted-le, sum-le, sum-length, mark}
use Rattle.tree.proofs.BestFirstTree.{pending, weigh, weighs, sum-known, at_node, on_block, on_spots, fault, root_of, Whole, walk-whole, walk-faulty, walk-twice}
use Rattle.tree.proofs.BestFirstParts.{due, admitted-rank, finds-rank}
use Rattle.tree.proofs.BestFirstEnd.{threshold-le, top-walk}

-- ---- a walk that is whole, by its sums

module _ (t : List ℕ) (q : Query) (whole : is_broken (walk_table t q) ≡ false) where
  unbroken : walk_table t q ≡ broken → ⊥
  unbroken e = true≢false (sym (ap is_broken e) ∙ whole)

  head-right : header_ok (length t) (head_of t) ≡ true
  unfolding walk_table
  head-right = go (header_ok (length t) (head_of t)) whole
    where
      go : (b : Bool) → is_broken (cond b (walk_from (head_of t) (store_of t) q) broken) ≡ false → b ≡ true
      go true e = refl
      go false e = absurd (true≢false e)

  faultless : weighs (fault (store_of t)) (store_of t) q (root_of t) ≡ 0
  faultless =
      let n = weighs (fault (store_of t)) (store_of t) q (root_of t) in
      ⊎_elim (λ (l : n ≤ 0). omega arith) (λ (l : 0 < n). absurd (unbroken (walk-faulty t q l))) (less-or-not n 0)

  at_once : (b : ℕ) → weighs (on_block (mark b)) (store_of t) q (root_of t) ≤ 1
  at_once b =
      let n = weighs (on_block (mark b)) (store_of t) q (root_of t) in
      ⊎_elim (λ (l : n ≤ 1). l) (λ (l : 1 < n). absurd (unbroken (walk-twice t q b l))) (less-or-not n 1)

  sums-of : Whole t q
  sums-of = walk-whole t q head-right faultless at_once

  many-of : length (spots (walk_table t q)) ≡ weighs (on_spots one (store_of t) q) (store_of t) q (root_of t)
  many-of = ap (λ (w : Walk). length (spots w)) sums-of.is ∙ sym (sum-length sums-of.found) ∙ sums-of.finds one

-- ---- a least rank leaves parts and spots out, and brings in none

module _ (t : List ℕ) (x1 x2 : ℤ) (y : ℕ) (inside : y ≤ word) where
  weigh-less : (w v : Pending → ℕ) → ((u : Pending) → w u ≤ v u) → (l : ℕ) (named : List ℕ) (p : Part)
      → weigh l w (store_of t) (top_query x1 x2 y) named p ≤ weigh l v (store_of t) (top_query x1 x2 0) named p
  unfolding weigh
  weigh-less w v h zero named p = h (pending zero named p)
  weigh-less w v h (suc l) named p =
      let m = store_of t in
      let deeper = names (m p.block) ++ named in
      let at = weighs w m (top_query x1 x2 y) in
      let cs = admitted (top_query x1 x2 0) m p in
      omega (
        arith,
        h (pending (suc l) named p),
        sum-known at deeper l (admitted (top_query x1 x2 y) m p),
        admitted-rank x1 x2 y inside at m deeper l p,
        sum-known (counted (due y) at) deeper l cs,
        sum-le (λ c. counted (due y) at (pending l deeper c)) (weigh l v m (top_query x1 x2 0) deeper) cs
            (λ c i. omega (arith, counted-le (due y) at (pending l deeper c), weigh-less w v h l deeper c)),
      )

  spots-less : (u : Pending) → on_spots one (store_of t) (top_query x1 x2 y) u ≤ on_spots one (store_of t) (top_query x1 x2 0) u
  spots-less u = go u.levels
    where
      found : ℕ → List Spot
      found z = finds (top_query x1 x2 z) u.named (store_of t u.part.block)

      go : (n : ℕ) → at_node n (sum one (found y)) ≤ at_node n (sum one (found 0))
      go zero = omega arith
      go (suc n) =
          omega (
            arith,
            finds-rank x1 x2 y one u.named (store_of t u.part.block),
            sum-le (counted (of_rank y) one) one (found 0) (λ s i. counted-le (of_rank y) one s),
          )

  -- from the root: with a higher least rank a walk sums up no more
  root-less : (w v : Pending → ℕ) → ((u : Pending) → w u ≤ v u) → weighs w (store_of t) (top_query x1 x2 y) (root_of t) ≤ weighs v (store_of t) (top_query x1 x2 0) (root_of t)
  root-less w v h = weigh-less w v h (head_of t).levels [] (root_of t).part

  module _ (whole : is_broken (walk_table t (top_query x1 x2 0)) ≡ false) where
    -- the walk is whole with a higher least rank too
    whole_above : Whole t (top_query x1 x2 y)
    whole_above =
        let q = top_query x1 x2 0 in
        walk-whole t (top_query x1 x2 y) (head-right t q whole)
        (let w = fault (store_of t) in omega (arith, root-less w w (λ u. omega arith), faultless t q whole))
        (λ b. let w = on_block (mark b) in omega (arith, root-less w w (λ u. omega arith), at_once t q whole b))

    still-whole : is_broken (walk_table t (top_query x1 x2 y)) ≡ false
    still-whole = ap is_broken whole_above.is

    -- .. and finds no more
    no_more : length (spots (walk_table t (top_query x1 x2 y))) ≤ length (spots (walk_table t (top_query x1 x2 0)))
    no_more =
        omega (
          arith,
          root-less (on_spots one (store_of t) (top_query x1 x2 y)) (on_spots one (store_of t) (top_query x1 x2 0)) spots-less,
          many-of t (top_query x1 x2 y) still-whole,
          many-of t (top_query x1 x2 0) whole,
        )

-- ---- Top

-- the number of spots that Top gives of a walk that is whole
best-many : (k : ℕ) (w : Walk) → is_broken w ≡ false → length (spots (best k w)) ≡ min k (length (spots w))
best-many k broken e = absurd (true≢false e)
best-many k (walked found blocks) e = length-take k _ ∙ ap (min k) (top-length found)

enough-many : (k : ℕ) (w : Walk) → is_broken w ≡ false → enough k w ≡ true → k ≤ length (spots w)
enough-many k broken e h = absurd (true≢false e)
enough-many k (walked found blocks) e h = leb-true k (length found) h

-- Top of a table whose walk at the lowest rank is whole: its own walk is whole, and it gives k of the spots found there, or all
pub record TopCount (t : List ℕ) (x1 x2 : ℤ) (k : ℕ) : Type 0 where
  pub intact : is_broken (top_walk t x1 x2 k) ≡ false
  pub many : length (spots (top_table t x1 x2 k)) ≡ min k (length (spots (walk_table t (top_query x1 x2 0))))

module _ (t : List ℕ) (x1 x2 : ℤ) (whole : is_broken (walk_table t (top_query x1 x2 0)) ≡ false) where
  -- for k = 0 by block 0 alone
  walk_none : top_walk t x1 x2 0 ≡ walked [] []
  unfolding top_walk
  walk_none = rw (head-right t (top_query x1 x2 0) whole)

  -- the walk of Top is one at some rank, and at a rank above the lowest it finds k
  count_by : (k y : ℕ) → top_walk t x1 x2 k ≡ walk_table t (top_query x1 x2 y) → y ≤ word → (y ≡ 0) ⊎ (enough k (walk_table t (top_query x1 x2 y)) ≡ true) → TopCount t x1 x2 k
  unfolding top_table
  count_by k y e l h =
      let w = walk_table t (top_query x1 x2 y) in
      let rest = still-whole t x1 x2 y l whole in
      let kept = ap is_broken e ∙ rest in
      let own = best-many k (top_walk t x1 x2 k) kept ∙ ap (λ (v : Walk). min k (length (spots v))) e in
      record {
        intact = kept;
        many =
            own ∙
            ⊎_elim (λ (z : y ≡ 0). ap (λ (i : ℕ). min k (length (spots (walk_table t (top_query x1 x2 i))))) z)
            (λ (z : enough k w ≡ true). let a = enough-many k w rest z in omega (arith, no_more t x1 x2 y l whole))
            h;
      }

  -- it is whole for every k, and gives k of those found at the lowest rank, or all
  pub top-counts : (k : ℕ) → TopCount t x1 x2 k
  unfolding top_table threshold
  top-counts zero = record { intact = ap is_broken walk_none; many = ap (λ (w : Walk). length (spots (best 0 w))) walk_none ∙ omega arith }
  top-counts (suc k) =
      count_by (suc k) (threshold t x1 x2 (suc k)) (top-walk t x1 x2 (suc k) (omega arith)) (threshold-le t x1 x2 (suc k))
      (largest-hit (λ y. enough (suc k) (walk_table t (top_query x1 x2 y))) word)
