-- The highest and the lowest of some spots in rank order, and entries: what makes one agree with a node, and what one that
-- agrees says of P.
-- Assumes nothing.
use mathlib.Core.Path.{◌≡◌, refl, ◌∙◌}
use mathlib.Core.Logic.{◌⊎◌, inl, inr}
use mathlib.Core.Bool.{true, false, or-true}
use mathlib.Core.List.Memᴰ
use mathlib.Core.List.{List, [], ◌∷◌, map, Memᴰ}
use Prim.Native.Nat.{ℕ, suc, ◌≤◌}
use native.Mathlib.Omega.{arith}
use lib.ListN.{length}
use borrow.Author.Tests.{eq-eqb, eqb-true, le-leb, leb-true}
use Rattle.octets.specs.Lists.{is_empty, maximum}
use Rattle.octets.proofs.Tests.{all-at, all_cons, all_nil, every-mem, every-make, or_left}
use Rattle.octets.proofs.Sets.{has-mem, mem-has}
use Rattle.octets.proofs.Extremes.{maximum-ge, minimum-le, minimum-mem}
use Rattle.spot.specs.declared.Spot.{Spot}
use Rattle.spot.specs.Keys.{rank_key, within}
use Rattle.spot.specs.Spots.{keys}
use Rattle.spot.proofs.Places.{within-from}
use Rattle.block.specs.declared.Entry.{Entry}
use Rattle.block.specs.declared.Asked.{Asked}
use Rattle.block.specs.declared.Asked.TheVariants.{Root, Child}
use Rattle.block.specs.Node.{Node}
use Rattle.block.specs.NodeRules.{names, agrees, is_highest, is_lowest, not_below}
use Rattle.tree.specs.Part.{low_of}
use Rattle.tree.proofs.Empty.{some-length}

-- the highest key of some spots in rank order
abbrev pub Highest : List Spot → ℕ → Type 0
Highest ss t = Memᴰ t (keys ss) × ((k : ℕ) → Memᴰ k (keys ss) → rank_key k ≤ rank_key t)

-- and the lowest
abbrev pub Lowest : List Spot → ℕ → Type 0
Lowest ss t = Memᴰ t (keys ss) × ((k : ℕ) → Memᴰ k (keys ss) → rank_key t ≤ rank_key k)

-- and a lowest
pub deepest : (ss : List Spot) → (ss ≡ []) ⊎ ((t : ℕ) × Lowest ss t)
deepest [] = inl refl
deepest (s ∷ ss) =
    let ranks = map rank_key (keys (s ∷ ss)) in
    let past = suc (maximum ranks) in
    let r = Memᴰ.of_map rank_key (keys (s ∷ ss)) (minimum-mem past (rank_key s.key) (map rank_key (keys ss)) (λ y i. let z = maximum-ge ranks i in omega arith)) in
    inr (r.0, (r.1, λ k i. let z = minimum-le past ranks (Memᴰ.map rank_key i) in omega (arith, z, r.2)))

-- an entry made of a node: its size, and the highest and the lowest of P
pub agree-make : (e : Entry) (n : Node) → e.size ≡ length n.points → Highest n.points e.top → Lowest n.points e.bottom → agrees (Child e) n ≡ true
unfolding agrees
agree-make e n size t b =
    let ks = keys n.points in
    let hi : is_highest e.top ks ≡ true = all_cons _ _ (mem-has e.top ks t.0) (all_cons _ _ (every-make _ ks (λ k i. le-leb (rank_key k) (rank_key e.top) (t.1 k i))) all_nil) in
    let lo : is_lowest e.bottom ks ≡ true = all_cons _ _ (mem-has e.bottom ks b.0) (all_cons _ _ (every-make _ ks (λ k i. le-leb (rank_key e.bottom) (rank_key k) (b.1 k i))) all_nil) in
    all_cons _ _ (eq-eqb e.size (length n.points) size) (all_cons _ _ (rw hi (or-true (is_empty n.points))) (all_cons _ _ (rw lo (or-true (is_empty n.points))) all_nil))

-- and one of a node with no points
pub agree-empty : (e : Entry) (n : Node) → e.size ≡ 0 → n.points ≡ [] → agrees (Child e) n ≡ true
unfolding agrees
agree-empty e n size bare = rw bare (all_cons _ _ (eq-eqb e.size 0 size) (all_cons _ _ refl (all_cons _ _ refl all_nil)))

-- ---- what an entry that agrees says of the node's P

module _ (e : Entry) (n : Node) (h : agrees (Child e) n ≡ true) where
  -- its size
  pub agree-size : e.size ≡ length n.points
  unfolding agrees
  agree-size = eqb-true e.size (length n.points) (all-at _ h 0)

  -- some points, where the size is not 0
  pub agree-held : (e.size ≡ 0 → ⊥) → is_empty n.points ≡ false
  agree-held z = some-length n.points (λ g. z (agree-size ∙ g))

  -- its top
  pub agree-top : is_empty n.points ≡ false → Highest n.points e.top
  unfolding agrees
  agree-top i =
      let t = or_left _ _ (all-at _ h 1) i in
      (has-mem e.top (keys n.points) (all-at _ t 0), λ k j. leb-true (rank_key k) (rank_key e.top) (every-mem _ _ (all-at _ t 1) j))

  -- its bottom
  pub agree-bottom : is_empty n.points ≡ false → Lowest n.points e.bottom
  unfolding agrees
  agree-bottom i =
      let t = or_left _ _ (all-at _ h 2) i in
      (has-mem e.bottom (keys n.points) (all-at _ t 0), λ k j. leb-true (rank_key e.bottom) (rank_key k) (every-mem _ _ (all-at _ t 1) j))

-- ---- what leads to a node

-- names of the node's range are not below it
pub not-below : (a : Asked) (lo hi : ℕ) (n : Node) → low_of a ≤ lo → ((k : ℕ) → Memᴰ k (names n) → within lo hi k ≡ true) → not_below a n ≡ true
unfolding not_below
not-below (Root b) lo hi n h w = refl
not-below (Child e) lo hi n h w = every-make _ (names n) (λ k i. le-leb e.low k (let z = within-from lo hi k (w k i) in omega arith))
