-- What is certain on a sound table: after any number of reads, of the live spots of the range those of a rank from the edge on, in Top's order. No identity is found
-- twice.
-- Assumes nothing.
use mathlib.Core.Path.{◌≡◌, refl, ap, sym, subst, ◌∙◌}
use mathlib.Core.Logic.{inl, inr, ⊎_elim}
use mathlib.Core.Bool.{true}
use mathlib.Core.List.Memᴰ
use mathlib.Core.List.{List, [], ◌∷◌, Memᴰ}
use Prim.Native.Nat.{ℕ, zero, suc, ◌≤◌, ◌<◌}
use native.Mathlib.Omega.{arith}
use lib.IntN.{ℤ}
use borrow.Author.Tests.{le-leb, leb-true}
use Rattle.octets.specs.Lists.{keep, distinct}
use Rattle.octets.proofs.Lists.{no_member}
use Rattle.octets.proofs.Order.{less-or-not}
use Rattle.octets.proofs.Tests.{keep-mem, keep-in, keep-keep}
use Rattle.spot.specs.Keys.{word, rank_of}
use Rattle.spot.specs.Spots.{keys, by_top}
use Rattle.spot.specs.Query.{top_query, wants}
use Rattle.spot.specs.declared.Spot.{Spot}
use Rattle.spot.proofs.Ranks.{of_rank, by_top-from, wants-high}
use Rattle.block.specs.Node.{Store, store_of}
use Rattle.tree.specs.Walk.{live_spots}
use Rattle.tree.specs.Sound.{sound}
use Rattle.tree.specs.BestFirst.{Pending, promised, shown}
use Rattle.tree.proofs.Sources.{InTable}
use Rattle.tree.proofs.Tables.{sound-header}
use Rattle.tree.proofs.BestFirstSums.{sum, Same, counted, counted-yes, sum-le, sum-keep, mark, distinct-marks, marks-distinct}
use Rattle.tree.proofs.BestFirstSpots.{sum-by_top, top-descends, descends-same}
use Rattle.tree.proofs.BestFirstTree.{on_spots, fault_at, fault}
use Rattle.tree.proofs.BestFirstParts.{due, rank-word}
use Rattle.tree.proofs.BestFirstEnd.{at_some, small, whole-at, spots-at}
use Rattle.tree.proofs.BestFirst.{Progress}
use Rattle.within_theory.specs.Reading.{Reading, certain, given_of, held_back, begun, reading}
use Rattle.within_theory.proofs.Edges.{edge, edge-over, certain-edge, certain-high, certain-descends, certain-split}
use Rattle.within_theory.proofs.Soundly.{sound-whole, whole-live, live-once, live_small, live-sharp}
use Rattle.within_theory.proofs.Readings.{held-sums, reading-none}
use Rattle.within_theory.proofs.Standing.{Stands, stands_at}

-- the live spots of the range
abbrev pub ranged : List ℕ → ℤ → ℤ → List Spot
ranged t x1 x2 = keep (wants (top_query x1 x2 0)) (live_spots t)

pub record Settled (t : List ℕ) (x1 x2 : ℤ) (r : Reading) : Type 0 where
  pub whole : r.whole ≡ true
  pub once : distinct (keys r.found) ≡ true
  pub places : (b : ℕ) → Memᴰ b r.blocks → InTable t b
  pub sure : certain r ≡ by_top (keep (of_rank (edge r.unread)) (ranged t x1 x2))

sum-keys : (f : ℕ → ℕ) (ss : List Spot) → sum f (keys ss) ≡ sum (λ x. f x.key) ss
sum-keys f [] = refl
sum-keys f (x ∷ xs) = omega (arith, sum-keys f xs)

-- a part that was read has a level
some_level : (m : Store) (r : Pending) → fault m r ≡ 0 → 1 ≤ r.levels
some_level m r h = go r.levels h
  where
    go : (n : ℕ) → fault_at n m r.part ≡ 0 → 1 ≤ n
    go zero e = let z : ⊥ = omega arith in absurd z
    go (suc n) e = omega arith

module _ (t : List ℕ) (s : sound t ≡ true) (x1 x2 : ℤ) where
  -- past every rank there is no live spot
  none-past : (y : ℕ) → word ≤ y → by_top (keep (of_rank y) (ranged t x1 x2)) ≡ []
  none-past y h =
      no_member (by_top (keep (of_rank y) (ranged t x1 x2)))
      (λ x i.
      let r = keep-mem (of_rank y) (ranged t x1 x2) (by_top-from (keep (of_rank y) (ranged t x1 x2)) i) in
      let a = leb-true y (rank_of x.key) r.1 in
      let b = rank-word x.key (live_small t s (top_query x1 x2 0) x r.0) in
      omega arith)

  settled-begun : Settled t x1 x2 (begun t)
  unfolding begun certain
  settled-begun =
      record { whole = sound-header t s; once = refl; places = λ b i. absurd (Memᴰ.not-nil i); sure = sym (none-past _ (omega arith)) }

  module _ (k : ℕ) (r : Reading) (st : Stands t x1 x2 k r) where
    abbrev g : Progress t x1 x2 k r.unread (held_back k r) (given_of k r) r.blocks
    g = st.progress

    -- how often an identity is found: no more often than in the walk at the lowest rank
    no-twice : (b : ℕ) → sum (mark b) (keys r.found) ≤ 1
    no-twice b =
        let q = top_query x1 x2 0 in
        let f : Spot → ℕ = λ x. mark b x.key in
        let w = on_spots f (store_of t) q in
        omega (
          arith,
          sum-keys (mark b) r.found,
          held-sums k r f,
          g.spots f,
          g.tree 0 (omega arith) w,
          sum-le (λ p. sum f (shown (store_of t) q p)) (counted (due 0) w) g.read
              (λ p i.
              omega (
                arith,
                counted-yes (due 0) w p (le-leb 0 (promised p) (omega arith)),
                at_some p.levels (sum f (shown (store_of t) q p)) (some_level (store_of t) p (g.fine p i)),
              )),
          (sound-whole t s q).finds f,
          ap (sum f) (whole-live t s q (sound-whole t s q)),
          sum-keys (mark b) (ranged t x1 x2),
          distinct-marks (keys (ranged t x1 x2)) (live-once t s q) b,
        )

    -- the edge is a rank: the walk from there on finds just what is certain
    sure-inside : edge r.unread ≤ word → certain r ≡ by_top (keep (of_rank (edge r.unread)) (ranged t x1 x2))
    sure-inside h =
        descends-same (certain r) (by_top live) (certain-descends r) (top-descends live) same
        (λ a b i j. live-sharp t s (top_query x1 x2 0) a b (keep-in (of_rank y) (ranged t x1 x2) (by_top-from live i)) (keep-in (of_rank y) (ranged t x1 x2) (by_top-from live j)))
      where
        y : ℕ
        y = edge r.unread

        live : List Spot
        live = keep (of_rank y) (ranged t x1 x2)

        same : Same (certain r) (by_top live)
        same f =
            let w = whole-at t x1 x2 k r.unread (held_back k r) (given_of k r) r.blocks g y h (λ u i. edge-over r.unread i) in
            omega (
              arith,
              ap (sum f) (certain-edge r),
              sum-by_top f (keep (of_rank y) r.found),
              sum-keep (of_rank y) f r.found,
              held-sums k r (counted (of_rank y) f),
              spots-at t x1 x2 k r.unread (held_back k r) (given_of k r) r.blocks g y h (λ u i. edge-over r.unread i) f,
              ap (sum f) (whole-live t s (top_query x1 x2 y) w ∙ keep-keep (wants (top_query x1 x2 0)) (of_rank y) (wants (top_query x1 x2 y)) (wants-high x1 x2 y) (live_spots t)),
              sum-by_top f live,
            )

    sure-here : certain r ≡ by_top (keep (of_rank (edge r.unread)) (ranged t x1 x2))
    sure-here =
        ⊎_elim (λ (h : edge r.unread ≤ word). sure-inside h)
        (λ (h : word < edge r.unread).
        no_member (certain r)
        (λ x i.
        let a = certain-high r x i in
        let b = rank-word x.key
        (small t x1 x2 k r.unread (held_back k r) (given_of k r) r.blocks g x (⊎_elim (λ j. inr j) (λ j. inl j) (certain-split r k x i))) in
        omega arith) ∙
        sym (none-past (edge r.unread) (omega arith)))
        (less-or-not (edge r.unread) word)

    settled_here : Settled t x1 x2 r
    settled_here = record { whole = st.whole; once = marks-distinct (keys r.found) no-twice; places = g.places; sure = sure-here }

  pub settled : (k a : ℕ) → Settled t x1 x2 (reading t x1 x2 k a)
  settled zero a = subst (λ (r : Reading). Settled t x1 x2 r) (sym (reading-none t x1 x2 a)) settled-begun
  settled (suc j) a = settled_here (suc j) (reading t x1 x2 (suc j) a) (stands_at t s x1 x2 j a)
