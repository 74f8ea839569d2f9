-- What can be said after so many blocks, on a sound table: the reading never breaks; what is given are the first of Top's spots; no other live spot of the range is
-- above the ceiling; a larger allowance never shortens what is given nor raises the ceiling; and once the allowance reaches what Top reads, Top's spots are given.
-- Assumes nothing.
use mathlib.Core.Path.{◌≡◌, ap, sym, ◌∙◌}
use mathlib.Core.Logic.{⊎_elim}
use mathlib.Core.Bool.{true}
use mathlib.Core.List.{List, Memᴰ}
use Prim.Native.Nat.{ℕ, ◌≤◌, ◌<◌}
use native.Mathlib.Omega.{arith}
use lib.ListN.{length, take}
use lib.IntN.{ℤ}
use borrow.Author.Tests.{leb-true, le-leb}
use Rattle.octets.specs.Lists.{keep}
use Rattle.octets.proofs.Lists.{mem-same}
use Rattle.octets.proofs.Order.{less-or-not}
use Rattle.octets.proofs.Tests.{keep-there, length-keep-imp}
use Rattle.spot.specs.Keys.{rank_of}
use Rattle.spot.specs.Spots.{by_top}
use Rattle.spot.specs.Query.{top_query, wants}
use Rattle.spot.specs.declared.Spot.{Spot}
use Rattle.spot.proofs.Ranks.{of_rank, top-length, by_top-in, high-enough}
use Rattle.tree.specs.Walk.{spots, live_spots, blocks_read}
use Rattle.tree.specs.Top.{top_walk, top_table}
use Rattle.tree.specs.Sound.{sound}
use Rattle.tree.proofs.BestFirstSums.{Same}
use Rattle.tree.proofs.BestFirstParts.{rank-word}
use Rattle.within_theory.specs.Reading.{reading, certain, given_of, ceiling_of, found_once, reads_in_all}
use Rattle.within_theory.proofs.Edges.{edge, certain-split, given-first, given-many, ceiling-held, ceiling-edge}
use Rattle.within_theory.proofs.Soundly.{live_small}
use Rattle.within_theory.proofs.Settled.{ranged, settled}
use Rattle.within_theory.proofs.Ending.{edge-falls, ceiling-falls, given-top, reads-top}

-- what has a rank has a lower one
rank-lower : (z y : ℕ) → z ≤ y → (x : Spot) → of_rank y x ≡ true → of_rank z x ≡ true
rank-lower z y h x e = le-leb z (rank_of x.key) (omega (arith, leb-true y (rank_of x.key) e))

module _ (t : List ℕ) (s : sound t ≡ true) (x1 x2 : ℤ) (k : ℕ) where
  -- as many spots are certain as are live, of the range, and of a rank from the edge on
  many-sure : (a : ℕ) → length (certain (reading t x1 x2 k a)) ≡ length (keep (of_rank (edge (reading t x1 x2 k a).unread)) (ranged t x1 x2))
  many-sure a = ap length (settled t s x1 x2 k a).sure ∙ top-length (keep (of_rank (edge (reading t x1 x2 k a).unread)) (ranged t x1 x2))

  -- "never 3 on a sound table"
  pub within-whole : (a : ℕ) → (reading t x1 x2 k a).whole ≡ true
  within-whole a = (settled t s x1 x2 k a).whole

  -- no identity is found twice
  pub within-once : (a : ℕ) → found_once t x1 x2 k a ≡ true
  unfolding found_once
  within-once a = (settled t s x1 x2 k a).once

  -- what is given are the first of the live spots of the range, in Top's order
  pub within_first : (a : ℕ) → let n = length (given_of k (reading t x1 x2 k a)) in
      given_of k (reading t x1 x2 k a) ≡ take n (by_top (keep (wants (top_query x1 x2 0)) (live_spots t)))
  within_first a =
      let r = reading t x1 x2 k a in
      let live = ranged t x1 x2 in
      given-first r k ∙ ap (take (length (given_of k r))) (settled t s x1 x2 k a).sure ∙
      high-enough (edge r.unread) (length (given_of k r)) live (omega (arith, given-many r k, many-sure a))

  -- "no other live spot of the range is above it"
  pub within-over : (a : ℕ) (x : Spot) → Memᴰ x (keep (wants (top_query x1 x2 0)) (live_spots t)) → (Memᴰ x (given_of k (reading t x1 x2 k a)) → ⊥)
      → rank_of x.key ≤ ceiling_of k (reading t x1 x2 k a)
  within-over a x i out =
      let r = reading t x1 x2 k a in
      let y = edge r.unread in
      let live = ranged t x1 x2 in
      ⊎_elim
      (λ (h : y ≤ rank_of x.key).
      let here = by_top-in (keep (of_rank y) live) (keep-there (of_rank y) live i (le-leb y (rank_of x.key) h)) in
      ⊎_elim (λ j. absurd (out j)) (λ j. ceiling-held r k j) (certain-split r k x (mem-same (sym (settled t s x1 x2 k a).sure) here)))
      (λ (h : rank_of x.key < y). ceiling-edge r k (rank_of x.key) (rank-word x.key (live_small t s (top_query x1 x2 0) x i)) h)
      (less-or-not y (rank_of x.key))

  -- "a larger allowance never shortens what is given or raises the ceiling"
  pub within-longer : (a b : ℕ) → a ≤ b → length (given_of k (reading t x1 x2 k a)) ≤ length (given_of k (reading t x1 x2 k b))
  within-longer a b h =
      let y = edge (reading t x1 x2 k a).unread in
      let z = edge (reading t x1 x2 k b).unread in
      omega (
        arith,
        given-many (reading t x1 x2 k a) k,
        given-many (reading t x1 x2 k b) k,
        many-sure a,
        many-sure b,
        length-keep-imp (of_rank y) (of_rank z) (λ x e. rank-lower z y (edge-falls t s x1 x2 k a b h) x e) (ranged t x1 x2),
      )

  pub within-lower : (a b : ℕ) → a ≤ b → ceiling_of k (reading t x1 x2 k b) ≤ ceiling_of k (reading t x1 x2 k a)
  within-lower a b h = ceiling-falls t s x1 x2 k a b h

  -- "If the allowance reaches what Top reads under this rule, the answer is Top's"
  pub within-top : (a : ℕ) → reads_in_all t x1 x2 k ≤ a → given_of k (reading t x1 x2 k a) ≡ spots (top_table t x1 x2 k)
  within-top a h = given-top t s x1 x2 k a h

  -- .. and it reads just the blocks that Top does
  pub within-reads : (a : ℕ) → reads_in_all t x1 x2 k ≤ a → Same (blocks_read (top_walk t x1 x2 k)) (reading t x1 x2 k a).blocks
  within-reads a h = reads-top t s x1 x2 k a h
