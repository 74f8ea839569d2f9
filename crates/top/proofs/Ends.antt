-- The end of a search: why it stops, and the highest rank that is left.
-- Assumes nothing.
use mathlib.Core.Path.{◌≡◌, ap, ◌∙◌}
use mathlib.Core.Logic.{◌⊎◌, inl, inr, ⊎_elim}
use mathlib.Core.Bool.{true}
use mathlib.Core.List.{List, Memᴰ}
use Prim.Native.Nat.{ℕ, ◌+◌, ◌-◌, ◌*◌, ◌/◌, ◌%◌, ◌≤◌, ◌<◌, max}
use native.Mathlib.Omega.{arith}
use lib.ListN.{length}
use lib.IntN.{ℤ}
use Rattle.octets.proofs.Order.{same_or_not, less-or-not}
use Rattle.spot.specs.Keys.{word, rank_of}
use Rattle.spot.specs.Query.{top_query}
use Rattle.spot.specs.declared.Spot.{Spot}
use Rattle.spot.specs.declared.Query.{Query}
use Rattle.spot.proofs.TopKeys.{top-rank}
use Rattle.tree.specs.BestFirst.{Pending, promised}
use Rattle.tree.proofs.BestFirstParts.{rank-word}
use Rattle.within_theory.specs.Reading.{greatest}
use Rattle.within_theory.proofs.Greatest.{greatest-ge, greatest-le}
use Rattle.within_theory.proofs.Following.{Halts, Sure, sure-at-end}
use Rattle.frontier.specs.Frontier.{Slot, kid_entry}
use Rattle.frontier.specs.Picks.{Next}
use Rattle.top.specs.Reading.{child_of, unread_of, found_of, Underway}
use Rattle.top.proofs.Ups.{shown-small}
use Rattle.top.proofs.Steps.{cell-promise, unread-cell, unread-in, unread-none, found-head, head-found}
use Rattle.top.proofs.Takes.{top_small}

-- a bound that is 0 or met is the greatest
greatest-is : {A : Type 0} (f : A → ℕ) (xs : List A) (n : ℕ) → ((x : A) → Memᴰ x xs → f x ≤ n) → (n ≡ 0) ⊎ ((x : A) × Memᴰ x xs × (f x ≡ n)) → greatest f xs ≡ n
greatest-is f xs n over met =
    let h = greatest-le f n xs over in
    ⊎_elim (λ (e : n ≡ 0). omega arith) (λ r. omega (arith, greatest-ge f xs r.1, r.2)) met

-- floor: one more than the highest promise, 0 where nothing is unread; rank: the highest of the next spots, 0 where there is none
module _ (t : List ℕ) (x1 x2 : ℤ) (k : ℕ) (slot : ℕ → Slot) (head : ℕ → Next) (cell : ℕ → ℕ) (n : ℕ) (given : List Spot) (blocks : List ℕ) (g : Underway t x1 x2 k slot head cell n given blocks)
    (floor : ℕ) (low : (c : ℕ) → c < 8 * n → cell c ≤ floor) (hit : 0 < floor → (c : ℕ) × (c < 8 * n) × (cell c ≡ floor))
    (rank : ℕ) (under : (s : ℕ) → s < n → (head s).there ≡ true → rank_of (head s).spot.key ≤ rank)
    (met : (rank ≡ 0) ⊎ ((s : ℕ) × (s < n) × ((head s).there ≡ true) × (rank_of (head s).spot.key ≡ rank))) where
  abbrev q : Query
  q = top_query x1 x2 0

  abbrev unread : List Pending
  unread = unread_of t slot cell n

  abbrev found : List Spot
  found = found_of t q slot head n

  -- what is unread may hold the rank below the floor
  top-child : 0 < floor → (u : Pending) × Memᴰ u unread × (promised u + 1 ≡ floor)
  top-child l =
      let r = hit l in
      let c = r.0 in
      let some : 0 < cell c = omega (arith, r.2) in
      (child_of t (slot (c / 8)) (c % 8), unread-in t slot cell n c r.1 some, cell-promise t q slot head cell n g.known c r.1 some ∙ r.2)

  promises-small : (u : Pending) → Memᴰ u unread → promised u < word
  promises-small u i =
      let r = unread-cell t q slot head cell n g.known i in
      let b = (slot (r.0 / 8)).block in
      omega (arith, ap promised r.4, rank-word (kid_entry t b (r.0 % 8)).top (top_small t b (r.0 % 8)))

  promises : greatest promised unread ≡ floor - 1
  promises =
      greatest-is promised unread (floor - 1)
      (λ u i. let r = unread-cell t q slot head cell n g.known i in omega (arith, r.2, low r.0 r.1))
      (⊎_elim (λ (e : floor ≡ 0). inl (omega arith)) (λ (d : floor ≡ 0 → ⊥). let r = top-child (omega (arith, d)) in inr (r.0, r.1, omega (arith, r.2))) (same_or_not floor 0))

  -- a spot found has no higher rank than its slot's next
  under_next : {x : Spot} → Memᴰ x found → (s : ℕ) × (s < n) × ((head s).there ≡ true) × (rank_of x.key ≤ rank_of (head s).spot.key)
  under_next {x} i =
      let r = found-head t q slot head cell n g.known i in
      (r.0, r.1, r.2, omega (arith, r.3, top-rank x.key, top-rank (head r.0).spot.key))

  ranks : greatest (λ (s : Spot). rank_of s.key) found ≡ rank
  ranks =
      greatest-is (λ (s : Spot). rank_of s.key) found rank
      (λ x i. let r = under_next i in omega (arith, r.3, under r.0 r.1 r.2))
      (⊎_elim (λ e. inl e) (λ r. inr ((head r.0).spot, head-found t q slot head cell n g.known r.0 r.1 r.2, r.3)) met)

  -- k spots are given; or nothing is unread or the allowance is used, and no spot that is left reaches the floor
  halts : (most : ℕ) → (length given < k → (s : ℕ) → s < n → (head s).there ≡ true → rank_of (head s).spot.key < floor) → (k ≤ length given) ⊎ ((floor ≡ 0) ⊎ (n ≡ most))
      → Halts k most unread found given blocks
  halts most quiet why =
      ⊎_elim (λ (h : k ≤ length given). inl h)
      (λ (h : length given < k).
      inr (
        ⊎_elim (λ (f : k ≤ length given). let y : ⊥ = omega arith in absurd y)
            (λ w. ⊎_elim (λ (e : floor ≡ 0). inl (unread-none t slot cell n (λ c l. let y = low c l in omega arith))) (λ (e : n ≡ most). inr (g.count ∙ e)) w)
            why,
        λ x i.
            let r = under_next i in
            let below = quiet h r.0 r.1 r.2 in
            let u = top-child (omega arith) in
            (u.0, u.1, omega (arith, r.3, u.2)),
      ))
      (less-or-not k (length given))

  module _ (ceiling : ℕ) (is : ceiling ≡ max (floor - 1) rank) where
    pub search-sure : (most : ℕ) → n ≤ most → (length given < k → (s : ℕ) → s < n → (head s).there ≡ true → rank_of (head s).spot.key < floor)
        → (k ≤ length given) ⊎ ((floor ≡ 0) ⊎ (n ≡ most)) → Sure t x1 x2 k most given blocks ceiling
    search-sure most few quiet why =
        sure-at-end t x1 x2 k most unread found given blocks ceiling g.progress g.follows (omega (arith, g.count)) (halts most quiet why) promises-small
        (omega (arith, promises, ranks))

    -- ranks have 32 bits
    pub search-low : ceiling < 4294967296
    search-low =
        let a : floor - 1 < word = ⊎_elim (λ (e : floor ≡ 0). omega arith) (λ (d : floor ≡ 0 → ⊥). let r = top-child (omega (arith, d)) in omega (arith, r.2, promises-small r.0 r.1)) (same_or_not floor 0) in
        let b : rank < word =
        ⊎_elim (λ (e : rank ≡ 0). omega arith)
        (λ r. omega (arith, r.3, rank-word (head r.0).spot.key (shown-small t q (slot r.0) (g.known.stands r.0 r.1) (head r.0).spot (g.known.held r.0 r.1 r.2))))
        met in
        omega arith
