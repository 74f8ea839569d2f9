-- The edge of what is unread: one more than any of it promises, or 0. A spot is certain just if its rank is not below the edge.
-- Assumes nothing.
use mathlib.Core.Path.{◌≡◌, ap, sym, ◌∙◌}
use mathlib.Core.Logic.{◌⊎◌, inl, inr, ⊎_elim}
use mathlib.Core.Bool.{Bool, not, ◌&&◌}
use mathlib.Core.List.Memᴰ
use mathlib.Core.List.{List, [], ◌∷◌, Memᴰ}
use Prim.Native.Nat.{ℕ, suc, ◌≤◌, ◌<◌, max, min}
use native.Mathlib.Omega.{arith}
use lib.Dec.{leb, ltb}
use lib.ListN.{length, take, drop, take-append-drop, length-take, drop_of_length-le}
use lib.Seq.{take_all, take-append_seam}
use borrow.Author.Tests.{leb-true, leb-false, le-leb, lt-leb, le-ltb, lt-ltb, not-true}
use Rattle.octets.specs.Lists.{keep}
use Rattle.octets.proofs.Lists.{mem-take, mem-same}
use Rattle.octets.proofs.Order.{less-or-not}
use Rattle.octets.proofs.Tests.{keep-mem, keep_same}
use Rattle.spot.specs.Keys.{word, rank_of}
use Rattle.spot.specs.Spots.{by_top}
use Rattle.spot.specs.declared.Spot.{Spot}
use Rattle.spot.proofs.Ranks.{of_rank, by_top-from}
use Rattle.block.specs.declared.Asked.{Asked}
use Rattle.block.specs.declared.Asked.TheVariants.{Root, Child}
use Rattle.tree.specs.BestFirst.{Pending, promise, promised}
use Rattle.tree.proofs.BestFirstSpots.{Descends, top-descends}
use Rattle.within_theory.specs.Reading.{Reading, above_all, certain, given_of, held_back, greatest, shows_rank, ceiling_of}
use Rattle.within_theory.proofs.Greatest.{greatest-ge, greatest-le}

-- ---- the edge

abbrev pub edge : List Pending → ℕ
edge us = greatest (λ u. suc (promised u)) us

pub edge-over : (us : List Pending) {u : Pending} → Memᴰ u us → promised u < edge us
edge-over us i = greatest-ge (λ u. suc (promised u)) us i

-- no higher where no part promises more
pub edge-under : (n : ℕ) (us : List Pending) → ((u : Pending) → Memᴰ u us → promised u < n) → edge us ≤ n
edge-under n us h = greatest-le (λ u. suc (promised u)) n us h

-- what every unread part shows decides just so
pub above-edge : (us : List Pending) (s : Spot) → above_all us s ≡ of_rank (edge us) s
unfolding above_all
above-edge [] s = sym (le-leb 0 (rank_of s.key) (omega arith))
above-edge (u ∷ us) s =
    ap (λ (b : Bool). ltb (promised u) (rank_of s.key) && b) (above-edge us s) ∙ both (promised u) (edge us) (rank_of s.key)
  where
    both : (p e r : ℕ) → ltb p r && leb e r ≡ leb (max (suc p) e) r
    both p e r =
        ⊎_elim (λ (h : r ≤ p). rw (le-ltb p r h, lt-leb (max (suc p) e) r (omega arith)))
        (λ (h : p < r).
        rw (lt-ltb p r h)
        (⊎_elim (λ (l : e ≤ r). le-leb e r l ∙ sym (le-leb (max (suc p) e) r (omega arith))) (λ (l : r < e). lt-leb e r l ∙ sym (lt-leb (max (suc p) e) r (omega arith)))
        (less-or-not e r)))
        (less-or-not r p)

-- a part shows what it promises, but for the root, which promises more than any rank
pub shows-under : (a : Asked) → shows_rank a ≤ promise a
shows-under (Root b) = omega arith
shows-under (Child e) = omega arith

pub shows-over : (r : ℕ) → r < word → (a : Asked) → r ≤ promise a → r ≤ shows_rank a
shows-over r l (Root b) d = omega arith
shows-over r l (Child e) d = d

-- so a rank below the edge is not above what all parts show
pub edge-shows : (r : ℕ) → r < word → (us : List Pending) → r < edge us → r ≤ greatest (λ u. shows_rank u.part.asked) us
edge-shows r l [] h = let z : ⊥ = omega arith in absurd z
edge-shows r l (u ∷ us) h =
    ⊎_elim (λ (d : r ≤ promised u). let z = shows-over r l u.part.asked d in omega arith)
    (λ (d : promised u < r). let z = edge-shows r l us (omega arith) in omega arith)
    (less-or-not r (promised u))

-- ---- what is certain, given and held back

module _ (s : Reading) where
  pub certain-edge : certain s ≡ by_top (keep (of_rank (edge s.unread)) s.found)
  unfolding certain
  certain-edge = ap by_top (keep_same (above_all s.unread) (of_rank (edge s.unread)) s.found (λ x i. above-edge s.unread x))

  -- what is certain has a rank from the edge on
  pub certain-high : (x : Spot) → Memᴰ x (certain s) → edge s.unread ≤ rank_of x.key
  certain-high x i =
      leb-true (edge s.unread) (rank_of x.key)
      (keep-mem (of_rank (edge s.unread)) s.found (by_top-from (keep (of_rank (edge s.unread)) s.found) (mem-same certain-edge i))).1

  pub certain-descends : Descends (certain s)
  unfolding certain
  certain-descends = top-descends (keep (above_all s.unread) s.found)

  module _ (k : ℕ) where
    pub given-certain : (x : Spot) → Memᴰ x (given_of k s) → Memᴰ x (certain s)
    unfolding given_of
    given-certain x i = mem-take k (certain s) i

    pub given-many : length (given_of k s) ≡ min k (length (certain s))
    unfolding given_of
    given-many = length-take k (certain s)

    -- as many as are given, from the first on
    pub given-first : given_of k s ≡ take (length (given_of k s)) (certain s)
    unfolding given_of
    given-first =
        let ss = take k (certain s) in
        sym (take-append_seam ss (drop k (certain s))) ∙ ap (take (length ss)) (take-append-drop k (certain s))

    -- what is certain is given or held back
    pub certain-split : (x : Spot) → Memᴰ x (certain s) → Memᴰ x (given_of k s) ⊎ Memᴰ x (held_back k s)
    unfolding given_of held_back
    certain-split x i =
        ⊎_elim inl (λ (j : Memᴰ x (drop k (certain s))). inr (Memᴰ.append_left (keep (λ y. not (above_all s.unread y)) s.found) j))
        (Memᴰ.append_cases (take k (certain s)) (mem-same (sym (take-append-drop k (certain s))) i))

    -- what is held back is cut off, or below the edge
    pub held-cases : (x : Spot) → Memᴰ x (held_back k s) → Memᴰ x (drop k (certain s)) ⊎ (rank_of x.key < edge s.unread)
    unfolding held_back
    held-cases x i =
        ⊎_elim inl (λ (j : Memᴰ x (keep (λ y. not (above_all s.unread y)) s.found)). inr (low j)) (Memᴰ.append_cases (drop k (certain s)) i)
      where
        low : Memᴰ x (keep (λ y. not (above_all s.unread y)) s.found) → rank_of x.key < edge s.unread
        low j =
            let h = not-true (above_all s.unread x) (keep-mem (λ y. not (above_all s.unread y)) s.found j).1 in
            leb-false (edge s.unread) (rank_of x.key) (sym (above-edge s.unread x) ∙ h)

    -- with fewer than k certain all of that is given
    pub given-all : length (certain s) ≤ k → given_of k s ≡ certain s
    unfolding given_of
    given-all h = take_all k (certain s) h

    pub held_low : length (certain s) ≤ k → (x : Spot) → Memᴰ x (held_back k s) → rank_of x.key < edge s.unread
    held_low h x i =
        ⊎_elim (λ j. absurd (Memᴰ.not-nil (mem-same (drop_of_length-le (certain s) h) j))) (λ l. l) (held-cases x i)

    -- ---- the ceiling

    pub ceiling-part : {u : Pending} → Memᴰ u s.unread → shows_rank u.part.asked ≤ ceiling_of k s
    unfolding ceiling_of
    ceiling-part i = omega (arith, greatest-ge (λ u. shows_rank u.part.asked) s.unread i)

    pub ceiling-held : {x : Spot} → Memᴰ x (held_back k s) → rank_of x.key ≤ ceiling_of k s
    unfolding ceiling_of
    ceiling-held i = omega (arith, greatest-ge (λ x. rank_of x.key) (held_back k s) i)

    pub ceiling-edge : (r : ℕ) → r < word → r < edge s.unread → r ≤ ceiling_of k s
    unfolding ceiling_of
    ceiling-edge r l h = omega (arith, edge-shows r l s.unread h)

    pub ceiling-le : (n : ℕ) → ((u : Pending) → Memᴰ u s.unread → shows_rank u.part.asked ≤ n)
        → ((x : Spot) → Memᴰ x (held_back k s) → rank_of x.key ≤ n)
        → ceiling_of k s ≤ n
    unfolding ceiling_of
    ceiling-le n parts held =
        omega (arith, greatest-le (λ u. shows_rank u.part.asked) n s.unread parts, greatest-le (λ x. rank_of x.key) n (held_back k s) held)
