-- Spots given one after the other: those that come next in Top's order are given all, and what is certain later begins with what is certain now.
-- Assumes nothing.
use mathlib.Core.Path.{◌≡◌, refl, ap, sym, subst, ◌∙◌}
use mathlib.Core.Logic.{⊎_elim}
use mathlib.Core.Bool.{◌&&◌, and-false}
use mathlib.Core.List.Memᴰ
use mathlib.Core.List.{List, [], ◌∷◌, ◌++◌, append-nil, append_assoc, Memᴰ}
use Prim.Native.Nat.{ℕ, ◌+◌, ◌≤◌, ◌<◌}
use native.Mathlib.Omega.{arith}
use lib.IntN.{ℤ}
use lib.ListN.{length, take, length-append}
use lib.Seq.{take-length}
use borrow.Author.Tests.{le-leb, lt-leb}
use Rattle.octets.specs.Lists.{keep}
use Rattle.octets.proofs.Order.{less-or-not}
use Rattle.octets.proofs.Tests.{keep-keep}
use Rattle.spot.specs.Keys.{rank_of}
use Rattle.spot.specs.Spots.{by_top}
use Rattle.spot.specs.declared.Spot.{Spot}
use Rattle.spot.proofs.Ranks.{tk, of_rank, high-enough, top-length}
use Rattle.tree.specs.BestFirst.{Pending, promised, NoneAbove}
use Rattle.tree.proofs.BestFirstSpots.{Descends}
use Rattle.tree.proofs.BestFirst.{Progress, give}

-- ---- lists that descend, cut in two

pub record Cut (xs ys : List Spot) : Type 0 where
  pub first : Descends xs
  pub second : Descends ys
  pub over : (x : Spot) → Memᴰ x xs → NoneAbove (tk x) ys

pub descends-cut : (xs ys : List Spot) → Descends (xs ++ ys) → Cut xs ys
descends-cut [] ys d = record { first = tt; second = d; over = λ x i. absurd (Memᴰ.not-nil i) }
descends-cut (x ∷ xs) ys d =
    let r = descends-cut xs ys d.1 in
    record {
      first = (λ s i. d.0 s (Memᴰ.append_left ys i), r.first);
      second = r.second;
      over =
          λ z i s j.
          ⊎_elim (λ (e : z ≡ x). let h = d.0 s (Memᴰ.append_right xs j) in omega (arith, ap tk e)) (λ k. r.over z k s j) (Memᴰ.cases_cons i);
    }

-- ---- giving several

module _ (t : List ℕ) (x1 x2 : ℤ) (k : ℕ) (unread : List Pending) (left : List Spot) (blocks : List ℕ) where
  -- spots that descend, above those left and above what is unread, are given one by one
  pub give_all : (extra given : List Spot) → Progress t x1 x2 k unread (extra ++ left) given blocks → Descends extra
      → ((x : Spot) → Memᴰ x extra → NoneAbove (tk x) left)
      → ((x : Spot) → Memᴰ x extra → (u : Pending) → Memᴰ u unread → promised u < rank_of x.key)
      → length given + length extra ≤ k
      → Progress t x1 x2 k unread left (given ++ extra) blocks
  give_all [] given g d top under room = subst (λ (ss : List Spot). Progress t x1 x2 k unread left ss blocks) (sym (append-nil given)) g
  give_all (x ∷ xs) given g d top under room =
      let over : NoneAbove (tk x) (xs ++ left) =
      λ s i. ⊎_elim (λ j. d.0 s j) (λ j. top x (Memᴰ.head refl) s j) (Memᴰ.append_cases xs i) in
      subst (λ (ss : List Spot). Progress t x1 x2 k unread left ss blocks) (append_assoc given (x ∷ []) xs)
      (give_all xs (given ++ (x ∷ [])) (give t x1 x2 k unread [] x (xs ++ left) given blocks g over (under x (Memᴰ.head refl)) (omega arith)) d.1
      (λ z i. top z (Memᴰ.tail i))
      (λ z i. under z (Memᴰ.tail i))
      (omega (arith, length-append given (x ∷ []))))

-- ---- what is certain grows at its end

-- spots below rank y leave those of rank y as they are
pub none_kept : (y : ℕ) (own found : List Spot) → ((x : Spot) → Memᴰ x own → rank_of x.key < y) → keep (of_rank y) (own ++ found) ≡ keep (of_rank y) found
none_kept y [] found h = refl
none_kept y (x ∷ xs) found h = rw (lt-leb y (rank_of x.key) (h x (Memᴰ.head refl))) (none_kept y xs found (λ z i. h z (Memᴰ.tail i)))

-- with a lower least rank, the spots of the higher come first
pub ranks-first : (y z : ℕ) (found : List Spot) → z ≤ y
    → let c = by_top (keep (of_rank y) found) in
    c ≡ take (length c) (by_top (keep (of_rank z) found))
ranks-first y z found h =
    let high = keep (of_rank z) found in
    let e : keep (of_rank y) found ≡ keep (of_rank y) high = keep-keep (of_rank z) (of_rank y) (of_rank y) both found in
    let c = by_top (keep (of_rank y) found) in
    sym (take-length c) ∙ ap (λ (ss : List Spot). take (length c) (by_top ss)) e ∙
    high-enough y (length c) high (omega (arith, top-length (keep (of_rank y) found), ap length e))
  where
    both : (x : Spot) → of_rank y x ≡ of_rank z x && of_rank y x
    both x =
        ⊎_elim (λ (l : y ≤ rank_of x.key). rw (le-leb y (rank_of x.key) l, le-leb z (rank_of x.key) (omega arith)))
        (λ (l : rank_of x.key < y). rw (lt-leb y (rank_of x.key) l) (sym (and-false (of_rank z x))))
        (less-or-not y (rank_of x.key))
