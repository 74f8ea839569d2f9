-- The greatest of some numbers, one for each element: it is that of any list with the same numbers.
-- Assumes nothing.
use mathlib.Core.Path.{◌≡◌, refl, ap, sym, ◌∙◌}
use mathlib.Core.Logic.{⊎_elim}
use mathlib.Core.Bool.{Bool, true, false}
use mathlib.Core.List.Memᴰ
use mathlib.Core.List.{List, [], ◌∷◌, Memᴰ}
use Prim.Native.Nat.{ℕ, zero, suc, ◌≤◌, ◌<◌}
use native.Mathlib.Omega.{arith}
use lib.ListN.{take}
use lib.Dec.{leb}
use borrow.Author.Tests.{le-leb, leb-true}
use Rattle.octets.specs.Bitmap.{digit}
use Rattle.spot.specs.declared.Spot.{Spot}
use Rattle.spot.proofs.Ranks.{tk}
use Rattle.tree.proofs.BestFirstSums.{sum, Same, sum-mem, sum-some}
use Rattle.tree.proofs.BestFirstSpots.{Descends}
use Rattle.within_theory.specs.Reading.{greatest}

module _ {A : Type 0} (f : A → ℕ) where
  pub greatest-ge : (xs : List A) {x : A} → Memᴰ x xs → f x ≤ greatest f xs
  greatest-ge [] i = absurd (Memᴰ.not-nil i)
  greatest-ge (y ∷ ys) {x} i = ⊎_elim (λ (e : x ≡ y). omega (arith, ap f e)) (λ j. omega (arith, greatest-ge ys j)) (Memᴰ.cases_cons i)

  -- a bound of every number bounds the greatest
  pub greatest-le : (n : ℕ) (xs : List A) → ((x : A) → Memᴰ x xs → f x ≤ n) → greatest f xs ≤ n
  greatest-le n [] h = omega arith
  greatest-le n (x ∷ xs) h = omega (arith, h x (Memᴰ.head refl), greatest-le n xs (λ y i. h y (Memᴰ.tail i)))

  -- the same numbers, each as often
  abbrev pub SameBy : List A → List A → Type 0
  SameBy xs ys = (g : ℕ → ℕ) → sum (λ x. g (f x)) xs ≡ sum (λ x. g (f x)) ys

  -- the same elements have the same numbers
  pub same_by : (xs ys : List A) → Same xs ys → SameBy xs ys
  same_by xs ys e g = e (λ x. g (f x))

  -- an element of a list with the same numbers has as great a one there
  pub same-as-great : (xs ys : List A) → SameBy xs ys → {x : A} → Memᴰ x xs → (y : A) × Memᴰ y ys × (f x ≤ f y)
  same-as-great xs ys e {x} i =
      let over : A → ℕ = λ y. digit (leb (f x) (f y)) in
      let here : over x ≡ 1 = ap digit (le-leb (f x) (f x) (omega arith)) in
      let r = sum-some over ys (omega (arith, e (λ n. digit (leb (f x) n)), sum-mem over xs i)) in
      (r.0, r.1, go r.0 (leb (f x) (f r.0)) refl r.2)
    where
      go : (y : A) (b : Bool) → leb (f x) (f y) ≡ b → 0 < digit b → f x ≤ f y
      go y true q l = leb-true (f x) (f y) q
      go y false q l = let z : ⊥ = omega arith in absurd z

  same-greatest-le : (xs ys : List A) → SameBy xs ys → greatest f xs ≤ greatest f ys
  same-greatest-le xs ys e =
      greatest-le (greatest f ys) xs (λ x i. let r = same-as-great xs ys e i in omega (arith, r.2, greatest-ge ys r.1))

  pub same-greatest : (xs ys : List A) → SameBy xs ys → greatest f xs ≡ greatest f ys
  same-greatest xs ys e = omega (arith, same-greatest-le xs ys e, same-greatest-le ys xs (λ g. sym (e g)))

module _ {A : Type 0} where
  -- equal at each element
  pub greatest-same : (f g : A → ℕ) (xs : List A) → ((x : A) → Memᴰ x xs → f x ≡ g x) → greatest f xs ≡ greatest g xs
  greatest-same f g [] h = refl
  greatest-same f g (x ∷ xs) h = omega (arith, h x (Memᴰ.head refl), greatest-same f g xs (λ y i. h y (Memᴰ.tail i)))

-- ---- lists that descend

-- the first has the greatest top key
descends-first : (x : Spot) (xs : List Spot) → Descends (x ∷ xs) → greatest tk (x ∷ xs) ≡ tk x
descends-first x xs d = omega (arith, greatest-le tk (tk x) xs d.0)

-- with the same top keys, they stand in the same order: so the first k have the same
pub first-tops : (k : ℕ) (xs ys : List Spot) → Descends xs → Descends ys → SameBy tk xs ys → SameBy tk (take k xs) (take k ys)
first-tops zero xs ys a b e g = refl
first-tops (suc k) [] [] a b e g = refl
first-tops (suc k) [] (y ∷ ys) a b e g = let z : ⊥ = omega (arith, e (λ n. 1)) in absurd z
first-tops (suc k) (x ∷ xs) [] a b e g = let z : ⊥ = omega (arith, e (λ n. 1)) in absurd z
first-tops (suc k) (x ∷ xs) (y ∷ ys) a b e g =
    let top : tk x ≡ tk y = sym (descends-first x xs a) ∙ same-greatest tk (x ∷ xs) (y ∷ ys) e ∙ descends-first y ys b in
    omega (arith, ap g top, first-tops k xs ys a.1 b.1 (λ h. omega (arith, e h, ap h top)) g)
