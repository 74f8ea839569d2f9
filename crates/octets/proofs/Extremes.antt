-- The largest and the least of a list of numbers.
-- Assumes nothing.
use mathlib.Core.Path.{◌≡◌, refl, subst}
use mathlib.Core.Logic.{⊎_elim}
use mathlib.Core.List.Memᴰ
use mathlib.Core.List.{List, [], ◌∷◌, Memᴰ}
use Prim.Native.Nat.{ℕ, ◌≤◌, ◌<◌, max, min}
use native.Mathlib.Nat.{max-eq_left, min-eq_left}
use native.Mathlib.Omega.{arith}
use Rattle.octets.specs.Lists.{maximum, minimum}
use Rattle.octets.proofs.Order.{less-or-not}

pub maximum-ge : (xs : List ℕ) {x : ℕ} → Memᴰ x xs → x ≤ maximum xs
maximum-ge [] k = absurd (Memᴰ.not-nil k)
maximum-ge (y ∷ ys) {x} k = ⊎_elim (λ (e : x ≡ y). omega arith) (λ j. omega (arith, maximum-ge ys j)) (Memᴰ.cases_cons k)

-- a bound of every number bounds the largest
maximum-le : (t : ℕ) (xs : List ℕ) → ((x : ℕ) → Memᴰ x xs → x ≤ t) → maximum xs ≤ t
maximum-le t [] h = omega arith
maximum-le t (y ∷ ys) h = let a = h y (Memᴰ.head refl) in let b = maximum-le t ys (λ x i. h x (Memᴰ.tail i)) in omega arith

-- a member that none exceeds is the maximum
pub max-is : (xs : List ℕ) (t : ℕ) → Memᴰ t xs → ((x : ℕ) → Memᴰ x xs → x ≤ t) → t ≡ maximum xs
max-is xs t i h = let a = maximum-ge xs i in let b = maximum-le t xs h in omega arith

pub maximum-mem : (x : ℕ) (xs : List ℕ) → Memᴰ (maximum (x ∷ xs)) (x ∷ xs)
maximum-mem x [] = let e : max x 0 ≡ x = omega arith in Memᴰ.head e
maximum-mem x (y ∷ ys) =
    ⊎_elim (λ (h : maximum (y ∷ ys) ≤ x). Memᴰ.head (max-eq_left h))
    (λ (h : x < maximum (y ∷ ys)).
    Memᴰ.tail (subst (λ (i : ℕ). Memᴰ i (y ∷ ys)) (other x (maximum (y ∷ ys)) h) (maximum-mem y ys)))
    (less-or-not (maximum (y ∷ ys)) x)
  where
    other : (a b : ℕ) → a < b → b ≡ max a b
    other a b h = omega arith

pub minimum-le : (d : ℕ) (xs : List ℕ) {x : ℕ} → Memᴰ x xs → minimum d xs ≤ x
minimum-le d [] k = absurd (Memᴰ.not-nil k)
minimum-le d (y ∷ ys) {x} k = ⊎_elim (λ (e : x ≡ y). omega arith) (λ j. omega (arith, minimum-le d ys j)) (Memᴰ.cases_cons k)

minimum-ge : (d t : ℕ) (xs : List ℕ) → t ≤ d → ((x : ℕ) → Memᴰ x xs → t ≤ x) → t ≤ minimum d xs
minimum-ge d t [] l h = l
minimum-ge d t (y ∷ ys) l h = let a = h y (Memᴰ.head refl) in let b = minimum-ge d t ys l (λ x i. h x (Memᴰ.tail i)) in omega arith

-- a member that none is below is the minimum
pub min-is : (d : ℕ) (xs : List ℕ) (t : ℕ) → t ≤ d → Memᴰ t xs → ((x : ℕ) → Memᴰ x xs → t ≤ x) → t ≡ minimum d xs
min-is d xs t l i h = let a = minimum-le d xs i in let b = minimum-ge d t xs l h in omega arith

pub minimum-mem : (d x : ℕ) (xs : List ℕ) → ((y : ℕ) → Memᴰ y (x ∷ xs) → y < d) → Memᴰ (minimum d (x ∷ xs)) (x ∷ xs)
minimum-mem d x [] h = let l = h x (Memᴰ.head refl) in let e : min x d ≡ x = omega arith in Memᴰ.head e
minimum-mem d x (y ∷ ys) h =
    ⊎_elim (λ (l : x ≤ minimum d (y ∷ ys)). Memᴰ.head (min-eq_left l))
    (λ (l : minimum d (y ∷ ys) < x).
    Memᴰ.tail (subst (λ (i : ℕ). Memᴰ i (y ∷ ys)) (other x (minimum d (y ∷ ys)) l) (minimum-mem d y ys (λ z i. h z (Memᴰ.tail i)))))
    (less-or-not x (minimum d (y ∷ ys)))
  where
    other : (a b : ℕ) → b < a → b ≡ min a b
    other a b h = omega arith
