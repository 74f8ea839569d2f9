-- Lists in which no number stands twice, and counting by them: the numbers of one such list are no more than those of a list that has them all.
-- Assumes nothing.
use mathlib.Core.Path.{◌≡◌, refl, sym, ◌∙◌}
use mathlib.Core.Logic.{⊎_elim}
use mathlib.Core.Bool.{Bool, true, false, cond}
use mathlib.Core.List.Memᴰ
use mathlib.Core.List.{List, [], ◌∷◌, ◌++◌, Memᴰ}
use Prim.Native.Nat.{ℕ, suc, ◌≤◌}
use native.Mathlib.Omega.{arith}
use lib.ListN.{length}
use lib.Dec.{eqb}
use borrow.Author.Tests.{eq-eqb, ne_eqb}
use Rattle.octets.specs.Lists.{keep, distinct}
use Rattle.octets.specs.Sets.{Apart}
use Rattle.octets.proofs.Order.{same_or_not}
use Rattle.octets.proofs.Tests.{keep-in}
use Rattle.octets.proofs.Sets.{distinct_head, distinct_tail, distinct_cons}

-- no number stands twice, as a fact that is taken apart number by number
abbrev pub Once : List ℕ → Type 0
Once [] = Unit {0}
Once (x ∷ xs) = (Memᴰ x xs → ⊥) × Once xs

-- the list without the first x
abbrev less : ℕ → List ℕ → List ℕ
less x [] = []
less x (y ∷ ys) = cond (eqb x y) ys (y ∷ less x ys)

less-length : (x : ℕ) (ys : List ℕ) → Memᴰ x ys → length ys ≡ suc (length (less x ys))
less-length x [] k = absurd (Memᴰ.not-nil k)
less-length x (y ∷ ys) k =
    ⊎_elim (λ (e : x ≡ y). rw (eq-eqb x y e))
    (λ (n : x ≡ y → ⊥). rw (ne_eqb x y n) (⊎_elim (λ e. absurd (n e)) (λ j. omega (arith, less-length x ys j)) (Memᴰ.cases_cons k)))
    (same_or_not x y)

less-mem : (x k : ℕ) (ys : List ℕ) → (k ≡ x → ⊥) → Memᴰ k ys → Memᴰ k (less x ys)
less-mem x k [] d j = j
less-mem x k (y ∷ ys) d j =
    ⊎_elim (λ (e : x ≡ y). rw (eq-eqb x y e) (⊎_elim (λ i. absurd (d (i ∙ sym e))) (λ i. i) (Memᴰ.cases_cons j)))
    (λ (n : x ≡ y → ⊥). rw (ne_eqb x y n) (⊎_elim (λ i. Memᴰ.head i) (λ i. Memᴰ.tail (less-mem x k ys d i)) (Memᴰ.cases_cons j)))
    (same_or_not x y)

-- counting: every number of xs, in which none stands twice, is in ys
pub fewer : (xs ys : List ℕ) → Once xs → ((k : ℕ) → Memᴰ k xs → Memᴰ k ys) → length xs ≤ length ys
fewer [] ys a h = omega arith
fewer (x ∷ xs) ys a h =
    let i = fewer xs (less x ys) a.1 (λ k j. less-mem x k ys (λ e. a.0 (Memᴰ.cast (sym e) j)) (h k (Memᴰ.tail j))) in
    omega (arith, i, less-length x ys (h x (Memᴰ.head refl)))

pub once-append : (xs ys : List ℕ) → Once xs → Once ys → Apart xs ys → Once (xs ++ ys)
once-append [] ys a b h = b
once-append (x ∷ xs) ys a b h =
    (λ k. ⊎_elim (λ j. a.0 j) (λ j. h x (Memᴰ.head refl) j) (Memᴰ.append_cases xs k), once-append xs ys a.1 b (λ k i j. h k (Memᴰ.tail i) j))

pub once-first : (xs ys : List ℕ) → Once (xs ++ ys) → Once xs
once-first [] ys a = tt
once-first (x ∷ xs) ys a = (λ i. a.0 (Memᴰ.append_left ys i), once-first xs ys a.1)

pub once-second : (xs ys : List ℕ) → Once (xs ++ ys) → Once ys
once-second [] ys a = a
once-second (x ∷ xs) ys a = once-second xs ys a.1

pub once-cross : (xs ys : List ℕ) → Once (xs ++ ys) → Apart xs ys
once-cross [] ys a k i j = Memᴰ.not-nil i
once-cross (x ∷ xs) ys a k i j =
    ⊎_elim (λ (e : k ≡ x). a.0 (Memᴰ.append_right xs (rw e at j))) (λ h. once-cross xs ys a.1 k h j) (Memᴰ.cases_cons i)

-- the test and the fact
pub once-distinct : (xs : List ℕ) → distinct xs ≡ true → Once xs
once-distinct [] h = tt
once-distinct (x ∷ xs) h = (distinct_head x xs h, once-distinct xs (distinct_tail x xs h))

pub distinct-once : (xs : List ℕ) → Once xs → distinct xs ≡ true
distinct-once [] a = refl
distinct-once (x ∷ xs) a = distinct_cons x xs a.0 (distinct-once xs a.1)

pub keep-once : (f : ℕ → Bool) (xs : List ℕ) → Once xs → Once (keep f xs)
keep-once f [] a = tt
keep-once f (x ∷ xs) a = go (f x) (keep-once f xs a.1)
  where
    go : (b : Bool) → Once (keep f xs) → Once (cond b (x ∷ keep f xs) (keep f xs))
    go true ih = (λ k. a.0 (keep-in f xs k), ih)
    go false ih = ih
