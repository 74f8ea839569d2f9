-- Sums over a list, and lists that have the same sums: the same elements, each as often, in any order.
-- Assumes nothing.
use mathlib.Core.Path.{◌≡◌, refl, ap, sym, ◌∙◌}
use mathlib.Core.Logic.{⊎_elim}
use mathlib.Core.Bool.{Bool, true, false, cond}
use mathlib.Core.List.Memᴰ
use mathlib.Core.List.{List, [], ◌∷◌, ◌++◌, Memᴰ}
use Prim.Native.Nat.{ℕ, ◌+◌, ◌≤◌, ◌<◌}
use native.Mathlib.Omega.{arith}
use lib.ListN.{length}
use lib.Dec.{eqb}
use borrow.Author.Tests.{eqb-true, eq-eqb}
use Rattle.octets.specs.Lists.{keep, distinct}
use Rattle.octets.specs.Bitmap.{digit}
use Rattle.octets.proofs.Lists.{mem-more}
use Rattle.octets.proofs.Sets.{distinct_head, distinct_tail, distinct_cons}
use Rattle.octets.proofs.Order.{less-or-not}

module _ {A : Type 0} where
  abbrev pub sum : (A → ℕ) → List A → ℕ
  sum f [] = 0
  sum f (x ∷ xs) = f x + sum f xs

  -- the same elements, each as often
  abbrev pub Same : List A → List A → Type 0
  Same xs ys = (f : A → ℕ) → sum f xs ≡ sum f ys

  -- f where the test passes
  abbrev pub counted : (A → Bool) → (A → ℕ) → A → ℕ
  counted t f x = cond (t x) (f x) 0

  abbrev pub one : A → ℕ
  one x = 1

  -- by the first list
  pub sum-append : (f : A → ℕ) (xs ys : List A) → sum f (xs ++ ys) ≡ sum f xs + sum f ys
  sum-append f [] ys = omega arith
  sum-append f (x ∷ xs) ys = omega (arith, sum-append f xs ys)

  -- an element in the middle
  pub sum-middle : (f : A → ℕ) (us : List A) (x : A) (vs : List A) → sum f (us ++ (x ∷ vs)) ≡ f x + sum f (us ++ vs)
  sum-middle f us x vs = omega (arith, sum-append f us (x ∷ vs), sum-append f us vs)

  -- equal at each element, equal in sum
  pub sum_same : (f g : A → ℕ) (xs : List A) → ((x : A) → Memᴰ x xs → f x ≡ g x) → sum f xs ≡ sum g xs
  sum_same f g [] h = refl
  sum_same f g (x ∷ xs) h = omega (arith, h x (Memᴰ.head refl), sum_same f g xs (λ y i. h y (Memᴰ.tail i)))

  -- .. and so for at most
  pub sum-le : (f g : A → ℕ) (xs : List A) → ((x : A) → Memᴰ x xs → f x ≤ g x) → sum f xs ≤ sum g xs
  sum-le f g [] h = omega arith
  sum-le f g (x ∷ xs) h = omega (arith, h x (Memᴰ.head refl), sum-le f g xs (λ y i. h y (Memᴰ.tail i)))

  -- nothing at each element, nothing in sum
  pub sum-none : (f : A → ℕ) (xs : List A) → ((x : A) → Memᴰ x xs → f x ≡ 0) → sum f xs ≡ 0
  sum-none f [] h = refl
  sum-none f (x ∷ xs) h = omega (arith, h x (Memᴰ.head refl), sum-none f xs (λ y i. h y (Memᴰ.tail i)))

  -- a part is no more than the sum
  pub sum-mem : (f : A → ℕ) (xs : List A) {x : A} → Memᴰ x xs → f x ≤ sum f xs
  sum-mem f [] i = absurd (Memᴰ.not-nil i)
  sum-mem f (y ∷ ys) {x} i = ⊎_elim (λ (e : x ≡ y). omega (arith, ap f e)) (λ j. omega (arith, sum-mem f ys j)) (Memᴰ.cases_cons i)

  -- a sum that is not 0 has a part that is not
  pub sum-some : (f : A → ℕ) (xs : List A) → 0 < sum f xs → (x : A) × Memᴰ x xs × (0 < f x)
  sum-some f [] h = let z : ⊥ = omega arith in absurd z
  sum-some f (x ∷ xs) h =
      ⊎_elim (λ (l : f x ≤ 0). let r = sum-some f xs (omega arith) in (r.0, Memᴰ.tail r.1, r.2)) (λ (l : 0 < f x). (x, Memᴰ.head refl, l))
      (less-or-not (f x) 0)

  -- the number of elements is a sum of ones
  pub sum-length : (xs : List A) → sum one xs ≡ length xs
  sum-length [] = refl
  sum-length (x ∷ xs) = omega (arith, sum-length xs)

  -- a sum over those kept is a sum with nothing for the others
  pub sum-keep : (t : A → Bool) (f : A → ℕ) (xs : List A) → sum f (keep t xs) ≡ sum (counted t f) xs
  sum-keep t f [] = refl
  sum-keep t f (x ∷ xs) = go (t x) (sum-keep t f xs)
    where
      go : (b : Bool) → sum f (keep t xs) ≡ sum (counted t f) xs
          → sum f (cond b (x ∷ keep t xs) (keep t xs)) ≡ cond b (f x) 0 + sum (counted t f) xs
      go true e = omega arith
      go false e = omega arith

  -- the three that follow: by the test's two answers
  pub counted-yes : (t : A → Bool) (f : A → ℕ) (x : A) → t x ≡ true → counted t f x ≡ f x
  counted-yes t f x h = rw h

  pub counted-no : (t : A → Bool) (f : A → ℕ) (x : A) → t x ≡ false → counted t f x ≡ 0
  counted-no t f x h = rw h

  pub counted-le : (t : A → Bool) (f : A → ℕ) (x : A) → counted t f x ≤ f x
  counted-le t f x = go (t x)
    where
      go : (b : Bool) → cond b (f x) 0 ≤ f x
      go true = omega arith
      go false = omega arith

  -- the length is a sum as well
  pub same_length : (xs ys : List A) → Same xs ys → length xs ≡ length ys
  same_length xs ys s = sym (sum-length xs) ∙ s one ∙ sum-length ys

-- ---- lists that are cut in two

module _ {A : Type 0} where
  -- the middle one summed first
  pub sum-three : (f : A → ℕ) (us cs vs : List A) → sum f (us ++ (cs ++ vs)) ≡ sum f cs + sum f (us ++ vs)
  sum-three f us cs vs = omega (arith, sum-append f us (cs ++ vs), sum-append f cs vs, sum-append f us vs)

  -- the same elements in another order
  pub record Reordered (xs ys : List A) : Type 0 where
    pub sums : Same xs ys
    pub from : (x : A) → Memᴰ x ys → Memᴰ x xs

  -- a list as it is
  pub reordered-none : (xs : List A) → Reordered xs xs
  reordered-none xs = record { sums = λ f. refl; from = λ x i. i }

  -- one after the other
  pub reordered-then : (xs ys zs : List A) → Reordered xs ys → Reordered ys zs → Reordered xs zs
  reordered-then xs ys zs a b = record { sums = λ f. a.sums f ∙ b.sums f; from = λ x i. a.from x (b.from x i) }

  -- two parts exchanged
  pub reordered-swap : (xs ys : List A) → Reordered (xs ++ ys) (ys ++ xs)
  reordered-swap xs ys =
      record {
        sums = λ f. omega (arith, sum-append f xs ys, sum-append f ys xs);
        from = λ x i. ⊎_elim (λ j. Memᴰ.append_right xs j) (λ j. Memᴰ.append_left ys j) (Memᴰ.append_cases ys i);
      }

  -- two reordered, joined
  pub reordered-join : (ps qs xs ys : List A) → Reordered ps qs → Reordered xs ys → Reordered (ps ++ xs) (qs ++ ys)
  reordered-join ps qs xs ys a b =
      record {
        sums = λ f. omega (arith, sum-append f ps xs, sum-append f qs ys, a.sums f, b.sums f);
        from = λ x i. ⊎_elim (λ j. Memᴰ.append_left xs (a.from x j)) (λ j. Memᴰ.append_right ps (b.from x j)) (Memᴰ.append_cases qs i);
      }

  -- an element taken to the front
  pub reordered-front : (us : List A) (x : A) (vs : List A) → Reordered (us ++ (x ∷ vs)) (x ∷ (us ++ vs))
  reordered-front us x vs =
      record {
        sums = λ f. sum-middle f us x vs;
        from = λ y i. ⊎_elim (λ e. Memᴰ.append_right us (Memᴰ.head e)) (λ j. mem-more us x vs j) (Memᴰ.cases_cons i);
      }

-- ---- numbers

-- how often b stands in a list is the sum of this
abbrev pub mark : ℕ → ℕ → ℕ
mark b x = digit (eqb b x)

-- b stands at itself once
pub mark-self : (b x : ℕ) → b ≡ x → mark b x ≡ 1
mark-self b x e = rw (eq-eqb b x e)

-- what stands there more than never is a member
pub mark-mem : (b : ℕ) (xs : List ℕ) → 0 < sum (mark b) xs → Memᴰ b xs
mark-mem b xs h = let r = sum-some (mark b) xs h in go r.0 r.1 (eqb b r.0) refl r.2
  where
    go : (x : ℕ) → Memᴰ x xs → (t : Bool) → eqb b x ≡ t → 0 < digit t → Memᴰ b xs
    go x i true e l = Memᴰ.cast (eqb-true b x e) i
    go x i false e l = let z : ⊥ = omega arith in absurd z

-- and the other way
pub mem-mark : (b : ℕ) (xs : List ℕ) → Memᴰ b xs → 0 < sum (mark b) xs
mem-mark b xs i = let e = mark-self b b refl in omega (arith, sum-mem (mark b) xs i)

-- in a list without repetition each stands at most once
pub distinct-marks : (xs : List ℕ) → distinct xs ≡ true → (b : ℕ) → sum (mark b) xs ≤ 1
distinct-marks [] h b = omega arith
distinct-marks (x ∷ xs) h b = go (eqb b x) refl (distinct-marks xs (distinct_tail x xs h) b)
  where
    go : (t : Bool) → eqb b x ≡ t → sum (mark b) xs ≤ 1 → digit t + sum (mark b) xs ≤ 1
    go true e ih =
        let none : (0 < sum (mark b) xs) → ⊥ = λ l. distinct_head x xs h (Memᴰ.cast (sym (eqb-true b x e)) (mark-mem b xs l)) in
        ⊎_elim (λ (l : sum (mark b) xs ≤ 0). omega arith) (λ (l : 0 < sum (mark b) xs). absurd (none l)) (less-or-not (sum (mark b) xs) 0)
    go false e ih = omega arith

-- and where each stands at most once nothing is repeated
pub marks-distinct : (xs : List ℕ) → ((b : ℕ) → sum (mark b) xs ≤ 1) → distinct xs ≡ true
marks-distinct [] h = refl
marks-distinct (x ∷ xs) h =
    distinct_cons x xs (λ i. let z : ⊥ = omega (arith, h x, mark-self x x refl, mem-mark x xs i) in z)
    (marks-distinct xs (λ b. omega (arith, h b)))
