-- Lists of numbers as sets: membership as a test and as a fact, and lists in which nothing occurs twice.
-- Assumes nothing.
use mathlib.Core.Path.{◌≡◌, refl, ap, sym, ◌∙◌}
use mathlib.Core.Logic.{◌⊎◌, inl, inr, ⊎_elim}
use mathlib.Core.Bool.{Bool, true, false, not, cond, ◌||◌, or-true, or_assoc, true≢false, false≢true}
use mathlib.Core.List.Memᴰ
use mathlib.Core.List.{List, [], ◌∷◌, ◌++◌, Memᴰ}
use Prim.Native.Nat.{ℕ}
use lib.Dec.{eqb}
use borrow.Author.Tests.{eq-eqb, ne_eqb, not-true}
use Rattle.octets.specs.Lists.{every, keep, has, distinct}
use Rattle.octets.specs.Sets.{Apart}
use Rattle.octets.proofs.Order.{same_or_not}
use Rattle.octets.proofs.Tests.{and_left, and_right, and_both, refuted, every-mem}

-- ---- the test and the fact

pub has-mem : (k : ℕ) (xs : List ℕ) → has k xs ≡ true → Memᴰ k xs
has-mem k [] h = absurd (false≢true h)
has-mem k (x ∷ xs) h =
    ⊎_elim (λ e. Memᴰ.head e) (λ (n : k ≡ x → ⊥). Memᴰ.tail (has-mem k xs (rw (ne_eqb k x n) at h))) (same_or_not k x)

pub mem-has : (k : ℕ) (xs : List ℕ) → Memᴰ k xs → has k xs ≡ true
mem-has k [] h = absurd (Memᴰ.not-nil h)
mem-has k (x ∷ xs) h =
    ⊎_elim (λ e. rw (eq-eqb k x e)) (λ j. rw (mem-has k xs j) (or-true (eqb k x))) (Memᴰ.cases_cons h)

pub has-not : (k : ℕ) (xs : List ℕ) → (Memᴰ k xs → ⊥) → has k xs ≡ false
has-not k xs n = refuted (has k xs) (λ e. n (has-mem k xs e))

pub not-has-mem : (k : ℕ) (xs : List ℕ) → has k xs ≡ false → Memᴰ k xs → ⊥
not-has-mem k xs h j = true≢false (sym (mem-has k xs j) ∙ h)

pub in-or-not : (k : ℕ) (xs : List ℕ) → Memᴰ k xs ⊎ (Memᴰ k xs → ⊥)
in-or-not k xs = go (has k xs) refl
  where
    go : (b : Bool) → has k xs ≡ b → Memᴰ k xs ⊎ (Memᴰ k xs → ⊥)
    go true e = inl (has-mem k xs e)
    go false e = inr (not-has-mem k xs e)

pub has-append : (k : ℕ) (xs ys : List ℕ) → has k (xs ++ ys) ≡ has k xs || has k ys
has-append k [] ys = refl
has-append k (x ∷ xs) ys = ap (λ (b : Bool). eqb k x || b) (has-append k xs ys) ∙ sym (or_assoc (eqb k x) (has k xs) (has k ys))

pub has-keep : (g : ℕ → Bool) (k : ℕ) (xs : List ℕ) → has k (keep g xs) ≡ cond (g k) (has k xs) false
has-keep g k [] = sym (off (g k))
  where
    off : (b : Bool) → cond b false false ≡ false
    off true = refl
    off false = refl
has-keep g k (x ∷ xs) = go (g x) refl (has-keep g k xs)
  where
    go : (b : Bool) → g x ≡ b → has k (keep g xs) ≡ cond (g k) (has k xs) false → has k (cond b (x ∷ keep g xs) (keep g xs)) ≡ cond (g k) (has k (x ∷ xs)) false
    go true q ih = ⊎_elim (λ (e : k ≡ x). rw (ap g e ∙ q, eq-eqb k x e)) (λ (n : k ≡ x → ⊥). rw (ne_eqb k x n) ih) (same_or_not k x)
    go false q ih = ⊎_elim (λ (e : k ≡ x). ih ∙ rw (ap g e ∙ q)) (λ (n : k ≡ x → ⊥). rw (ne_eqb k x n) ih) (same_or_not k x)

-- a test that passes at every number that the list has
pub every-has : (f : ℕ → Bool) (k : ℕ) (xs : List ℕ) → every f xs ≡ true → has k xs ≡ true → f k ≡ true
every-has f k xs h j = every-mem f xs h (has-mem k xs j)

-- ---- nothing twice

not-has : (x : ℕ) (xs : List ℕ) → distinct (x ∷ xs) ≡ true → has x xs ≡ false
not-has x xs h = not-true (has x xs) (and_left (not (has x xs)) (distinct xs) h)

pub distinct_head : (x : ℕ) (xs : List ℕ) → distinct (x ∷ xs) ≡ true → Memᴰ x xs → ⊥
distinct_head x xs h = not-has-mem x xs (not-has x xs h)

pub distinct_tail : (x : ℕ) (xs : List ℕ) → distinct (x ∷ xs) ≡ true → distinct xs ≡ true
distinct_tail x xs h = and_right (not (has x xs)) (distinct xs) h

pub distinct_cons : (x : ℕ) (xs : List ℕ) → (Memᴰ x xs → ⊥) → distinct xs ≡ true → distinct (x ∷ xs) ≡ true
distinct_cons x xs n h = and_both (not (has x xs)) (distinct xs) (ap not (has-not x xs n)) h

pub record Split (xs ys : List ℕ) : Type 0 where
  pub left : distinct xs ≡ true
  pub right : distinct ys ≡ true
  pub off : Apart xs ys

pub distinct-split : (xs ys : List ℕ) → distinct (xs ++ ys) ≡ true → Split xs ys
distinct-split [] ys h = record { left = refl; right = h; off = λ z i j. Memᴰ.not-nil i }
distinct-split (x ∷ xs) ys h =
    let n = distinct_head x (xs ++ ys) h in
    let r = distinct-split xs ys (distinct_tail x (xs ++ ys) h) in
    record {
      left = distinct_cons x xs (λ i. n (Memᴰ.append_left ys i)) r.left;
      right = r.right;
      off = λ z i j. ⊎_elim (λ (e : z ≡ x). n (Memᴰ.append_right xs (rw e at j))) (λ g. r.off z g j) (Memᴰ.cases_cons i);
    }

pub distinct-left : (xs ys : List ℕ) → distinct (xs ++ ys) ≡ true → distinct xs ≡ true
distinct-left xs ys h = (distinct-split xs ys h).left

pub distinct-join : (xs ys : List ℕ) → distinct xs ≡ true → distinct ys ≡ true → Apart xs ys → distinct (xs ++ ys) ≡ true
distinct-join [] ys a b o = b
distinct-join (x ∷ xs) ys a b o =
    distinct_cons x (xs ++ ys) (λ i. ⊎_elim (λ j. distinct_head x xs a j) (λ j. o x (Memᴰ.head refl) j) (Memᴰ.append_cases xs i))
    (distinct-join xs ys (distinct_tail x xs a) b (λ z i j. o z (Memᴰ.tail i) j))
