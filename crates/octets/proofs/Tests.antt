-- Tests over lists: `all`, `every`, `keep` and `same_list`.
-- Assumes nothing.
use mathlib.Core.Path.{◌≡◌, refl, ap, ap₂, sym, ◌∙◌}
use mathlib.Core.Bool.{Bool, true, false, cond, not, ◌&&◌, ◌||◌, beq, and_assoc, false≢true, true≢false}
use mathlib.Core.List.Memᴰ
use mathlib.Core.List.{List, [], ◌∷◌, ◌++◌, Memᴰ}
use mathlib.Core.Logic.{◌⊎◌, inl, inr, ⊎_elim}
use Prim.Native.Nat.{ℕ, zero, suc, ◌+◌, ◌≤◌, ◌<◌}
use native.Mathlib.Nat.{le_of_suc-le-suc, not-suc-le-zero}
use native.Mathlib.Omega.{arith}
use lib.ListN.{length, get_or, replicate, drop}
use lib.Dec.{eqb}
use borrow.Author.Tests.{eq-eqb, eqb-true}
use Rattle.octets.specs.Lists.{all, every, keep, is_empty, same_list}
use Rattle.octets.proofs.Lists.{drop-next}

-- ---- truth values

pub and_left : (a b : Bool) → a && b ≡ true → a ≡ true
and_left true b h = refl
and_left false b h = h

pub and_right : (a b : Bool) → a && b ≡ true → b ≡ true
and_right true b h = h
and_right false b h = absurd (false≢true h)

pub and_both : (a b : Bool) → a ≡ true → b ≡ true → a && b ≡ true
and_both a b p q = rw (p, q)

pub or_right : (a b : Bool) → a || b ≡ true → b ≡ false → a ≡ true
or_right true b h e = refl
or_right false b h e = absurd (true≢false (sym h ∙ e))

pub or_left : (a b : Bool) → a || b ≡ true → a ≡ false → b ≡ true
or_left true b h e = absurd (true≢false e)
or_left false b h e = h

pub or-either : (a b : Bool) → a || b ≡ true → (a ≡ true) ⊎ (b ≡ true)
or-either true b h = inl refl
or-either false b h = inr h

pub neither : (a b : Bool) → a || b ≡ false → (a ≡ false) × (b ≡ false)
neither true b h = absurd (true≢false h)
neither false b h = (refl, h)

pub or_swap : (a b c : Bool) → a || (b || c) ≡ b || (a || c)
or_swap true true c = refl
or_swap true false c = refl
or_swap false b c = refl

-- a test that cannot pass
pub refuted : (b : Bool) → (b ≡ true → ⊥) → b ≡ false
refuted true n = absurd (n refl)
refuted false n = refl

pub beq-true : (a b : Bool) → beq a b ≡ true → a ≡ b
beq-true true true h = refl
beq-true true false h = absurd (false≢true h)
beq-true false true h = absurd (false≢true h)
beq-true false false h = refl

pub true-beq : (a b : Bool) → a ≡ b → beq a b ≡ true
true-beq true b e = rw (← e)
true-beq false b e = rw (← e)

-- two tests that pass together are one
pub bool-ext : (a b : Bool) → (a ≡ true → b ≡ true) → (b ≡ true → a ≡ true) → a ≡ b
bool-ext true b f g = sym (f refl)
bool-ext false true f g = g refl
bool-ext false false f g = refl

-- ---- lists of tests

-- a test that passes in a list of tests that all pass: `all-at _ h 2` is the third
pub all-at : (bs : List Bool) → all bs ≡ true → (i : ℕ) → get_or bs i true ≡ true
unfolding all
all-at [] h i = refl
all-at (true ∷ bs) h zero = refl
all-at (true ∷ bs) h (suc i) = all-at bs h i
all-at (false ∷ bs) h i = absurd (false≢true h)

pub all_cons : (b : Bool) (bs : List Bool) → b ≡ true → all bs ≡ true → all (b ∷ bs) ≡ true
unfolding all
all_cons b bs p q = rw (p, q)

pub all_nil : all [] ≡ true
unfolding all
all_nil = refl

-- the choice by the opposite of a test
pub cond-not : {A : Type 0} (b : Bool) (x y : A) → cond (not b) x y ≡ cond b y x
cond-not true x y = refl
cond-not false x y = refl

-- a member of one of two lists that a test picks
pub cond-mem : {A : Type 0} {x : A} (b : Bool) (xs ys : List A) → Memᴰ x (cond b xs ys) → ((b ≡ true) × Memᴰ x xs) ⊎ Memᴰ x ys
cond-mem true xs ys k = inl (refl, k)
cond-mem false xs ys k = inr k

-- ---- a test at every element

module _ {A : Type 0} (f : A → Bool) where
  pub every-at : (xs : List A) (d : A) → every f xs ≡ true → (i : ℕ) → i < length xs → f (get_or xs i d) ≡ true
  every-at [] d h i l = absurd (not-suc-le-zero l)
  every-at (x ∷ xs) d h zero l = and_left (f x) (every f xs) h
  every-at (x ∷ xs) d h (suc i) l = every-at xs d (and_right (f x) (every f xs) h) i (le_of_suc-le-suc l)

  pub every-mem : (xs : List A) {x : A} → every f xs ≡ true → Memᴰ x xs → f x ≡ true
  every-mem [] h k = absurd (Memᴰ.not-nil k)
  every-mem (y ∷ ys) h k =
      ⊎_elim (λ e. ap f e ∙ and_left (f y) (every f ys) h) (λ j. every-mem ys (and_right (f y) (every f ys) h) j) (Memᴰ.cases_cons k)

  pub every-make : (xs : List A) → ((x : A) → Memᴰ x xs → f x ≡ true) → every f xs ≡ true
  every-make [] h = refl
  every-make (x ∷ xs) h = and_both (f x) (every f xs) (h x (Memᴰ.head refl)) (every-make xs (λ y j. h y (Memᴰ.tail j)))

  pub every-replicate : (n : ℕ) (x : A) → f x ≡ true → every f (replicate n x) ≡ true
  every-replicate zero x h = refl
  every-replicate (suc n) x h = and_both (f x) (every f (replicate n x)) h (every-replicate n x h)

  pub every_append : (xs ys : List A) → every f (xs ++ ys) ≡ every f xs && every f ys
  every_append [] ys = refl
  every_append (x ∷ xs) ys = ap (λ (b : Bool). f x && b) (every_append xs ys) ∙ sym (and_assoc (f x) (every f xs) (every f ys))

  pub every-left : (xs ys : List A) → every f (xs ++ ys) ≡ true → every f xs ≡ true
  every-left xs ys h = and_left (every f xs) (every f ys) (sym (every_append xs ys) ∙ h)

  pub every-right : (xs ys : List A) → every f (xs ++ ys) ≡ true → every f ys ≡ true
  every-right xs ys h = and_right (every f xs) (every f ys) (sym (every_append xs ys) ∙ h)

  pub every-join : (xs ys : List A) → every f xs ≡ true → every f ys ≡ true → every f (xs ++ ys) ≡ true
  every-join xs ys a b = every_append xs ys ∙ and_both (every f xs) (every f ys) a b

module _ {A : Type 0} where
  pub every-imp : (f g : A → Bool) (xs : List A) → ((x : A) → f x ≡ true → g x ≡ true) → every f xs ≡ true → every g xs ≡ true
  every-imp f g [] i h = refl
  every-imp f g (x ∷ xs) i h = and_both (g x) (every g xs) (i x (and_left (f x) (every f xs) h)) (every-imp f g xs i (and_right (f x) (every f xs) h))

  pub every_two : (f g : A → Bool) (xs : List A) → every f xs ≡ true → every g xs ≡ true → every (λ x. f x && g x) xs ≡ true
  every_two f g [] h i = refl
  every_two f g (x ∷ xs) h i =
      and_both (f x && g x) (every (λ y. f y && g y) xs) (and_both (f x) (g x) (and_left (f x) (every f xs) h) (and_left (g x) (every g xs) i))
      (every_two f g xs (and_right (f x) (every f xs) h) (and_right (g x) (every g xs) i))

-- ---- what passes

module _ {A : Type 0} (f : A → Bool) where
  -- what is kept was there, and passes the test
  pub keep-mem : (xs : List A) {x : A} → Memᴰ x (keep f xs) → Memᴰ x xs × (f x ≡ true)
  keep-mem [] i = absurd (Memᴰ.not-nil i)
  keep-mem (y ∷ ys) {x} i =
      ⊎_elim
      (λ c. ⊎_elim (λ (e : x ≡ y). (Memᴰ.head e, ap f e ∙ c.0)) (λ j. let r = keep-mem ys j in (Memᴰ.tail r.0, r.1)) (Memᴰ.cases_cons c.1))
      (λ j. let r = keep-mem ys j in (Memᴰ.tail r.0, r.1))
      (cond-mem (f y) (y ∷ keep f ys) (keep f ys) i)

  pub keep-in : (xs : List A) {x : A} → Memᴰ x (keep f xs) → Memᴰ x xs
  keep-in xs i = (keep-mem xs i).0

  pub keep-passes : (xs : List A) {x : A} → Memᴰ x (keep f xs) → f x ≡ true
  keep-passes xs i = (keep-mem xs i).1

  -- what was there and passes is kept
  pub keep-there : (xs : List A) {x : A} → Memᴰ x xs → f x ≡ true → Memᴰ x (keep f xs)
  keep-there [] i h = absurd (Memᴰ.not-nil i)
  keep-there (y ∷ ys) {x} i h = go (f y) refl (Memᴰ.cases_cons i) (λ j. keep-there ys j h)
    where
      go : (b : Bool) → f y ≡ b → (x ≡ y) ⊎ Memᴰ x ys → (Memᴰ x ys → Memᴰ x (keep f ys)) → Memᴰ x (cond b (y ∷ keep f ys) (keep f ys))
      go true e (inl s) ih = Memᴰ.head s
      go true e (inr j) ih = Memᴰ.tail (ih j)
      go false e (inl s) ih = absurd (true≢false (sym h ∙ ap f s ∙ e))
      go false e (inr j) ih = ih j

  pub keep-length : (xs : List A) → length (keep f xs) ≤ length xs
  keep-length [] = omega arith
  keep-length (x ∷ xs) = go (f x) (keep-length xs)
    where
      go : (b : Bool) → length (keep f xs) ≤ length xs → length (cond b (x ∷ keep f xs) (keep f xs)) ≤ suc (length xs)
      go true h = omega arith
      go false h = omega arith

  pub keep_append : (xs ys : List A) → keep f (xs ++ ys) ≡ keep f xs ++ keep f ys
  keep_append [] ys = refl
  keep_append (x ∷ xs) ys = go (f x) (keep_append xs ys)
    where
      go : (b : Bool) → keep f (xs ++ ys) ≡ keep f xs ++ keep f ys
          → cond b (x ∷ keep f (xs ++ ys)) (keep f (xs ++ ys)) ≡ cond b (x ∷ keep f xs) (keep f xs) ++ keep f ys
      go true h = ap (λ (l : List A). x ∷ l) h
      go false h = h

  -- a test that every element passes keeps the list
  pub keep_all : (xs : List A) → every f xs ≡ true → keep f xs ≡ xs
  keep_all [] h = refl
  keep_all (x ∷ xs) h = rw (and_left (f x) (every f xs) h) (ap (λ (l : List A). x ∷ l) (keep_all xs (and_right (f x) (every f xs) h)))

module _ {A : Type 0} where
  -- no fewer pass a test that asks for less
  pub length-keep-imp : (f g : A → Bool) → ((x : A) → f x ≡ true → g x ≡ true) → (xs : List A) → length (keep f xs) ≤ length (keep g xs)
  length-keep-imp f g h [] = omega arith
  length-keep-imp f g h (x ∷ xs) = go (f x) (g x) (h x) (length-keep-imp f g h xs)
    where
      go : (a b : Bool) → (a ≡ true → b ≡ true) → length (keep f xs) ≤ length (keep g xs)
          → length (cond a (x ∷ keep f xs) (keep f xs)) ≤ length (cond b (x ∷ keep g xs) (keep g xs))
      go true true i r = omega arith
      go true false i r = absurd (true≢false (sym (i refl)))
      go false true i r = omega arith
      go false false i r = r

  -- tests that agree on the list keep the same of it
  pub keep_same : (f g : A → Bool) (xs : List A) → ((x : A) → Memᴰ x xs → f x ≡ g x) → keep f xs ≡ keep g xs
  keep_same f g [] h = refl
  keep_same f g (x ∷ xs) h = rw (h x (Memᴰ.head refl), keep_same f g xs (λ y j. h y (Memᴰ.tail j)))

  -- one test after another
  pub keep-keep : (f g h : A → Bool) → ((x : A) → h x ≡ f x && g x) → (xs : List A) → keep h xs ≡ keep g (keep f xs)
  keep-keep f g h e [] = refl
  keep-keep f g h e (x ∷ xs) = rw (e x) (go (f x) (g x) refl (keep-keep f g h e xs))
    where
      go : (a b : Bool) → g x ≡ b → keep h xs ≡ keep g (keep f xs) → cond (a && b) (x ∷ keep h xs) (keep h xs) ≡ keep g (cond a (x ∷ keep f xs) (keep f xs))
      go true true q i = rw (q, i)
      go true false q i = rw q i
      go false b q i = i

  pub empty-list : (xs : List A) → is_empty xs ≡ true → xs ≡ []
  empty-list [] h = refl
  empty-list (x ∷ xs) h = absurd (false≢true h)

  pub empty-length : (xs : List A) → is_empty xs ≡ true → length xs ≡ 0
  empty-length xs h = ap length (empty-list xs h)

-- ---- two lists that are the same

-- lists that pass the test are one
pub same_lists : (a b : List ℕ) → same_list a b ≡ true → a ≡ b
same_lists [] [] h = refl
same_lists [] (y ∷ ys) h = absurd (false≢true h)
same_lists (x ∷ xs) [] h = absurd (false≢true h)
same_lists (x ∷ xs) (y ∷ ys) h =
    ap₂ (λ (z : ℕ) (zs : List ℕ). z ∷ zs) (eqb-true x y (and_left (eqb x y) (same_list xs ys) h)) (same_lists xs ys (and_right (eqb x y) (same_list xs ys) h))

same_self : (a : List ℕ) → same_list a a ≡ true
same_self [] = refl
same_self (x ∷ xs) = and_both (eqb x x) (same_list xs xs) (eq-eqb x x refl) (same_self xs)

-- and one list passes it
pub lists-same : (a b : List ℕ) → a ≡ b → same_list a b ≡ true
lists-same a b e = rw (← e) (same_self a)

-- from the element with index i on
pub same_from : (a b : List ℕ) (i : ℕ) → i < length a → i < length b
    → same_list (drop i a) (drop i b) ≡ eqb (get_or a i 0) (get_or b i 0) && same_list (drop (i + 1) a) (drop (i + 1) b)
same_from a b i l m = ap₂ same_list (drop-next a i 0 l) (drop-next b i 0 m)
