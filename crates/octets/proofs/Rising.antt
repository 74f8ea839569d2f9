-- Lists of numbers that rise: cut in two, and filtered.
-- Assumes nothing.
use mathlib.Core.Path.{◌≡◌, refl}
use mathlib.Core.Logic.{⊎_elim}
use mathlib.Core.Bool.{Bool, true, false, cond}
use mathlib.Core.List.Memᴰ
use mathlib.Core.List.{List, [], ◌∷◌, ◌++◌, Memᴰ}
use Prim.Native.Nat.{ℕ, suc, ◌≤◌}
use native.Mathlib.Omega.{arith}
use lib.Dec.{leb, ltb}
use borrow.Author.Tests.{leb-true, le-leb, lt-ltb}
use Rattle.octets.specs.Lists.{every, keep, distinct, rising_from}
use Rattle.octets.proofs.Tests.{and_left, and_right, and_both}
use Rattle.octets.proofs.Sets.{distinct_cons}

-- ---- the two facts of a list that rises from a

pub rising-first : (a x : ℕ) (xs : List ℕ) → rising_from a (x ∷ xs) ≡ true → a ≤ x
rising-first a x xs h = leb-true a x (and_left (leb a x) (rising_from (suc x) xs) h)

pub rising-rest : (a x : ℕ) (xs : List ℕ) → rising_from a (x ∷ xs) ≡ true → rising_from (suc x) xs ≡ true
rising-rest a x xs h = and_right (leb a x) (rising_from (suc x) xs) h

pub rising-make : (a x : ℕ) (xs : List ℕ) → a ≤ x → rising_from (suc x) xs ≡ true → rising_from a (x ∷ xs) ≡ true
rising-make a x xs l h = and_both (leb a x) (rising_from (suc x) xs) (le-leb a x l) h

pub rising-lower : (b a : ℕ) (xs : List ℕ) → b ≤ a → rising_from a xs ≡ true → rising_from b xs ≡ true
rising-lower b a [] l h = refl
rising-lower b a (x ∷ xs) l h = rising-make b x xs (omega (arith, rising-first a x xs h)) (rising-rest a x xs h)

-- what stands in a list that rises from a is at least a
pub rising-least : (a : ℕ) (xs : List ℕ) {x : ℕ} → rising_from a xs ≡ true → Memᴰ x xs → a ≤ x
rising-least a [] h i = absurd (Memᴰ.not-nil i)
rising-least a (y ∷ ys) {x} h i =
    ⊎_elim (λ (e : x ≡ y). omega (arith, rising-first a y ys h))
    (λ j. omega (arith, rising-first a y ys h, rising-least (suc y) ys (rising-rest a y ys h) j)) (Memᴰ.cases_cons i)

pub rising-from : (a : ℕ) (xs : List ℕ) → rising_from a xs ≡ true → every (leb a) xs ≡ true
rising-from a [] h = refl
rising-from a (x ∷ xs) h =
    and_both (leb a x) (every (leb a) xs) (le-leb a x (rising-first a x xs h))
    (rising-from a xs (rising-lower a (suc x) xs (omega (arith, rising-first a x xs h)) (rising-rest a x xs h)))

pub rising-distinct : (a : ℕ) (xs : List ℕ) → rising_from a xs ≡ true → distinct xs ≡ true
rising-distinct a [] h = refl
rising-distinct a (y ∷ ys) h =
    let r = rising-rest a y ys h in
    distinct_cons y ys (λ i. let z : suc y ≤ y = rising-least (suc y) ys r i in omega arith) (rising-distinct (suc y) ys r)

-- ---- two lists one after the other

pub rising-left : (a : ℕ) (xs zs : List ℕ) → rising_from a (xs ++ zs) ≡ true → rising_from a xs ≡ true
rising-left a [] zs h = refl
rising-left a (x ∷ xs) zs h = rising-make a x xs (rising-first a x (xs ++ zs) h) (rising-left (suc x) xs zs (rising-rest a x (xs ++ zs) h))

pub rising-right : (a : ℕ) (xs zs : List ℕ) → rising_from a (xs ++ zs) ≡ true → rising_from a zs ≡ true
rising-right a [] zs h = h
rising-right a (x ∷ xs) zs h = rising-lower a (suc x) zs (omega (arith, rising-first a x (xs ++ zs) h)) (rising-right (suc x) xs zs (rising-rest a x (xs ++ zs) h))

-- what stands before z is below it
pub rising-before : (a z : ℕ) (xs zs : List ℕ) → rising_from a (xs ++ (z ∷ zs)) ≡ true → every (λ k. ltb k z) xs ≡ true
rising-before a z [] zs h = refl
rising-before a z (x ∷ xs) zs h =
    let r = rising-rest a x (xs ++ (z ∷ zs)) h in
    and_both (ltb x z) (every (λ k. ltb k z) xs) (lt-ltb x z (rising-first (suc x) z zs (rising-right (suc x) xs (z ∷ zs) r))) (rising-before (suc x) z xs zs r)

-- what comes after z rises from above it
pub rises-after : (a : ℕ) (xs : List ℕ) (y : ℕ) (zs : List ℕ) → rising_from a (xs ++ (y ∷ zs)) ≡ true → rising_from (suc y) zs ≡ true
rises-after a xs y zs h = rising-rest a y zs (rising-right a xs (y ∷ zs) h)

-- ---- what is kept of a list that rises

pub keep-rises : (g : ℕ → Bool) (a : ℕ) (xs : List ℕ) → rising_from a xs ≡ true → rising_from a (keep g xs) ≡ true
keep-rises g a [] h = refl
keep-rises g a (x ∷ xs) h = go (g x) (keep-rises g (suc x) xs (rising-rest a x xs h))
  where
    go : (b : Bool) → rising_from (suc x) (keep g xs) ≡ true → rising_from a (cond b (x ∷ keep g xs) (keep g xs)) ≡ true
    go true ih = rising-make a x (keep g xs) (rising-first a x xs h) ih
    go false ih = rising-lower a (suc x) (keep g xs) (omega (arith, rising-first a x xs h)) ih
