-- Sorted lists of keys and of spots, as an update changes them: a key put in, and one taken out.
-- Assumes nothing.
use Rattle.std.proofs.Common.{◌≡◌, ℕ, suc, ◌<◌, ◌≤◌, Bool, true, false, cond, not, ◌||◌, eqb, leb, ◌⊎◌, List, [], ◌∷◌, length, sym, refl, ap, ◌∙◌, inl, inr, ⊎_elim, arith, eq-eqb, ne_eqb, le-leb}
use mathlib.Core.List.Memᴰ
use mathlib.Core.List.{Memᴰ}
use borrow.Author.Tests.{lt-leb, eqb-false, not-true}
use Rattle.octets.specs.Lists.{has, rising_from}
use Rattle.octets.proofs.Order.{same_or_not, less-or-not}
use Rattle.octets.proofs.Tests.{or_swap}
use Rattle.octets.proofs.Sets.{has-mem, mem-has}
use Rattle.octets.proofs.Rising.{rising-first, rising-rest, rising-make, rising-least}
use Rattle.spot.specs.declared.Spot.{Spot}
use Rattle.spot.specs.Spots.{keys}
use Rattle.spot.specs.Sorted.{only, insert_key, but}

-- ---- a key put in

pub has-insert_key : (j k : ℕ) (xs : List ℕ) → has j (insert_key k xs) ≡ eqb j k || has j xs
has-insert_key j k [] = refl
has-insert_key j k (x ∷ xs) = go (leb k x) (has-insert_key j k xs)
  where
    go : (t : Bool) → has j (insert_key k xs) ≡ eqb j k || has j xs → has j (cond t (k ∷ x ∷ xs) (x ∷ insert_key k xs)) ≡ eqb j k || (eqb j x || has j xs)
    go true ih = refl
    go false ih = ap (λ (b : Bool). eqb j x || b) ih ∙ or_swap (eqb j x) (eqb j k) (has j xs)

pub insert_key-mem : (k : ℕ) (xs : List ℕ) {j : ℕ} → Memᴰ j (insert_key k xs) → (j ≡ k) ⊎ Memᴰ j xs
insert_key-mem k xs {j} i = ⊎_elim inl (λ (n : j ≡ k → ⊥). inr (has-mem j xs (rw (ne_eqb j k n) at (sym (has-insert_key j k xs) ∙ mem-has j (insert_key k xs) i)))) (same_or_not j k)

pub insert_key-rises : (a k : ℕ) (xs : List ℕ) → a ≤ k → rising_from a xs ≡ true → (Memᴰ k xs → ⊥) → rising_from a (insert_key k xs) ≡ true
insert_key-rises a k [] l h n = rising-make a k [] l refl
insert_key-rises a k (x ∷ xs) l h n =
    ⊎_elim (λ (g : k ≤ x). rw (le-leb k x g) (before g))
    (λ (g : x < k). rw (lt-leb k x g) (rising-make a x (insert_key k xs) (rising-first a x xs h) (insert_key-rises (suc x) k xs g (rising-rest a x xs h) (λ i. n (Memᴰ.tail i)))))
    (less-or-not k x)
  where
    before : k ≤ x → rising_from a (k ∷ x ∷ xs) ≡ true
    before g =
        rising-make a k (x ∷ xs) l
        (rising-make (suc k) x xs (⊎_elim (λ (e : k ≡ x). absurd (n (Memᴰ.head e))) (λ (e : k ≡ x → ⊥). omega arith) (same_or_not k x)) (rising-rest a x xs h))

-- ---- a key taken out

pub but-not : (t k : ℕ) → but t k ≡ true → k ≡ t → ⊥
but-not t k h = eqb-false k t (not-true (eqb k t) h)

pub but-yes : (t k : ℕ) → (k ≡ t → ⊥) → but t k ≡ true
but-yes t k n = ap not (ne_eqb k t n)

-- a key taken out makes one less
pub length-but : (a t : ℕ) (ss : List Spot) → rising_from a (keys ss) ≡ true → Memᴰ t (keys ss) → suc (length (only (but t) ss)) ≡ length ss
length-but a t [] h i = absurd (Memᴰ.not-nil i)
length-but a t (s ∷ ss) h i =
    let r = rising-rest a s.key (keys ss) h in
    ⊎_elim
    (λ (e : s.key ≡ t). rw (eq-eqb s.key t e) (ap suc (none_out ss (λ j. let z = rising-least (suc s.key) (keys ss) r j in omega arith))))
    (λ (n : s.key ≡ t → ⊥). rw (ne_eqb s.key t n) (ap suc (length-but (suc s.key) t ss r (⊎_elim (λ e. absurd (n (sym e))) (λ j. j) (Memᴰ.cases_cons i)))))
    (same_or_not s.key t)
  where
    none_out : (xs : List Spot) → (Memᴰ t (keys xs) → ⊥) → length (only (but t) xs) ≡ length xs
    none_out [] n = refl
    none_out (x ∷ xs) n = rw (ne_eqb x.key t (λ e. n (Memᴰ.head (sym e)))) (ap suc (none_out xs (λ j. n (Memᴰ.tail j))))
