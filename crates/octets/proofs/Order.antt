-- Decisions on numbers, tests of numbers that say the same, and records side by side.
-- Assumes nothing.
use mathlib.Core.Path.{◌≡◌, refl, sym, ap, subst, ◌∙◌}
use mathlib.Core.Logic.{◌⊎◌, inl, inr, ⊎_elim}
use mathlib.Core.Bool.{Bool, true, false, not}
use Prim.Native.Nat.{ℕ, ◌+◌, ◌*◌, ◌≤◌, ◌<◌}
use native.Mathlib.Nat.{mul-suc, mul-le-mul_left}
use lib.Dec.{leb, ltb, eqb}
use borrow.Author.Tests.{leb-true, leb-false, eqb-true, eqb-false, le-leb, lt-leb, le-ltb, lt-ltb, eq-eqb, ne_eqb}

pub same_or_not : (a b : ℕ) → (a ≡ b) ⊎ (a ≡ b → ⊥)
same_or_not a b = go (eqb a b) refl
  where
    go : (t : Bool) → eqb a b ≡ t → (a ≡ b) ⊎ (a ≡ b → ⊥)
    go true e = inl (eqb-true a b e)
    go false e = inr (eqb-false a b e)

pub less-or-not : (a b : ℕ) → (a ≤ b) ⊎ (b < a)
less-or-not a b = go (leb a b) refl
  where
    go : (t : Bool) → leb a b ≡ t → (a ≤ b) ⊎ (b < a)
    go true e = inl (leb-true a b e)
    go false e = inr (leb-false a b e)

-- tests that hold together are one
pub leb-same : (a b c d : ℕ) → (a ≤ b → c ≤ d) → (b < a → d < c) → leb a b ≡ leb c d
leb-same a b c d f g = ⊎_elim (λ h. le-leb a b h ∙ sym (le-leb c d (f h))) (λ h. lt-leb a b h ∙ sym (lt-leb c d (g h))) (less-or-not a b)

pub ltb-same : (a b c d : ℕ) → (a < b → c < d) → (b ≤ a → d ≤ c) → ltb a b ≡ ltb c d
ltb-same a b c d f g = ⊎_elim (λ h. le-ltb a b h ∙ sym (le-ltb c d (g h))) (λ h. lt-ltb a b h ∙ sym (lt-ltb c d (f h))) (less-or-not b a)

pub eqb_same : (a b c d : ℕ) → (a ≡ b → c ≡ d) → (c ≡ d → a ≡ b) → eqb a b ≡ eqb c d
eqb_same a b c d f g = ⊎_elim (λ h. eq-eqb a b h ∙ sym (eq-eqb c d (f h))) (λ h. ne_eqb a b h ∙ sym (ne_eqb c d (λ e. h (g e)))) (same_or_not a b)

pub eqb-flip : (a b : ℕ) → eqb a b ≡ eqb b a
eqb-flip a b = eqb_same a b b a (λ e. sym e) (λ e. sym e)

pub not-leb : (a b : ℕ) → not (leb a b) ≡ ltb b a
not-leb a b = ⊎_elim (λ h. ap not (le-leb a b h) ∙ sym (le-ltb b a h)) (λ h. ap not (lt-leb a b h) ∙ sym (lt-ltb b a h)) (less-or-not a b)

-- of n records of width w, the end of each is not past the end of all
pub stride : (w : ℕ) {i n : ℕ} → i < n → w * i + w ≤ w * n
stride w {i} {n} h = subst (λ (k : ℕ). k ≤ w * n) (mul-suc w i) (mul-le-mul_left w h)
