-- Records side by side: their number, the one with index i, those from the i-th on, and tests at each.
-- Assumes nothing.
use mathlib.Core.Path.{◌≡◌, refl, sym, ap, ap₂, subst, ◌∙◌}
use mathlib.Core.Bool.{Bool, true, ◌&&◌}
use mathlib.Core.List.{List, [], ◌∷◌, ◌++◌}
use Prim.Native.Nat.{ℕ, zero, suc, ◌+◌, ◌-◌, ◌*◌, ◌<◌, ◌≤◌}
use native.Mathlib.Nat.{mul-suc, mul-zero}
use native.Mathlib.Omega.{arith}
use lib.Dec.{eqb, eqb-suc-zero}
use lib.ListN.{length, get_or}
use Rattle.octets.specs.Lists.{all, every, is_empty, records}
use Rattle.octets.proofs.Tests.{and_left, and_right, and_both}

module _ {A : Type 0} (f : ℕ → A) (w : ℕ) where
  pub length-records : (n at : ℕ) → length (records f w n at) ≡ n
  length-records zero at = refl
  length-records (suc n) at = ap suc (length-records n (at + w))

  pub empty-records : (n at : ℕ) → is_empty (records f w n at) ≡ eqb n 0
  empty-records zero at = refl
  empty-records (suc n) at = sym (eqb-suc-zero n)

  -- the record with index i
  pub records-at : (n at i : ℕ) (d : A) → i < n → get_or (records f w n at) i d ≡ f (at + w * i)
  records-at zero at i d h = let z : ⊥ = omega arith in absurd z
  records-at (suc n) at zero d h = ap f (omega (arith, mul-zero w))
  records-at (suc n) at (suc i) d h = records-at n (at + w) i d (omega arith) ∙ ap f (omega (arith, mul-suc w i))

  -- the first n, and then m more
  pub records-append : (n m at : ℕ) → records f w (n + m) at ≡ records f w n at ++ records f w m (at + w * n)
  records-append zero m at =
      let e : 0 + m ≡ m = omega arith in
      let g : at + w * 0 ≡ at = omega (arith, mul-zero w) in
      rw (e, g)
  records-append (suc n) m at =
      let e : suc n + m ≡ suc (n + m) = omega arith in
      let g : at + w + w * n ≡ at + w * suc n = omega (arith, mul-suc w n) in
      rw e (ap (λ (l : List A). f at ∷ l) (records-append n m (at + w) ∙ rw g))

  pub records-more : (n at : ℕ) → records f w (suc n) at ≡ records f w n at ++ (f (at + w * n) ∷ [])
  records-more n at =
      let e : suc n ≡ n + 1 = omega arith in
      ap (λ (k : ℕ). records f w k at) e ∙ records-append n 1 at

-- equal records, equal lists, wherever they stand
pub records-cong : {A : Type 0} (f g : ℕ → A) (w n a b : ℕ) → ((i : ℕ) → i < n → f (a + w * i) ≡ g (b + w * i)) → records f w n a ≡ records g w n b
records-cong f g w zero a b h = refl
records-cong {A} f g w (suc n) a b h = ap₂ (λ (x : A) (l : List A). x ∷ l) first (records-cong f g w n (a + w) (b + w) later)
  where
    first : f a ≡ g b
    first =
        let p : a + w * 0 ≡ a = omega (arith, mul-zero w) in
        let q : b + w * 0 ≡ b = omega (arith, mul-zero w) in
        ap f (sym p) ∙ h 0 (omega arith) ∙ ap g q

    later : (i : ℕ) → i < n → f (a + w + w * i) ≡ g (b + w + w * i)
    later i l =
        let p : a + w + w * i ≡ a + w * suc i = omega (arith, mul-suc w i) in
        let q : b + w * suc i ≡ b + w + w * i = omega (arith, mul-suc w i) in
        ap f p ∙ h (suc i) (omega arith) ∙ ap g q

-- ---- the records from the i-th on

module _ {A : Type 0} (f : ℕ → A) (w n at : ℕ) where
  abbrev pub left : ℕ → List A
  left i = records f w (n - i) (at + w * i)

  pub left-all : records f w n at ≡ left 0
  left-all =
      let e : n - 0 ≡ n = omega arith in
      let g : at + w * 0 ≡ at = omega arith in
      rw (e, g)

  pub left-cons : (i : ℕ) → i < n → left i ≡ f (at + w * i) ∷ left (i + 1)
  left-cons i h =
      let e : n - i ≡ suc (n - (i + 1)) = omega arith in
      let g : at + w * i + w ≡ at + w * (i + 1) = omega arith in
      rw (e, g)

  pub left-none : (i : ℕ) → n ≤ i → left i ≡ []
  left-none i h =
      let e : n - i ≡ 0 = omega arith in
      rw e

  pub left-first : 0 < n → records f w n at ≡ f at ∷ left 1
  left-first h =
      let e : n ≡ suc (n - 1) = omega arith in
      let g : at + w ≡ at + w * 1 = omega arith in
      subst (λ (k : ℕ). records f w k at ≡ f at ∷ left 1) (sym e) (ap (λ (k : ℕ). f at ∷ records f w (n - 1) k) g)

  pub none_left : n ≡ 0 → records f w n at ≡ []
  none_left e = ap (λ (k : ℕ). records f w k at) e

-- ---- tests at each record

pub every-records : {A : Type 0} (g : A → Bool) (f : ℕ → A) (w n at : ℕ) → every g (records f w n at) ≡ all (records (λ i. g (f i)) w n at)
unfolding all
every-records g f w zero at = refl
every-records g f w (suc n) at = ap (λ (b : Bool). g (f at) && b) (every-records g f w n (at + w))

module _ (f : ℕ → Bool) (w : ℕ) where
  pub tests-at : (n at i : ℕ) → all (records f w n at) ≡ true → i < n → f (at + w * i) ≡ true
  unfolding all
  tests-at zero at i h l = let z : ⊥ = omega arith in absurd z
  tests-at (suc n) at zero h l =
      let g : at ≡ at + w * 0 = omega (arith, mul-zero w) in
      sym (ap f g) ∙ and_left (f at) (all (records f w n (at + w))) h
  tests-at (suc n) at (suc i) h l =
      let g : at + w * suc i ≡ at + w + w * i = omega (arith, mul-suc w i) in
      ap f g ∙ tests-at n (at + w) i (and_right (f at) (all (records f w n (at + w))) h) (omega arith)

  pub tests-make : (n at : ℕ) → ((i : ℕ) → i < n → f (at + w * i) ≡ true) → all (records f w n at) ≡ true
  unfolding all
  tests-make zero at h = refl
  tests-make (suc n) at h =
      and_both (f at) (all (records f w n (at + w)))
      (let g : at ≡ at + w * 0 = omega (arith, mul-zero w) in ap f g ∙ h 0 (omega arith))
      (tests-make n (at + w) (λ i l. let g : at + w + w * i ≡ at + w * suc i = omega (arith, mul-suc w i) in ap f g ∙ h (suc i) (omega arith)))
