-- Lists laid one after the other: an element of one of them taken to the front.
-- Assumes nothing.
use mathlib.Core.Path.{◌≡◌, refl, ap, ap₂, sym, subst, ◌∙◌}
use mathlib.Core.Logic.{⊎_elim}
use mathlib.Core.List.Memᴰ
use mathlib.Core.List.{List, [], ◌∷◌, ◌++◌, append-nil, append_assoc, Memᴰ}
use Prim.Native.Nat.{ℕ, zero, suc, ◌+◌, ◌<◌}
use native.Mathlib.Omega.{arith}
use Rattle.octets.proofs.Order.{same_or_not}
use Rattle.tree.proofs.BestFirstSums.{Reordered, reordered-none, reordered-then, reordered-join, reordered-front}
use Rattle.top.specs.Reading.{flat}

module _ {A : Type 0} where
  pub flat-same : (f g : ℕ → List A) (n : ℕ) → ((i : ℕ) → i < n → f i ≡ g i) → flat f n ≡ flat g n
  flat-same f g zero h = refl
  flat-same f g (suc n) h = ap₂ (λ (a b : List A). a ++ b) (flat-same f g n (λ i l. h i (omega arith))) (h n (omega arith))

  pub flat-mem : (f : ℕ → List A) (n : ℕ) {x : A} → Memᴰ x (flat f n) → (i : ℕ) × (i < n) × Memᴰ x (f i)
  flat-mem f zero i = absurd (Memᴰ.not-nil i)
  flat-mem f (suc n) i =
      ⊎_elim (λ j. let r = flat-mem f n j in (r.0, omega (arith, r.1), r.2)) (λ j. (n, omega arith, j)) (Memᴰ.append_cases (flat f n) i)

  pub flat_in : (f : ℕ → List A) (n i : ℕ) {x : A} → i < n → Memᴰ x (f i) → Memᴰ x (flat f n)
  flat_in f zero i l m = let z : ⊥ = omega arith in absurd z
  flat_in f (suc n) i {x} l m =
      ⊎_elim (λ (e : i ≡ n). Memᴰ.append_right (flat f n) (subst (λ (j : ℕ). Memᴰ x (f j)) e m))
      (λ (d : i ≡ n → ⊥). Memᴰ.append_left (f n) (flat_in f n i (omega (arith, d)) m))
      (same_or_not i n)

  pub flat-none : (f : ℕ → List A) (n : ℕ) → ((i : ℕ) → i < n → f i ≡ []) → flat f n ≡ []
  flat-none f zero h = refl
  flat-none f (suc n) h = ap₂ (λ (a b : List A). a ++ b) (flat-none f n (λ i l. h i (omega arith))) (h n (omega arith))

  pub flat-add : (f : ℕ → List A) (n m : ℕ) → flat f (n + m) ≡ flat f n ++ flat (λ i. f (n + i)) m
  flat-add f n zero = let e : n + 0 ≡ n = omega arith in ap (flat f) e ∙ sym (append-nil (flat f n))
  flat-add f n (suc m) =
      let e : n + suc m ≡ suc (n + m) = omega arith in
      ap (flat f) e ∙ ap (λ (l : List A). l ++ f (n + m)) (flat-add f n m) ∙ append_assoc (flat f n) (flat (λ i. f (n + i)) m) (f (n + m))

  -- one of the lists loses an element
  pub flat_out : (f g : ℕ → List A) (n i : ℕ) (x : A) → i < n → ((j : ℕ) → j < n → (j ≡ i → ⊥) → f j ≡ g j) → Reordered (f i) (x ∷ g i)
      → Reordered (flat f n) (x ∷ flat g n)
  flat_out f g zero i x l h r = let z : ⊥ = omega arith in absurd z
  flat_out f g (suc n) i x l h r =
      ⊎_elim last (λ (d : i ≡ n → ⊥). front d (flat_out f g n i x (omega (arith, d)) (λ j m e. h j (omega arith) e) r)) (same_or_not i n)
    where
      last : i ≡ n → Reordered (flat f n ++ f n) (x ∷ (flat g n ++ g n))
      last e =
          let a : flat f n ≡ flat g n = flat-same f g n (λ j m. h j (omega arith) (λ z. let y : ⊥ = omega arith in y)) in
          reordered-then (flat f n ++ f n) (flat f n ++ (x ∷ g n)) (x ∷ (flat g n ++ g n))
          (reordered-join (flat f n) (flat f n) (f n) (x ∷ g n) (reordered-none (flat f n)) (subst (λ (j : ℕ). Reordered (f j) (x ∷ g j)) e r))
          (subst (λ (ys : List A). Reordered (flat f n ++ (x ∷ g n)) (x ∷ (ys ++ g n))) a (reordered-front (flat f n) x (g n)))

      front : (i ≡ n → ⊥) → Reordered (flat f n) (x ∷ flat g n) → Reordered (flat f n ++ f n) (x ∷ (flat g n ++ g n))
      front d ih =
          let b : f n ≡ g n = h n (omega arith) (λ z. d (sym z)) in
          reordered-then (flat f n ++ f n) ((x ∷ flat g n) ++ f n) ((x ∷ flat g n) ++ g n)
          (reordered-join (flat f n) (x ∷ flat g n) (f n) (f n) ih (reordered-none (f n)))
          (subst (λ (ys : List A). Reordered ((x ∷ flat g n) ++ f n) ((x ∷ flat g n) ++ ys)) b (reordered-none ((x ∷ flat g n) ++ f n)))
