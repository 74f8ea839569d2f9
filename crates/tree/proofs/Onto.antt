-- Blocks put onto a list one by one, the first first: which stand there, and how often.
-- Assumes nothing.
use mathlib.Core.Path.{◌≡◌, refl, ap, sym, ◌∙◌, subst}
use mathlib.Core.Logic.{◌⊎◌, inl, inr, ⊎_elim}
use mathlib.Core.Bool.{true}
use mathlib.Core.List.Memᴰ
use mathlib.Core.List.{List, [], ◌∷◌, reverse_aux, reverse-reverse, Memᴰ}
use Prim.Native.Nat.{ℕ}
use Rattle.octets.specs.Lists.{has, distinct}
use Rattle.octets.specs.Sets.{Apart}
use Rattle.octets.proofs.Tests.{bool-ext}
use Rattle.octets.proofs.Sets.{has-mem, mem-has}
use Rattle.octets.proofs.Once.{Once, once-distinct, distinct-once}

-- onto a list, the first first, so that the last stands in front
abbrev pub onto : List ℕ → List ℕ → List ℕ
onto xs acc = reverse_aux xs acc

-- what stands there was put there, or was there before
onto-from : (xs acc : List ℕ) {b : ℕ} → Memᴰ b (onto xs acc) → Memᴰ b xs ⊎ Memᴰ b acc
onto-from [] acc k = inr k
onto-from (x ∷ xs) acc k =
    ⊎_elim (λ j. inl (Memᴰ.tail j)) (λ j. ⊎_elim (λ e. inl (Memᴰ.head e)) inr (Memᴰ.cases_cons j)) (onto-from xs (x ∷ acc) k)

-- onto the empty list: the same blocks
pub mem-onto : (xs : List ℕ) {b : ℕ} → Memᴰ b (onto xs []) → Memᴰ b xs
mem-onto xs i = ⊎_elim (λ j. j) (λ j. absurd (Memᴰ.not-nil j)) (onto-from xs [] i)

-- and back
pub onto-mem : (xs : List ℕ) {b : ℕ} → Memᴰ b xs → Memᴰ b (onto xs [])
onto-mem xs {b} i = mem-onto (onto xs []) (subst (λ (ys : List ℕ). Memᴰ b ys) (sym (reverse-reverse xs)) i)

-- the same as a test
pub has-onto : (b : ℕ) (xs : List ℕ) → has b (onto xs []) ≡ has b xs
has-onto b xs =
    bool-ext (has b (onto xs [])) (has b xs) (λ h. mem-has b xs (mem-onto xs (has-mem b (onto xs []) h))) (λ h. mem-has b (onto xs []) (onto-mem xs (has-mem b xs h)))

-- no block twice
onto-once : (xs acc : List ℕ) → Once xs → Once acc → Apart xs acc → Once (onto xs acc)
onto-once [] acc a b h = b
onto-once (x ∷ xs) acc a b h =
    onto-once xs (x ∷ acc) a.1 (λ k. h x (Memᴰ.head refl) k, b)
    (λ k i j. ⊎_elim (λ e. a.0 (Memᴰ.cast (sym e) i)) (λ g. h k (Memᴰ.tail i) g) (Memᴰ.cases_cons j))

onto-distinct : (xs : List ℕ) → distinct xs ≡ true → distinct (onto xs []) ≡ true
onto-distinct xs h = distinct-once (onto xs []) (onto-once xs [] (once-distinct xs h) tt (λ k i j. Memᴰ.not-nil j))

-- as a test, and onto the empty list
pub distinct-onto : (xs : List ℕ) → distinct (onto xs []) ≡ distinct xs
distinct-onto xs = bool-ext (distinct (onto xs [])) (distinct xs) (λ h. ap distinct (sym (reverse-reverse xs)) ∙ onto-distinct (onto xs []) h) (onto-distinct xs)
