-- The rows of slots in a heap: one slot more, another row for the slot of the first one, and what the first row says.
-- Assumes nothing.
use mathlib.Core.Path.{◌≡◌, refl, ap, sym, subst, ◌∙◌}
use mathlib.Core.Logic.{⊎_elim}
use mathlib.Core.Bool.{Bool, true, false, cond}
use mathlib.Core.List.{List, [], ◌∷◌}
use Prim.Native.Nat.{ℕ, ◌+◌, ◌-◌, ◌≤◌, ◌<◌}
use native.Mathlib.Omega.{arith}
use lib.ListN.{length, get_or}
use lib.Dec.{eqb}
use borrow.Author.Tests.{eq-eqb, ne_eqb}
use Rattle.octets.proofs.Order.{same_or_not}
use Rattle.heap.specs.Heaps.{Became}
use Rattle.heap.specs.Held.{RowsHeld}
use Rattle.heap.proofs.Held.{held-top, held-some, held-most, held-skip, held-push, held-replace, held-pop}
use Rattle.top.specs.Rows.{first_key, first_value, Hung, Lowered}

-- ---- a function changed at one place

pub put : {A : Type 0} → (ℕ → A) → ℕ → A → ℕ → A
put f s x j = cond (eqb j s) x (f j)

module _ {A : Type 0} (f : ℕ → A) (s : ℕ) (x : A) where
  pub put_same : put f s x s ≡ x
  unfolding put
  put_same = ap (λ (b : Bool). cond b x (f s)) (eq-eqb s s refl)

  pub put_other : (j : ℕ) → (j ≡ s → ⊥) → put f s x j ≡ f j
  unfolding put
  put_other j d = ap (λ (b : Bool). cond b x (f j)) (ne_eqb j s d)

  pub put-old : (n : ℕ) → s ≡ n → (j : ℕ) → j < n → put f s x j ≡ f j
  put-old n e j l = put_other j (λ z. let y : ⊥ = omega arith in y)

  -- what holds of x at s and of f elsewhere
  pub put_all : (P : ℕ → A → Type 0) → P s x → ((j : ℕ) → (j ≡ s → ⊥) → P j (f j)) → (j : ℕ) → P j (put f s x j)
  put_all P here others j =
      ⊎_elim (λ (e : j ≡ s). subst (λ (i : ℕ). P i (put f s x i)) (sym e) (subst (P s) (sym put_same) here))
      (λ (d : j ≡ s → ⊥). subst (P j) (sym (put_other j d)) (others j d))
      (same_or_not j s)

-- ---- changes

-- a row of two
two : (x : List ℕ) → length x ≡ 2 → x ≡ get_or x 0 0 ∷ get_or x 1 0 ∷ []
two [] e = let z : ⊥ = omega arith in absurd z
two (a ∷ []) e = let z : ⊥ = omega arith in absurd z
two (a ∷ b ∷ []) e = refl
two (a ∷ b ∷ c ∷ r) e = let z : ⊥ = omega arith in absurd z

module _ (h : List (List ℕ)) (m : ℕ) where
  pub hung-none : Hung h m [] h m
  hung-none = record { held = λ row row' n d kept none. held-skip row d row' kept none }

  pub hung-some : {x : List ℕ} {h' : List (List ℕ)} → length x ≡ 2 → m < length h → Became m h [] (m + 1) h' (x ∷ []) → Hung h m x h' (m + 1)
  hung-some {x} l room t = record { held = λ row row' n d kept is. held-push row d row' t kept is (two x l) room }

  pub lowered_none : {h' : List (List ℕ)} → 0 < m → Became m h (get_or h 0 [] ∷ []) (m - 1) h' [] → Lowered h m [] h' (m - 1)
  lowered_none p t = record { heap = t.heap; few = omega arith; held = λ row row' n s d l first none others. held-pop row d row' s p l first t none others }

  pub lowered-some : {x : List ℕ} {h' : List (List ℕ)} → length x ≡ 2 → 0 < m → Became m h (get_or h 0 [] ∷ []) m h' (x ∷ []) → Lowered h m x h' m
  lowered-some {x} l p t = record { heap = t.heap; few = omega arith; held = λ row row' n s d i first is others. held-replace row d row' s p i first t (two x l) is others }

pub hung-as : {h : List (List ℕ)} {m : ℕ} {x y : List ℕ} {h' : List (List ℕ)} {r : ℕ} → x ≡ y → Hung h m x h' r → Hung h m y h' r
hung-as {h} {m} {h' = h'} {r = r} e v = subst (λ (l : List ℕ). Hung h m l h' r) e v

pub lowered-as : {h : List (List ℕ)} {m : ℕ} {x y : List ℕ} {h' : List (List ℕ)} {r : ℕ} → x ≡ y → Lowered h m x h' r → Lowered h m y h' r
lowered-as {h} {m} {h' = h'} {r = r} e v = subst (λ (l : List ℕ). Lowered h m l h' r) e v

-- ---- the first row

-- the slot of the first row, and what stands there
pub record First (h : List (List ℕ)) (b : ℕ → Bool) (key value : ℕ → ℕ) (n : ℕ) : Type 0 where
  pub at : ℕ
  pub inside : at < n
  pub there : b at ≡ true
  pub key-is : first_key h ≡ key at
  pub value-is : first_value h ≡ value at
  pub row_is : cond (b at) (key at ∷ value at ∷ []) [] ≡ get_or h 0 []

module _ {h : List (List ℕ)} {m : ℕ} (b : ℕ → Bool) (key value : ℕ → ℕ) {n : ℕ} (d : RowsHeld h m (λ s. cond (b s) (key s ∷ value s ∷ []) []) n) where
  abbrev row : ℕ → List ℕ
  row s = cond (b s) (key s ∷ value s ∷ []) []

  pub first-row : 0 < m → First h b key value n
  first-row p = let t = held-top row d p in go t.0 t.1 t.2 (b t.0) refl
    where
      go : (s : ℕ) → s < n → row s ≡ get_or h 0 [] → (x : Bool) → b s ≡ x → First h b key value n
      go s l e true f =
          let r : key s ∷ value s ∷ [] ≡ get_or h 0 [] = sym (ap (λ (y : Bool). cond y (key s ∷ value s ∷ []) []) f) ∙ e in
          record { at = s; inside = l; there = f; key-is = sym (ap (λ (v : List ℕ). get_or v 0 0) r); value-is = sym (ap (λ (v : List ℕ). get_or v 1 0) r); row_is = e }
      go s l e false f = absurd (held-some row d p (sym e ∙ ap (λ (y : Bool). cond y (key s ∷ value s ∷ []) []) f))

  -- no slot's key is above the first row's
  pub first-most : (s : ℕ) → s < n → b s ≡ true → (0 < m) × (key s ≤ first_key h)
  first-most s l e = held-most row d s l (ap (λ (y : Bool). cond y (key s ∷ value s ∷ []) []) e)
