-- Lists of any elements: stores and loads by index, what is left from an index on, and members.
-- Assumes nothing.
use mathlib.Core.Path.{◌≡◌, refl, sym, ap, subst, ◌∙◌}
use mathlib.Core.Logic.{◌⊎◌, inl, inr, ⊎_elim}
use mathlib.Core.List.Memᴰ
use mathlib.Core.List.{List, [], ◌∷◌, ◌++◌, append-nil, Memᴰ}
use Prim.Native.Nat.{ℕ, zero, suc, ◌+◌, ◌≤◌, ◌<◌, suc-le-suc}
use native.Mathlib.Nat.{le_of_suc-le-suc, not-suc-le-zero}
use native.Mathlib.Numerals.{add-one}
use native.Mathlib.Omega.{arith}
use lib.ListN.{length, take, drop, get_or, set, take-append-drop, drop_of_length-le}
use lib.Seq.{take-suc-set, drop-cons}

module _ {A : Type 0} where
  -- ---- by index

  -- a store at n, and one element more
  pub take-push : (l : List A) (n : ℕ) (x : A) → n < length l → take (n + 1) (set l n x) ≡ take n l ++ (x ∷ [])
  take-push l n x h = rw (add-one, take-suc-set)

  -- what is left from i on, and its first
  pub drop-next : (l : List A) (i : ℕ) (d : A) → i < length l → drop i l ≡ get_or l i d ∷ drop (i + 1) l
  drop-next l i d h = rw (add-one i) (drop-cons l i d h)

  -- a list written over whole: nothing of it is left
  pub over-all : (l r : List A) (n : ℕ) → length r ≤ n → l ++ drop n r ≡ l
  over-all l r n h = ap (λ (z : List A). l ++ z) (drop_of_length-le r h) ∙ append-nil l

  -- an element by its index is in the list
  pub at_mem : (l : List A) (i : ℕ) (d : A) → i < length l → Memᴰ (get_or l i d) l
  at_mem [] i d h = absurd (not-suc-le-zero h)
  at_mem (x ∷ l) zero d h = Memᴰ.head refl
  at_mem (x ∷ l) (suc i) d h = Memᴰ.tail (at_mem l i d (le_of_suc-le-suc h))

  -- and what is in the list has an index
  pub mem-at : (l : List A) (d : A) {x : A} → Memᴰ x l → (i : ℕ) × (i < length l) × (get_or l i d ≡ x)
  mem-at [] d m = absurd (Memᴰ.not-nil m)
  mem-at (y ∷ l) d {x} m =
      ⊎_elim (λ (e : x ≡ y). (0, omega arith, sym e)) (λ j. let r = mem-at l d j in (suc r.0, suc-le-suc r.1, r.2)) (Memᴰ.cases_cons m)

  -- ---- members

  pub no_member : (xs : List A) → ((x : A) → Memᴰ x xs → ⊥) → xs ≡ []
  no_member [] n = refl
  no_member (x ∷ xs) n = absurd (n x (Memᴰ.head refl))

  -- of a list that is the same
  pub mem-same : {xs ys : List A} → xs ≡ ys → {x : A} → Memᴰ x xs → Memᴰ x ys
  mem-same e {x} i = subst (λ (l : List A). Memᴰ x l) e i

  -- of the first n, and of what is left
  pub mem-take : (n : ℕ) (xs : List A) {x : A} → Memᴰ x (take n xs) → Memᴰ x xs
  mem-take n xs i = mem-same (take-append-drop n xs) (Memᴰ.append_left (drop n xs) i)

  pub mem-drop : (n : ℕ) (xs : List A) {x : A} → Memᴰ x (drop n xs) → Memᴰ x xs
  mem-drop n xs i = mem-same (take-append-drop n xs) (Memᴰ.append_right (take n xs) i)

  -- of a list that is cut in two
  pub mem-here : (us : List A) (x : A) (vs : List A) → Memᴰ x (us ++ (x ∷ vs))
  mem-here us x vs = Memᴰ.append_right us (Memᴰ.head refl)

  pub mem-more : (us : List A) (x : A) (vs : List A) {y : A} → Memᴰ y (us ++ vs) → Memᴰ y (us ++ (x ∷ vs))
  mem-more us x vs i =
      ⊎_elim (λ j. Memᴰ.append_left (x ∷ vs) j) (λ j. Memᴰ.append_right us (Memᴰ.tail j)) (Memᴰ.append_cases us i)

  pub mem-three : (us cs vs : List A) {y : A} → Memᴰ y (us ++ (cs ++ vs)) → Memᴰ y cs ⊎ Memᴰ y (us ++ vs)
  mem-three us cs vs i =
      ⊎_elim (λ j. inr (Memᴰ.append_left vs j)) (λ j. ⊎_elim inl (λ h. inr (Memᴰ.append_right us h)) (Memᴰ.append_cases cs j))
      (Memᴰ.append_cases us i)

  pub mem-less : (us : List A) (x : A) (vs : List A) {y : A} → Memᴰ y (us ++ (x ∷ vs)) → (y ≡ x) ⊎ Memᴰ y (us ++ vs)
  mem-less us x vs {y} i =
      ⊎_elim (λ j. inr (Memᴰ.append_left vs j))
      (λ j. ⊎_elim (λ (e : y ≡ x). inl e) (λ (h : Memᴰ y vs). inr (Memᴰ.append_right us h)) (Memᴰ.cases_cons j))
      (Memᴰ.append_cases us i)
