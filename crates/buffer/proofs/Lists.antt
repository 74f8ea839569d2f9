-- Lists of any elements: what a loop that stores behind them makes, and parts by index.
-- Assumes nothing.
use mathlib.Core.Path.{◌≡◌, sym, ap, ◌∙◌}
use mathlib.Core.Bool.{Bool, true, false, cond}
use mathlib.Core.List.{List, [], ◌∷◌, ◌++◌, append_assoc, append-nil, map}
use Prim.Native.Nat.{ℕ, suc, ◌+◌, ◌-◌, ◌≤◌, ◌<◌}
use native.Mathlib.Numerals.{add-one}
use native.Mathlib.Omega.{arith}
use lib.ListN.{length, take, drop, get_or, set, length-map, length-drop}
use lib.Seq.{take-suc, get_or-drop, get_or-take, length-take-le, append_snoc}
use Rattle.octets.specs.Lists.{keep}
use Rattle.octets.proofs.Tests.{keep_append}
use Rattle.octets.proofs.Lists.{take-push}

-- what owning an array of structs tells of its list's length is said of the list's image
pub length-image : (X Y : Type 0) (f : X → Y) (l : List X) (n : ℕ) → length (map f l) ≡ n → length l ≡ n
length-image X Y f l n e = sym (length-map l f) ∙ e

module _ {A : Type 0} where
  -- the first of what is left stored behind what is there
  pub stored : (arr : List A) (at : ℕ) (x : A) {m m' t : List A} → at < length arr → take at arr ++ m ≡ t → m ≡ x ∷ m' → take (at + 1) (set arr at x) ++ m' ≡ t
  stored arr at x {m} {m'} {t} h e g =
      ap (λ (z : List A). z ++ m') (take-push arr at x h) ∙ append_snoc (take at arr) x m' ∙ ap (λ (z : List A). take at arr ++ z) (sym g) ∙ e

  -- the elements from f up to i
  abbrev pub part : ℕ → ℕ → List A → List A
  part f i l = take (i - f) (drop f l)

  pub part_none : (f : ℕ) (l : List A) → part f f l ≡ []
  part_none f l = let e : f - f ≡ 0 = omega arith in rw e

  pub part-more : (f i : ℕ) (l : List A) (d : A) → f ≤ i → i < length l → part f (i + 1) l ≡ part f i l ++ (get_or l i d ∷ [])
  part-more f i l d h g =
      let e : i + 1 - f ≡ suc (i - f) = omega arith in
      let k : i - f < length (drop f l) = rw length-drop (omega arith) in
      let j : f + (i - f) ≡ i = omega arith in
      ap (λ (n : ℕ). take n (drop f l)) e
      ∙ take-suc (drop f l) (i - f) d k
      ∙ ap (λ (x : A). part f i l ++ (x ∷ [])) (get_or-drop f l (i - f) d ∙ ap (λ (n : ℕ). get_or l n d) j)

  -- a loop that stores the elements of the first n of l from f on behind o, in arr: as it begins, and a turn
  pub grown-none : (l o : List A) (f : ℕ) → o ≡ o ++ part f f l
  grown-none l o f = rw (part_none, append-nil)

  pub grown : (d : A) (l arr o : List A) (n at : ℕ) {f i : ℕ} → f ≤ i → i < n → n ≤ length l → at < length arr → take at arr ≡ o ++ part f i (take n l)
      → take (at + 1) (set arr at (get_or l i d)) ≡ o ++ part f (i + 1) (take n l)
  grown d l arr o n at {f} {i} h g nl a e =
      let tl : i < length (take n l) = rw length-take-le (omega arith) in
      take-push arr at (get_or l i d) a ∙ rw (e, append_assoc, part-more f i (take n l) d, get_or-take)

  -- a loop that stores the elements of l that pass a test: a turn at one that does, and at one that does not
  module _ (f : A → Bool) (l arr : List A) (at i : ℕ) (d : A) (h : i < length l) (e : take at arr ≡ keep f (take i l)) where
    kept : keep f (take (i + 1) l) ≡ keep f (take i l) ++ cond (f (get_or l i d)) (get_or l i d ∷ []) []
    kept = rw (add-one i, take-suc l i d h) (keep_append f (take i l) (get_or l i d ∷ []))

    pub kept-yes : at < length arr → f (get_or l i d) ≡ true → take (at + 1) (set arr at (get_or l i d)) ≡ keep f (take (i + 1) l)
    kept-yes g t = take-push arr at (get_or l i d) g ∙ ap (λ (z : List A). z ++ (get_or l i d ∷ [])) e ∙ sym (kept ∙ rw t)

    pub kept-no : f (get_or l i d) ≡ false → take at arr ≡ keep f (take (i + 1) l)
    kept-no t = e ∙ sym (kept ∙ rw t (append-nil (keep f (take i l))))
