-- The spare blocks that are left and those that were taken: together they are all, and none is in both.
-- Assumes nothing.
use mathlib.Core.Path.{◌≡◌, refl, sym, ap, ◌∙◌}
use mathlib.Core.Logic.{◌⊎◌, inl, inr, ⊎_elim}
use mathlib.Core.Bool.{true}
use mathlib.Core.List.Memᴰ
use mathlib.Core.List.{List, [], ◌∷◌, ◌++◌, Memᴰ}
use Prim.Native.Nat.{ℕ, suc, ◌+◌, ◌-◌, ◌≤◌, ◌<◌}
use native.Mathlib.Numerals.{add-one}
use native.Mathlib.Omega.{arith}
use lib.ListN.{length, take, drop, get_or, take-append-drop}
use lib.Seq.{take-take, take-suc, split_at, get_or-take, drop-append-le, length-take-le}
use Rattle.octets.specs.Lists.{distinct}
use Rattle.octets.proofs.Lists.{mem-same, mem-drop}
use Rattle.octets.proofs.Sets.{distinct-split, distinct-left}
use Rattle.spare.specs.declared.Spare.{Spare}
use Rattle.spare.specs.Spares.{spare_of, taken_of}

-- a member of a list with one number more at its end
pub last_or : (xs : List ℕ) (b z : ℕ) → Memᴰ z (xs ++ (b ∷ [])) → Memᴰ z xs ⊎ (z ≡ b)
last_or xs b z i = ⊎_elim inl (λ j. inr (Memᴰ.eq_of_singleton j)) (Memᴰ.append_cases xs i)

-- ---- parts of a list

parts : (l : List ℕ) (a n : ℕ) → a ≤ n → take n l ≡ take a l ++ drop a (take n l)
parts l a n h = sym (take-append-drop a (take n l)) ∙ ap (λ (x : List ℕ). x ++ drop a (take n l)) (take-take a n l h)

pub between_more : (l : List ℕ) (a i d : ℕ) → a ≤ i → i < length l → drop a (take (i + 1) l) ≡ drop a (take i l) ++ (get_or l i d ∷ [])
between_more l a i d h g =
    let e : a ≤ length (take i l) = omega (arith, length-take-le i l (omega arith)) in
    rw (add-one i) (ap (drop a) (take-suc l i d g) ∙ drop-append-le a (take i l) (get_or l i d ∷ []) e)

-- the number at i is between a and n
pub between-at : (l : List ℕ) (a i n d : ℕ) → a ≤ i → i < n → n ≤ length l → Memᴰ (get_or l i d) (drop a (take n l))
between-at l a i n d h g k =
    let w : i < length (take n l) = omega (arith, length-take-le n l k) in
    let f : List ℕ = take i (take n l) in
    let q : a ≤ length f = omega (arith, length-take-le i (take n l) (omega arith)) in
    mem-same (sym (ap (drop a) (split_at (take n l) i d w) ∙ drop-append-le a f (get_or (take n l) i d ∷ drop (suc i) (take n l)) q))
    (Memᴰ.append_right (drop a f) (Memᴰ.head (sym (get_or-take n l i d g))))

-- ---- spare blocks

taken-rest : (s : Spare) (left : ℕ) → left ≤ s.n → spare_of s s.n ≡ spare_of s left ++ taken_of s left
taken-rest s left h = parts s.blocks left s.n h

-- what was taken was spare
pub taken-spare : (s : Spare) (left : ℕ) (z : ℕ) → Memᴰ z (taken_of s left) → Memᴰ z (spare_of s s.n)
taken-spare s left z i = mem-drop left (spare_of s s.n) i

pub spare-less : (s : Spare) (a b : ℕ) → a ≤ b → (z : ℕ) → Memᴰ z (spare_of s a) → Memᴰ z (spare_of s b)
spare-less s a b h z i = mem-same (sym (parts s.blocks a b h)) (Memᴰ.append_left (drop a (spare_of s b)) i)

module _ (s : Spare) (left : ℕ) (h : left ≤ s.n) (once : distinct (spare_of s s.n) ≡ true) where
  pub taken_is : (z : ℕ) → Memᴰ z (spare_of s s.n) → (Memᴰ z (spare_of s left) → ⊥) → Memᴰ z (taken_of s left)
  taken_is z i d = ⊎_elim (λ j. absurd (d j)) (λ j. j) (Memᴰ.append_cases (spare_of s left) (mem-same (taken-rest s left h) i))

  pub taken_not : (z : ℕ) → Memᴰ z (taken_of s left) → Memᴰ z (spare_of s s.n) × (Memᴰ z (spare_of s left) → ⊥)
  taken_not z i =
      (taken-spare s left z i, λ j. (distinct-split (spare_of s left) (taken_of s left) (ap distinct (sym (taken-rest s left h)) ∙ once)).off z j i)

  -- the spare blocks that are left, none twice
  left-once : distinct (spare_of s left) ≡ true
  left-once = distinct-left (spare_of s left) (taken_of s left) (ap distinct (sym (taken-rest s left h)) ∙ once)

-- the last of the blocks that are left is taken
module _ (s : Spare) (left b : ℕ) (some : 0 < left) (h : left ≤ s.n) (once : distinct (spare_of s s.n) ≡ true)
    (e : spare_of s left ≡ spare_of s (left - 1) ++ (b ∷ [])) where
  pub last-new : Memᴰ b (spare_of s left) × (Memᴰ b (spare_of s (left - 1)) → ⊥)
  last-new = (
    mem-same (sym e) (Memᴰ.append_right (spare_of s (left - 1)) (Memᴰ.head refl)),
    λ i. (distinct-split (spare_of s (left - 1)) (b ∷ []) (ap distinct (sym e) ∙ left-once s left h once)).off b i (Memᴰ.head refl),
  )

  pub spare-step : (z : ℕ) → Memᴰ z (spare_of s left) → Memᴰ z (spare_of s (left - 1)) ⊎ (z ≡ b)
  spare-step z i = last_or (spare_of s (left - 1)) b z (mem-same e i)

-- the last of the first `left`
pub spare-last : (s : Spare) (left : ℕ) → length s.blocks ≡ 8 → 0 < left → left ≤ 8 → spare_of s left ≡ spare_of s (left - 1) ++ (get_or s.blocks (left - 1) 0 ∷ [])
spare-last s left long some most =
    let e : left ≡ suc (left - 1) = omega arith in
    ap (λ (k : ℕ). take k s.blocks) e ∙ take-suc s.blocks (left - 1) 0 (omega arith)
