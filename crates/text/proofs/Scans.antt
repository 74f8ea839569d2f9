-- One turn of each loop over a line.
-- Assumes nothing.
use mathlib.Core.Path.{◌≡◌, refl, ap, sym, ◌∙◌}
use mathlib.Core.Bool.{Bool, cond, ◌&&◌}
use mathlib.Core.List.{List, [], ◌∷◌}
use Prim.Native.Nat.{ℕ, suc, ◌+◌, ◌≤◌, ◌<◌}
use native.Mathlib.Omega.{arith}
use lib.Dec.{eqb}
use lib.Pointwise.{pointwise}
use lib.ListN.{length, get_or, take, drop, drop_of_length-le}
use lib.Seq.{drop-drop}
use borrow.Author.Tests.{eq-eqb, ne_eqb}
use Rattle.octets.specs.Lists.{same_list}
use Rattle.octets.proofs.Lists.{drop-next}
use Rattle.text.specs.Reading.{front, behind, step, value}
use Rattle.text.proofs.Words.{front-take, behind-drop}

-- ---- to the end of a word

module _ (s : List ℕ) (i : ℕ) where
  pub scan-stop : i < length s → get_or s i 0 ≡ 32 → i ≡ i + length (front (drop i s))
  scan-stop h e =
      let z : length (front (drop i s)) ≡ 0 =
      ap (λ (l : List ℕ). length (front l)) (drop-next s i 0 h)
      ∙ ap (λ (b : Bool). length (cond b [] (get_or s i 0 ∷ front (drop (i + 1) s)))) (eq-eqb 32 (get_or s i 0) (sym e)) in
      omega arith

  pub scan-next : i < length s → (get_or s i 0 ≡ 32 → ⊥) → i + 1 + length (front (drop (i + 1) s)) ≡ i + length (front (drop i s))
  scan-next h e =
      let z : length (front (drop i s)) ≡ suc (length (front (drop (i + 1) s))) =
      ap (λ (l : List ℕ). length (front l)) (drop-next s i 0 h)
      ∙ ap (λ (b : Bool). length (cond b [] (get_or s i 0 ∷ front (drop (i + 1) s)))) (ne_eqb 32 (get_or s i 0) (λ g. e (sym g))) in
      omega arith

  pub scan-end : length s ≤ i → i ≡ i + length (front (drop i s))
  scan-end h = rw (drop_of_length-le s {i = i} h) (omega arith)

-- ---- the digits of a number

pub value-next : (w : List ℕ) (i n : ℕ) → i < length w → value (step n (get_or w i 0)) (drop (i + 1) w) ≡ value n (drop i w)
value-next w i n h = sym (ap (value n) (drop-next w i 0 h))

pub value-end : (w : List ℕ) (i n : ℕ) → length w ≤ i → n ≡ value n (drop i w)
value-end w i n h = rw (drop_of_length-le w {i = i} h)

-- ---- the comparison

pub pointwise-same : (a b : List ℕ) → pointwise eqb a b ≡ same_list a b
pointwise-same [] [] = refl
pointwise-same [] (y ∷ ys) = refl
pointwise-same (x ∷ xs) [] = refl
pointwise-same (x ∷ xs) (y ∷ ys) = ap (λ (t : Bool). eqb x y && t) (pointwise-same xs ys)

-- ---- a word as it lies in a line

pub word_in : (s : List ℕ) (at e : ℕ) → e ≡ at + length (front (drop at s)) → (k : ℕ) → at + k ≡ e → take k (drop at s) ≡ front (drop at s)
word_in s at e h k g =
    let n : k ≡ length (front (drop at s)) = omega arith in
    ap (λ (j : ℕ). take j (drop at s)) n ∙ front-take (drop at s)

pub behind-in : (s : List ℕ) (at e : ℕ) → e ≡ at + length (front (drop at s)) → drop (e + 1) s ≡ behind (drop at s)
behind-in s at e h =
    let n : e + 1 ≡ at + suc (length (front (drop at s))) = omega arith in
    ap (λ (j : ℕ). drop j s) n ∙ sym (drop-drop (suc (length (front (drop at s)))) at s) ∙ behind-drop (drop at s)

-- where a word ends with the line, nothing lies behind it
pub behind-none : (s : List ℕ) (at e : ℕ) → e ≡ at + length (front (drop at s)) → length s ≤ e → drop e s ≡ behind (drop at s)
behind-none s at e h l = drop_of_length-le s {i = e} l ∙ sym (drop_of_length-le s {i = e + 1} (omega arith)) ∙ behind-in s at e h
