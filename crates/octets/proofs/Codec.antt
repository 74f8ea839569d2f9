-- Records one after the other, as bytes: for any function E that joins the w bytes `enc x` of each element, how long it is, how it is written record by record, and that it is read back.
-- Assumes nothing.
use mathlib.Core.Path.{◌≡◌, refl, sym, ap, ap₂, ◌∙◌}
use mathlib.Core.Bool.{Bool, true}
use mathlib.Core.List.{List, [], ◌∷◌, ◌++◌, append_assoc, append-nil}
use Prim.Native.Nat.{ℕ, zero, suc, ◌+◌, ◌*◌, ◌≤◌, ◌<◌}
use native.Mathlib.Nat.{mul-suc, mul-zero}
use native.Mathlib.Numerals.{add-one}
use native.Mathlib.Omega.{arith}
use lib.ListN.{length, take, drop, get_or, length-append}
use lib.Seq.{take-suc, take-add, drop-drop}
use Rattle.octets.specs.Bytes.{put_bytes}
use Rattle.octets.specs.Lists.{every, records}
use Rattle.octets.proofs.Tests.{and_left, and_right}
use Rattle.octets.proofs.Parts.{bytes-behind}

module _ {A : Type 0} (E : List A → List ℕ) (enc : A → List ℕ) (w : ℕ) (nil : E [] ≡ []) (cons : (x : A) (xs : List A) → E (x ∷ xs) ≡ enc x ++ E xs) where
  pub coded-append : (xs ys : List A) → E (xs ++ ys) ≡ E xs ++ E ys
  coded-append [] ys = ap (λ (l : List ℕ). l ++ E ys) (sym nil)
  coded-append (x ∷ xs) ys =
      cons x (xs ++ ys) ∙ ap (λ (l : List ℕ). enc x ++ l) (coded-append xs ys) ∙ sym (append_assoc (enc x) (E xs) (E ys))
      ∙ ap (λ (l : List ℕ). l ++ E ys) (sym (cons x xs))

  pub length-coded : ((x : A) → length (enc x) ≡ w) → (xs : List A) → length (E xs) ≡ w * length xs
  length-coded wide [] = ap length nil ∙ sym (mul-zero w)
  length-coded wide (x ∷ xs) =
      ap length (cons x xs) ∙ length-append (enc x) (E xs) ∙ omega (arith, wide x, length-coded wide xs, mul-suc w (length xs))

  pub coded-more : (l : List A) (i : ℕ) (d : A) → i < length l → E (take (i + 1) l) ≡ E (take i l) ++ enc (get_or l i d)
  coded-more l i d h =
      ap E (rw (add-one, take-suc l i d)) ∙ coded-append (take i l) (get_or l i d ∷ [])
      ∙ ap (λ (z : List ℕ). E (take i l) ++ z) (cons (get_or l i d) [] ∙ ap (λ (z : List ℕ). enc (get_or l i d) ++ z) nil ∙ append-nil (enc (get_or l i d)))

  -- record i behind other bytes, a, and the first i
  pub record-behind : (s a : List ℕ) {t u : List ℕ} (at j : ℕ) (l : List A) (i : ℕ) (d : A) → i < length l → at + length (a ++ E (take i l)) ≡ j → j ≤ length s
      → t ≡ put_bytes s at (a ++ E (take i l)) → u ≡ put_bytes t j (enc (get_or l i d)) → u ≡ put_bytes s at (a ++ E (take (i + 1) l))
  record-behind s a at j l i d h m k p q =
      bytes-behind s (a ++ E (take i l)) (enc (get_or l i d)) at j m k p q
      ∙ ap (put_bytes s at) (append_assoc a (E (take i l)) (enc (get_or l i d)) ∙ ap (λ (z : List ℕ). a ++ z) (sym (coded-more l i d h)))

  -- the records of such bytes are the elements
  pub coded-back : (f : List ℕ → ℕ → A) (good : A → Bool) → ((x : A) → length (enc x) ≡ w)
      → ((x : A) → good x ≡ true → (a b : List ℕ) → f (a ++ (enc x ++ b)) (length a) ≡ x)
      → (xs : List A) → every good xs ≡ true → (a b : List ℕ) → records (f (a ++ (E xs ++ b))) w (length xs) (length a) ≡ xs
  coded-back f good wide back [] h a b = refl
  coded-back f good wide back (x ∷ xs) h a b =
      let e : a ++ (E (x ∷ xs) ++ b) ≡ a ++ (enc x ++ (E xs ++ b)) =
      ap (λ (l : List ℕ). a ++ (l ++ b)) (cons x xs) ∙ ap (λ (l : List ℕ). a ++ l) (append_assoc (enc x) (E xs) b)
      in
      let g : a ++ (enc x ++ (E xs ++ b)) ≡ a ++ enc x ++ (E xs ++ b) = sym (append_assoc a (enc x) (E xs ++ b)) in
      let n : length a + w ≡ length (a ++ enc x) = sym (length-append a (enc x) ∙ ap (λ (k : ℕ). length a + k) (wide x)) in
      ap₂ (λ (y : A) (l : List A). y ∷ l)
      (ap (λ (s : List ℕ). f s (length a)) e ∙ back x (and_left (good x) (every good xs) h) a (E xs ++ b))
      (ap₂ (λ (s : List ℕ) (k : ℕ). records (f s) w (length xs) k) (e ∙ g) n
      ∙ coded-back f good wide back xs (and_right (good x) (every good xs) h) (a ++ enc x) b)

  -- the bytes of the records of a list are those of the list
  pub coded-bytes : (f : List ℕ → ℕ → A) (s : List ℕ) (n at : ℕ) → ((i : ℕ) → i < n → enc (f s (at + w * i)) ≡ take w (drop (at + w * i) s))
      → E (records (f s) w n at) ≡ take (w * n) (drop at s)
  coded-bytes f s zero at h = let z : w * 0 ≡ 0 = mul-zero w in nil ∙ rw z
  coded-bytes f s (suc n) at h =
      let z : at + w * 0 ≡ at = omega (arith, mul-zero w) in
      let m : w + w * n ≡ w * suc n = omega (arith, mul-suc w n) in
      cons (f s at) (records (f s) w n (at + w))
      ∙ ap₂ (λ (x y : List ℕ). x ++ y) (rw z at (h 0 (omega arith)))
      (coded-bytes f s n (at + w)
      (λ i l. let e : at + w + w * i ≡ at + w * suc i = omega (arith, mul-suc w i) in rw e (h (suc i) (omega arith)))
      ∙ ap (take (w * n)) (sym (drop-drop w at s)))
      ∙ sym (take-add w (w * n) (drop at s))
      ∙ ap (λ (k : ℕ). take k (drop at s)) m
