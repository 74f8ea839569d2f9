-- The bits of a map from one on are clear: the rest of its byte and the bytes after it are zero.
-- Assumes nothing.
use mathlib.Core.Path.{◌≡◌, refl, sym, ap, subst, ◌∙◌}
use mathlib.Core.Logic.{⊎_elim}
use mathlib.Core.Bool.{Bool, true, false, not, ◌&&◌}
use mathlib.Core.List.{List, [], ◌∷◌}
use Prim.Native.Nat.{ℕ, zero, suc, ◌+◌, ◌-◌, ◌*◌, ◌/◌, ◌%◌, ◌^◌, ◌≤◌, ◌<◌}
use native.Mathlib.Nat.{pow-suc, div-eq_of_lt, div-div-eq-div-mul, zero-div, add-zero}
use native.Mathlib.Omega.{arith}
use lib.Dec.{eqb}
use lib.ListN.{length, get_or, drop, length-drop}
use lib.Seq.{get_or-drop}
use borrow.Author.Tests.{not-true, eqb-false, eqb-true, eq-eqb}
use Rattle.octets.specs.Lists.{every, up_to}
use Rattle.octets.specs.Bitmap.{bit}
use Rattle.octets.proofs.Order.{same_or_not}
use Rattle.octets.proofs.Tests.{and_left, and_right, and_both, every-at, every-mem, bool-ext}
use Rattle.octets.proofs.UpTo.{up_to-in, every-up_to}
use Rattle.block.specs.Checks.{is_zero}

-- ---- a test of the elements from one on, by their indices

every-from : (f : ℕ → Bool) (a : ℕ) (m : List ℕ) → ((q : ℕ) → a ≤ q → q < length m → f (get_or m q 0) ≡ true) → every f (drop a m) ≡ true
every-from f zero [] h = refl
every-from f zero (x ∷ xs) h =
    and_both _ _ (h 0 (omega arith) (omega arith)) (every-from f zero xs (λ q a b. h (suc q) (omega arith) (omega arith)))
every-from f (suc a) [] h = refl
every-from f (suc a) (x ∷ xs) h = every-from f a xs (λ q l b. h (suc q) (omega arith) (omega arith))

from-every : (f : ℕ → Bool) (a : ℕ) (m : List ℕ) (q : ℕ) → every f (drop a m) ≡ true → a ≤ q → q < length m → f (get_or m q 0) ≡ true
from-every f a m q h l g =
    let e : a + (q - a) ≡ q = omega arith in
    let d : get_or (drop a m) (q - a) 0 ≡ get_or m q 0 = get_or-drop a m (q - a) 0 ∙ ap (λ (k : ℕ). get_or m k 0) e in
    sym (ap f d) ∙ every-at f (drop a m) 0 h (q - a) (rw length-drop (omega arith))

-- ---- bits

-- a number of r + n digits whose last n are zero
high_zero : (n r x : ℕ) → x < 2 ^ (r + n) → ((j : ℕ) → r ≤ j → j < r + n → x / 2 ^ j % 2 ≡ 0) → x / 2 ^ r ≡ 0
high_zero zero r x h f = div-eq_of_lt (rw add-zero at h)
high_zero (suc n) r x h f =
    let g : r + suc n ≡ suc r + n = omega arith in
    let up : x / 2 ^ suc r ≡ 0 = high_zero n (suc r) x (rw g at h) (λ j a b. f j (omega arith) (omega arith)) in
    let e : x / 2 ^ suc r ≡ x / 2 ^ r / 2 = ap (λ (k : ℕ). x / k) (pow-suc 2 r) ∙ sym (div-div-eq-div-mul x (2 ^ r) 2) in
    let z : x / 2 ^ r % 2 ≡ 0 = f r (omega arith) (omega arith) in
    omega arith

-- and the other way
low-zero : (n r x : ℕ) → x / 2 ^ r ≡ 0 → x / 2 ^ (r + n) ≡ 0
low-zero zero r x h = rw add-zero h
low-zero (suc n) r x h =
    let g : r + suc n ≡ suc r + n = omega arith in
    let e : x / 2 ^ suc r ≡ x / 2 ^ r / 2 = ap (λ (k : ℕ). x / k) (pow-suc 2 r) ∙ sym (div-div-eq-div-mul x (2 ^ r) 2) in
    rw g (low-zero n (suc r) x (omega arith))

module _ (m : List ℕ) where
  off : (n q j : ℕ) → n / 8 ≡ q → n % 8 ≡ j → not (bit m n) ≡ true → get_or m q 0 / 2 ^ j % 2 ≡ 0
  unfolding bit
  off n q j d r h =
      let x : ℕ = get_or m q 0 / 2 ^ j in
      let e : eqb (x % 2) 1 ≡ false = rw (d, r) at (not-true (bit m n) h) in
      let n1 : x % 2 ≡ 1 → ⊥ = eqb-false (x % 2) 1 e in
      omega arith

  clear : (n q j : ℕ) → n / 8 ≡ q → n % 8 ≡ j → get_or m q 0 / 2 ^ j ≡ 0 → not (bit m n) ≡ true
  unfolding bit
  clear n q j d r h = rw (d, r, h)

  abbrev none : ℕ → Bool
  none b = every (λ k. not (bit m k)) (up_to b (4096 - b))

  abbrev quick : ℕ → Bool
  quick b = eqb (get_or m (b / 8) 0 / 2 ^ (b % 8)) 0 && every is_zero (drop (b / 8 + 1) m)

  pub clear_none : (b : ℕ) → 512 ≤ b / 8 → true ≡ every (λ k. not (bit m k)) (up_to b (4096 - b))
  clear_none b h = let e : 4096 - b ≡ 0 = omega arith in rw e

  module _ (bytes : (q : ℕ) → get_or m q 0 < 256) (long : length m ≡ 512) (b : ℕ) (h : b < 4096) where
    at : none b ≡ true → (k : ℕ) → b ≤ k → k < 4096 → not (bit m k) ≡ true
    at p k l g = every-mem (λ k. not (bit m k)) (up_to b (4096 - b)) p (up_to-in b (4096 - b) k l (omega arith))

    -- the digits from r on of the byte q
    byte : none b ≡ true → (q r : ℕ) → q < 512 → r < 8 → b ≤ 8 * q + r → get_or m q 0 / 2 ^ r ≡ 0
    byte p q r l g e =
        let w : r + (8 - r) ≡ 8 = omega arith in
        high_zero (8 - r) r (get_or m q 0) (rw w (bytes q))
        (λ j a c. off (8 * q + j) q j (omega arith) (omega arith) (at p (8 * q + j) (omega arith) (omega arith)))

    quick-of : none b ≡ true → quick b ≡ true
    quick-of p =
        and_both _ _ (eq-eqb _ _ (byte p (b / 8) (b % 8) (omega arith) (omega arith) (omega arith)))
        (every-from is_zero (b / 8 + 1) m (λ q l g. eq-eqb (get_or m q 0) 0 (let z : get_or m q 0 / 2 ^ 0 ≡ 0 = byte p q 0 (omega arith) (omega arith) (omega arith) in omega arith)))

    none_of : quick b ≡ true → none b ≡ true
    none_of p = every-up_to (λ k. not (bit m k)) b (4096 - b) (λ k l g. clear k (k / 8) (k % 8) refl refl (digits k l (omega arith)))
      where
        first : get_or m (b / 8) 0 / 2 ^ (b % 8) ≡ 0
        first = eqb-true _ _ (and_left (eqb (get_or m (b / 8) 0 / 2 ^ (b % 8)) 0) (every is_zero (drop (b / 8 + 1) m)) p)

        later : every is_zero (drop (b / 8 + 1) m) ≡ true
        later = and_right (eqb (get_or m (b / 8) 0 / 2 ^ (b % 8)) 0) (every is_zero (drop (b / 8 + 1) m)) p

        digits : (k : ℕ) → b ≤ k → k < 4096 → get_or m (k / 8) 0 / 2 ^ (k % 8) ≡ 0
        digits k l g =
            ⊎_elim
            (λ (e : k / 8 ≡ b / 8).
            let w : b % 8 + (k % 8 - b % 8) ≡ k % 8 = omega arith in
            rw e (subst (λ (j : ℕ). get_or m (b / 8) 0 / 2 ^ j ≡ 0) w (low-zero (k % 8 - b % 8) (b % 8) (get_or m (b / 8) 0) first)))
            (λ (e : k / 8 ≡ b / 8 → ⊥).
            let z : get_or m (k / 8) 0 ≡ 0 = eqb-true _ _ (from-every is_zero (b / 8 + 1) m (k / 8) later (omega arith) (omega arith)) in
            rw z (zero-div (2 ^ (k % 8))))
            (same_or_not (k / 8) (b / 8))

    pub clear-is : eqb (get_or m (b / 8) 0 / 2 ^ (b % 8)) 0 && every is_zero (drop (b / 8 + 1) m) ≡ every (λ k. not (bit m k)) (up_to b (4096 - b))
    clear-is = bool-ext (quick b) (none b) none_of quick-of
