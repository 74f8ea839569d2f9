-- Binary digits of numbers: of a union, of a power, of a complement; the lowest set digit; the count of ones.
-- Assumes nothing.
use mathlib.Core.Path.{◌≡◌, refl, sym, ap, ◌∙◌}
use mathlib.Core.Logic.{◌≢◌}
use Prim.Native.Nat.{ℕ, zero, suc, ◌+◌, ◌-◌, ◌*◌, ◌/◌, ◌%◌, ◌^◌, ◌<◌}
use native.Mathlib.Nat.{pow-suc}
use native.Mathlib.Numerals.{one-add}
use native.Mathlib.Omega.{arith}
use lib.Pow.{shr-shr}
use lib.Bits.{bit_or, or_shr, or_mod}
use lib.Count.{ones, ones-le, ones_step, count_trailing_zeros, under}

-- the digit of value 2 ^ j
unfoldable pub digit_at : ℕ → ℕ → ℕ
digit_at x j = x / 2 ^ j % 2

pub digit-zero : (x : ℕ) → digit_at x 0 ≡ x % 2
unfolding digit_at
digit-zero x = omega arith

pub digit-suc : (x j : ℕ) → digit_at x (suc j) ≡ digit_at (x / 2) j
unfolding digit_at
digit-suc x j = ap (λ (e : ℕ). x / 2 ^ e % 2) (sym (one-add j)) ∙ ap (λ (q : ℕ). q % 2) (sym (shr-shr x 1 j))

pub digit_lt : (x j : ℕ) → digit_at x j < 2
unfolding digit_at
digit_lt x j = omega arith

pub digit-of-zero : (j : ℕ) → digit_at 0 j ≡ 0
digit-of-zero zero = digit-zero 0
digit-of-zero (suc j) = digit-suc 0 j ∙ digit-of-zero j

pub digit_or : (x y j : ℕ) → digit_at (bit_or x y) j ≡ bit_or (digit_at x j) (digit_at y j)
unfolding digit_at
digit_or x y j = ap (λ (q : ℕ). q % 2) (or_shr x y j) ∙ or_mod (x / 2 ^ j) (y / 2 ^ j) 1

half_pow : (i : ℕ) → 2 ^ suc i / 2 ≡ 2 ^ i
half_pow i = rw pow-suc (omega arith)

even-pow : (i : ℕ) → 2 ^ suc i % 2 ≡ 0
even-pow i = rw pow-suc (omega arith)

pub digit-pow-same : (j : ℕ) → digit_at (2 ^ j) j ≡ 1
digit-pow-same zero = digit-zero 1
digit-pow-same (suc j) = digit-suc (2 ^ suc j) j ∙ ap (λ (q : ℕ). digit_at q j) (half_pow j) ∙ digit-pow-same j

pub digit-pow-other : (i j : ℕ) → j ≢ i → digit_at (2 ^ i) j ≡ 0
digit-pow-other zero zero h = absurd (h refl)
digit-pow-other zero (suc j) h = digit-suc 1 j ∙ digit-of-zero j
digit-pow-other (suc i) zero h = digit-zero (2 ^ suc i) ∙ even-pow i
digit-pow-other (suc i) (suc j) h =
    digit-suc (2 ^ suc i) j ∙ ap (λ (q : ℕ). digit_at q j) (half_pow i) ∙ digit-pow-other i j (λ e. h (ap suc e))

-- the digits of the complement
pub complement : (k x j : ℕ) → x < 2 ^ k → j < k → digit_at (2 ^ k - 1 - x) j + digit_at x j ≡ 1
complement zero x j h l = absurd (omega arith)
complement (suc k) x zero h l =
    let p : 2 ^ suc k ≡ 2 ^ k * 2 = pow-suc 2 k in
    rw (digit-zero (2 ^ suc k - 1 - x), digit-zero x) (omega arith)
complement (suc k) x (suc j) h l =
    let p : 2 ^ suc k ≡ 2 ^ k * 2 = pow-suc 2 k in
    let e : (2 ^ suc k - 1 - x) / 2 ≡ 2 ^ k - 1 - x / 2 = omega arith in
    rw (digit-suc (2 ^ suc k - 1 - x) j, digit-suc x j, e) (complement k (x / 2) j (omega arith) (omega arith))

-- the lowest set digit of a number that is not 0
pub record Lowest (k x t : ℕ) : Type 0 where
  pub within : t < k
  pub set : digit_at x t ≡ 1
  pub zeros : (j : ℕ) → j < t → digit_at x j ≡ 0

lowest_by : (k x t d : ℕ) → x % 2 ≡ d → 0 < x → x < 2 ^ suc k → (0 < x / 2 → x / 2 < 2 ^ k → Lowest k (x / 2) t) → Lowest (suc k) x (under d t)
lowest_by k x t (suc d) e h l f =
    record { within = omega arith; set = digit-zero x ∙ omega arith; zeros = λ j q. absurd (omega arith) }
lowest_by k x t zero e h l f =
    let p : 2 ^ suc k ≡ 2 ^ k * 2 = pow-suc 2 k in
    let r : Lowest k (x / 2) t = f (omega arith) (omega arith) in
    record { within = omega (arith, r.within); set = digit-suc x t ∙ r.set; zeros = below r }
  where
    below : Lowest k (x / 2) t → (j : ℕ) → j < suc t → digit_at x j ≡ 0
    below r zero q = digit-zero x ∙ e
    below r (suc j) q = digit-suc x j ∙ r.zeros j (omega arith)

pub lowest : (k x : ℕ) → 0 < x → x < 2 ^ k → Lowest k x (count_trailing_zeros k x)
unfolding count_trailing_zeros
lowest zero x h l = absurd (omega arith)
lowest (suc k) x h l = lowest_by k x (count_trailing_zeros k (x / 2)) (x % 2) refl h l (lowest k (x / 2))

-- the sum of the k lowest digits
unfoldable pub sum_to : ℕ → ℕ → ℕ
sum_to zero x = 0
sum_to (suc k) x = sum_to k x + digit_at x k

sum-front : (k x : ℕ) → sum_to (suc k) x ≡ x % 2 + sum_to k (x / 2)
unfolding sum_to
sum-front zero x = omega (arith, digit-zero x)
sum-front (suc k) x = omega (arith, sum-front k x, digit-suc x k)

-- a number of k digits is counted by them
pub ones-sum : (k x : ℕ) → x < 2 ^ k → sum_to k x ≡ ones x
unfolding sum_to
ones-sum zero x h = omega (arith, ones-le 0 x h)
ones-sum (suc k) x h =
    let p : 2 ^ suc k ≡ 2 ^ k * 2 = pow-suc 2 k in
    omega (arith, sum-front k x, ones-sum k (x / 2) (omega arith), ones_step x)
