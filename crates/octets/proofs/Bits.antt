-- Maps of blocks: a bit set, the lowest clear bit, and the count of ones.
-- Assumes nothing.
use mathlib.Core.Path.{◌≡◌, refl, sym, ap, ◌∙◌}
use mathlib.Core.Logic.{◌≢◌, ⊎_elim}
use mathlib.Core.Bool.{Bool, true, false, cond}
use mathlib.Core.List.{List, [], ◌∷◌}
use Prim.Native.Nat.{ℕ, zero, suc, ◌+◌, ◌*◌, ◌-◌, ◌/◌, ◌%◌, ◌^◌, ◌≤◌, ◌<◌}
use native.Mathlib.Nat.{add-zero, add-suc}
use native.Mathlib.Decide.{ℕ_discrete, dec_le}
use native.Mathlib.Omega.{arith}
use lib.ListN.{length, get_or, set, replicate, length-set, length-append, get_or-eq_default}
use lib.Pow.{shl_exact}
use lib.Seq.{get_or-set_same, get_or-set_other}
use lib.Dec.{eqb}
use lib.Bits.{bit_or, or_zero_r}
use lib.Count.{ones, count_trailing_zeros}
use borrow.Author.Tests.{eq-eqb, ne_eqb}
use Rattle.octets.specs.Lists.{keep, up_to}
use Rattle.octets.specs.Bitmap.{bit, set_bit, ones_below, FirstClear, digit}
use Rattle.octets.proofs.Order.{same_or_not, less-or-not}
use Rattle.octets.proofs.Tests.{keep_append, keep-length}
use Rattle.octets.proofs.UpTo.{up_to-more, up_to-length}
use Rattle.octets.proofs.Digits.{digit_at, digit_lt, digit_or, digit-of-zero, digit-pow-same, digit-pow-other, complement, Lowest, lowest, sum_to, ones-sum}

-- ---- a bit and its byte

-- maps that agree in the byte of a bit agree in the bit
bit-cong : (a b : List ℕ) (n : ℕ) → get_or a (n / 8) 0 ≡ get_or b (n / 8) 0 → bit a n ≡ bit b n
unfolding bit
bit-cong a b n e = ap (λ (x : ℕ). eqb (x / 2 ^ (n % 8) % 2) 1) e

-- bits past the end are clear
pub bit_past : (m : List ℕ) (n : ℕ) → 8 * length m ≤ n → bit m n ≡ false
unfolding bit digit_at
bit_past m n h =
    ap (λ (x : ℕ). eqb (digit_at x (n % 8)) 1) (get_or-eq_default m 0 (omega arith)) ∙ ap (λ (x : ℕ). eqb x 1) (digit-of-zero (n % 8))

-- in a map of zeros every bit is clear
pub zeros-at : (n i : ℕ) → ◌≡◌ {A = ℕ} (get_or (replicate n 0) i 0) 0
zeros-at zero i = refl
zeros-at (suc n) zero = refl
zeros-at (suc n) (suc i) = zeros-at n i

pub bit-zeros : (n k : ℕ) → bit (replicate n 0) k ≡ false
bit-zeros n k = bit-cong (replicate n 0) [] k (zeros-at n (k / 8)) ∙ bit_past [] k (omega arith)

byte-set : (m : List ℕ) (k i j : ℕ) → k / 8 ≡ i → k % 8 ≡ j → digit_at (get_or m i 0) j ≡ 1 → bit m k ≡ true
unfolding bit digit_at
byte-set m k i j p q e = eq-eqb (digit_at (get_or m (k / 8) 0) (k % 8)) 1 (rw (p, q) e)

byte-clear : (m : List ℕ) (k i j : ℕ) → k / 8 ≡ i → k % 8 ≡ j → digit_at (get_or m i 0) j ≡ 0 → bit m k ≡ false
unfolding bit digit_at
byte-clear m k i j p q e =
    let z : digit_at (get_or m (k / 8) 0) (k % 8) ≡ 0 = rw (p, q) e in
    ne_eqb (digit_at (get_or m (k / 8) 0) (k % 8)) 1 (λ o. omega arith)

-- a one moved up by k digits, in a byte
pub shl_one : (k : ℕ) → k < 8 → (1 * 2 ^ k) % 256 ≡ 2 ^ k
shl_one k h = shl_exact 1 k 8 (omega arith) (omega arith) ∙ omega arith

-- the byte of n replaced by one that differs in the digit of n only: the other bits are as they were
module _ (m : List ℕ) (n x : ℕ) (h : n / 8 < length m) (e : (j : ℕ) → j < 8 → j ≢ n % 8 → digit_at x j ≡ digit_at (get_or m (n / 8) 0) j) where
  other-bits : (k : ℕ) → k ≢ n → bit (set m (n / 8) x) k ≡ bit m k
  unfolding bit digit_at
  other-bits k ne = by (ℕ_discrete (k / 8) (n / 8))
    where
      by : Dec (k / 8 ≡ n / 8) → eqb (digit_at (get_or (set m (n / 8) x) (k / 8) 0) (k % 8)) 1 ≡ eqb (digit_at (get_or m (k / 8) 0) (k % 8)) 1
      by (no q) = ap (λ (b : ℕ). eqb (digit_at b (k % 8)) 1) (get_or-set_other m (n / 8) (k / 8) x 0 q)
      by (yes q) =
          rw q
          (ap (λ (b : ℕ). eqb b 1) (ap (λ (b : ℕ). digit_at b (k % 8)) (get_or-set_same m (n / 8) x 0 h) ∙ e (k % 8) (omega arith) (λ g. ne (omega arith))))

-- ---- a bit that is set

or-one : (d : ℕ) → d < 2 → bit_or d 1 ≡ 1
or-one zero h = refl
or-one (suc zero) h = refl
or-one (suc (suc d)) h = absurd (omega arith)

pub set_bit-length : (m : List ℕ) (n : ℕ) → length (set_bit m n) ≡ length m
unfolding set_bit
set_bit-length m n = length-set m (n / 8) (bit_or (get_or m (n / 8) 0) (2 ^ (n % 8)))

pub set_bit-same : (m : List ℕ) (n : ℕ) → n / 8 < length m → bit (set_bit m n) n ≡ true
unfolding set_bit
set_bit-same m n h =
    let x : ℕ = get_or m (n / 8) 0 in
    let y : ℕ = bit_or x (2 ^ (n % 8)) in
    byte-set (set m (n / 8) y) n (n / 8) (n % 8) refl refl
    (ap (λ (b : ℕ). digit_at b (n % 8)) (get_or-set_same m (n / 8) y 0 h)
    ∙ digit_or x (2 ^ (n % 8)) (n % 8) ∙ ap (bit_or (digit_at x (n % 8))) (digit-pow-same (n % 8)) ∙ or-one (digit_at x (n % 8)) (digit_lt x (n % 8)))

pub set_bit-other : (m : List ℕ) (n k : ℕ) → n / 8 < length m → k ≢ n → bit (set_bit m n) k ≡ bit m k
unfolding set_bit
set_bit-other m n k h ne =
    let x : ℕ = get_or m (n / 8) 0 in
    other-bits m n (bit_or x (2 ^ (n % 8))) h
    (λ j l q. digit_or x (2 ^ (n % 8)) j ∙ ap (bit_or (digit_at x j)) (digit-pow-other (n % 8) j q) ∙ or_zero_r (digit_at x j)) k ne

-- ---- the lowest bit that is clear

-- all bits of a full byte are set
full : (m : List ℕ) (k : ℕ) → get_or m (k / 8) 0 ≡ 255 → bit m k ≡ true
full m k e =
    byte-set m k (k / 8) (k % 8) refl refl
    (ap (λ (b : ℕ). digit_at b (k % 8)) e ∙ omega (arith, complement 8 255 (k % 8) (omega arith) (omega arith), digit-of-zero (k % 8)))

-- full bytes up to i, and a byte with a clear bit there
pub first-in : (m : List ℕ) (i : ℕ) → ((q : ℕ) → q < i → get_or m q 0 ≡ 255) → get_or m i 0 < 255
    → FirstClear m (i * 8 + count_trailing_zeros 8 (255 - get_or m i 0))
first-in m i f h = at (count_trailing_zeros 8 (255 - get_or m i 0)) (lowest 8 (255 - get_or m i 0) (omega arith) (omega arith))
  where
    turned : (j : ℕ) → j < 8 → digit_at (255 - get_or m i 0) j + digit_at (get_or m i 0) j ≡ 1
    turned j l = complement 8 (get_or m i 0) j (omega arith) l

    at : (t : ℕ) → Lowest 8 (255 - get_or m i 0) t → FirstClear m (i * 8 + t)
    at t l =
        let w : t < 8 = l.within in
        record {
          below = λ k q. low k q (dec_le (i * 8) k);
          clear = λ r. byte-clear m (i * 8 + t) i t (omega arith) (omega arith) (omega (arith, turned t w, l.set));
        }
      where
        low : (k : ℕ) → k < i * 8 + t → Dec (i * 8 ≤ k) → bit m k ≡ true
        low k q (no g) = full m k (f (k / 8) (omega arith))
        low k q (yes g) =
            let w : t < 8 = l.within in
            byte-set m k i (k % 8) (omega arith) refl (omega (arith, turned (k % 8) (omega arith), l.zeros (k % 8) (omega arith)))

-- full bytes up to the end
pub first-none : (m : List ℕ) → ((q : ℕ) → q < length m → get_or m q 0 ≡ 255) → FirstClear m (length m * 8)
first-none m f = record { below = λ k l. full m k (f (k / 8) (omega arith)); clear = λ l. absurd (omega arith) }

pub first-is-clear : (m : List ℕ) (r : ℕ) → FirstClear m r → bit m r ≡ false
first-is-clear m r f = ⊎_elim (λ (h : 8 * length m ≤ r). bit_past m r h) (λ (h : r < 8 * length m). f.clear h) (less-or-not (8 * length m) r)

-- ---- the count of ones

-- one bit more
pub ones-suc : (m : List ℕ) (n : ℕ) → ones_below m (suc n) ≡ ones_below m n + digit (bit m n)
unfolding ones_below
ones-suc m n =
    let e : suc n ≡ n + 1 = omega arith in
    ap (λ (k : ℕ). length (keep (bit m) (up_to 0 k))) e
    ∙ ap (λ (l : List ℕ). length (keep (bit m) l)) (sym (up_to-more 0 n 1))
    ∙ ap length (keep_append (bit m) (up_to 0 n) (up_to (0 + n) 1))
    ∙ length-append (keep (bit m) (up_to 0 n)) (keep (bit m) (up_to (0 + n) 1))
    ∙ ap (λ (k : ℕ). length (keep (bit m) (up_to 0 n)) + length (keep (bit m) (k ∷ []))) (omega arith)
    ∙ ap (λ (k : ℕ). length (keep (bit m) (up_to 0 n)) + k) (one (bit m n))
  where
    one : (b : Bool) → length (cond b (n ∷ []) []) ≡ digit b
    one true = refl
    one false = refl

pub ones_none : (m : List ℕ) → ones_below m 0 ≡ 0
unfolding ones_below
ones_none m = refl

pub ones-le-bits : (m : List ℕ) (n : ℕ) → ones_below m n ≤ n
unfolding ones_below
ones-le-bits m n = omega (arith, keep-length (bit m) (up_to 0 n), up_to-length 0 n)

-- maps with the same bits below n
ones-same : (a b : List ℕ) (n : ℕ) → ((k : ℕ) → k < n → bit a k ≡ bit b k) → ones_below a n ≡ ones_below b n
ones-same a b zero h = ones_none a ∙ sym (ones_none b)
ones-same a b (suc n) h =
    ones-suc a n ∙ rw (ones-same a b n (λ k l. h k (omega arith)), h n (omega arith)) (sym (ones-suc b n))

-- maps with the same bits but at one number, which is clear in the first and set in the second
ones-more : (a b : List ℕ) (i n : ℕ) → i < n → bit a i ≡ false → bit b i ≡ true → ((k : ℕ) → k ≢ i → bit a k ≡ bit b k) → ones_below b n ≡ suc (ones_below a n)
ones-more a b i zero l p q h = absurd (omega arith)
ones-more a b i (suc n) l p q h =
    ⊎_elim
    (λ (e : i ≡ n).
    let x : digit (bit a n) ≡ 0 = ap (λ (k : ℕ). digit (bit a k)) (sym e) ∙ ap digit p in
    let y : digit (bit b n) ≡ 1 = ap (λ (k : ℕ). digit (bit b k)) (sym e) ∙ ap digit q in
    omega (arith, ones-suc a n, ones-suc b n, ones-same a b n (λ k m. h k (λ g. omega arith))))
    (λ (d : i ≡ n → ⊥). omega (arith, ones-suc a n, ones-suc b n, ones-more a b i n (omega arith) p q h, ap digit (h n (λ g. d (sym g)))))
    (same_or_not i n)

pub ones-set_bit : (m : List ℕ) (i n : ℕ) → i < n → i / 8 < length m → bit m i ≡ false → ones_below (set_bit m i) n ≡ suc (ones_below m n)
ones-set_bit m i n l h e = ones-more m (set_bit m i) i n l e (set_bit-same m i h) (λ k d. sym (set_bit-other m i k h d))

digit-eqb : (d : ℕ) → d < 2 → digit (eqb d 1) ≡ d
digit-eqb zero h = refl
digit-eqb (suc zero) h = refl
digit-eqb (suc (suc d)) h = absurd (omega arith)

digit-in : (m : List ℕ) (i j : ℕ) → j < 8 → digit (bit m (8 * i + j)) ≡ digit_at (get_or m i 0) j
unfolding bit digit_at
digit-in m i j h =
    let p : (8 * i + j) / 8 ≡ i = omega arith in
    let q : (8 * i + j) % 8 ≡ j = omega arith in
    rw (p, q) (digit-eqb (digit_at (get_or m i 0) j) (digit_lt (get_or m i 0) j))

ones-part : (m : List ℕ) (i k : ℕ) → k ≤ 8 → ones_below m (8 * i + k) ≡ ones_below m (8 * i) + sum_to k (get_or m i 0)
unfolding sum_to
ones-part m i zero h = rw add-zero (omega arith)
ones-part m i (suc k) h =
    rw add-suc (omega (arith, ones-suc m (8 * i + k), ones-part m i k (omega arith), digit-in m i k (omega arith)))

-- one byte more
pub ones-byte : (m : List ℕ) (i : ℕ) → get_or m i 0 < 256 → ones_below m (8 * (i + 1)) ≡ ones_below m (8 * i) + ones (get_or m i 0)
ones-byte m i h =
    let e : 8 * (i + 1) ≡ 8 * i + 8 = omega arith in
    rw e (omega (arith, ones-part m i 8 (omega arith), ones-sum 8 (get_or m i 0) h))
