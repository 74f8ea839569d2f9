-- A printed number read back.
-- Assumes nothing.
use mathlib.Core.Path.{◌≡◌, refl, ap, sym, ◌∙◌}
use mathlib.Core.Logic.{⊎_elim}
use mathlib.Core.Bool.{Bool, true, false, cond, ◌&&◌, false≢true}
use mathlib.Core.List.{List, [], ◌∷◌, ◌++◌}
use Prim.Native.Nat.{ℕ, zero, suc, ◌+◌, ◌-◌, ◌/◌, ◌%◌, ◌≤◌, ◌<◌}
use native.Mathlib.Omega.{arith}
use lib.Dec.{leb, eqb}
use lib.IntN.{ℤ, pos, negsuc, nat_abs}
use lib.Signed.{lt_z}
use lib.ListN.{get_or, take, drop}
use lib.Pointwise.{pointwise}
use borrow.Author.Tests.{lt-ltb, le-ltb, leb-true, ltb-true, ne_eqb}
use mir.Syntax.{w32}
use mir.Val.{to_z, of_z}
use mir.ValLaws.{to_z-of_z}
use Rattle.octets.specs.Lists.{every, has}
use Rattle.octets.proofs.Order.{less-or-not}
use Rattle.octets.proofs.Tests.{and_left}
use Rattle.spot.specs.Keys.{word, half, unbiased}
use Rattle.spot.proofs.Signed.{Fits, unbiased-biased, unbiased-fits}
use Rattle.text.specs.Text.{digits, decimal, signed}
use Rattle.text.specs.Reading.{step, value, integer}
use Rattle.text.proofs.Decimal.{tens, decimal-glyphs, decimal-unspaced}

value-append : (n : ℕ) (xs ys : List ℕ) → value n (xs ++ ys) ≡ value (value n xs) ys
value-append n [] ys = refl
value-append n (x ∷ xs) ys = value-append (step n x) xs ys

pub value-lt : (n : ℕ) (xs : List ℕ) → n < word → value n xs < word
value-lt n [] h = h
value-lt n (x ∷ xs) h = value-lt (step n x) xs (omega arith)

digits_value : (k n : ℕ) → n < tens k → n < word → value 0 (digits k n) ≡ n
digits_value zero n h l = omega arith
digits_value (suc k) n h l =
    ⊎_elim
    (λ (g : 10 ≤ n).
    let e : step (n / 10) (48 + n % 10) ≡ n = omega arith in
    rw (le-ltb n 10 g)
    (value-append 0 (digits k (n / 10)) ((48 + n % 10) ∷ [])
    ∙ ap (λ (m : ℕ). step m (48 + n % 10)) (digits_value k (n / 10) (omega arith) (omega arith))
    ∙ e))
    (λ (g : n < 10).
    let e : step 0 (48 + n) ≡ n = omega arith in
    rw (lt-ltb n 10 g) e)
    (less-or-not 10 n)

pub decimal-value : (n : ℕ) → n < word → value 0 (decimal n) ≡ n
unfolding decimal
decimal-value n l = digits_value 10 n (omega arith) l

-- ---- signed

first-not-minus : (w : List ℕ) → every (leb 48) w ≡ true → eqb (get_or w 0 0) 45 ≡ false
first-not-minus [] h = refl
first-not-minus (x ∷ w) h = ne_eqb x 45 (λ (e : x ≡ 45). omega (arith, leb-true 48 x (and_left (leb 48 x) (every (leb 48) w) h)))

pub integer-signed : (z : ℤ) → Fits z → integer (signed z) ≡ z
unfolding integer signed
integer-signed (pos n) f =
    let e : (half + value 0 (decimal n)) % word ≡ half + n = omega (arith, f.sfits, decimal-value n (omega (arith, f.sfits))) in
    rw (first-not-minus (decimal n) (decimal-glyphs n)) (ap unbiased e ∙ unbiased-biased (pos n) f)
integer-signed (negsuc n) f =
    let e : (half + word - value 0 (decimal (suc n))) % word ≡ half - suc n = omega (arith, f.sfits, decimal-value (suc n) (omega (arith, f.sfits))) in
    ap unbiased e ∙ unbiased-biased (negsuc n) f

pub signed-unspaced : (z : ℤ) → has 32 (signed z) ≡ false
unfolding signed
signed-unspaced (pos n) = decimal-unspaced n
signed-unspaced (negsuc n) = decimal-unspaced (suc n)

cond-fits : (b : Bool) (x y : ℤ) → Fits x → Fits y → Fits (cond b x y)
cond-fits true x y f g = f
cond-fits false x y f g = g

pub integer-fits : (w : List ℕ) → Fits (integer w)
unfolding integer
integer-fits w =
    let a = (half + word - value 0 (drop 1 w)) % word in
    let b = (half + value 0 w) % word in
    cond-fits (eqb (get_or w 0 0) 45) (unbiased a) (unbiased b) (unbiased-fits a (omega arith)) (unbiased-fits b (omega arith))

-- ---- as the code prints and reads it

pub signed-below : (z : ℤ) → lt_z z (pos 0) ≡ true → 45 ∷ decimal (nat_abs z) ≡ signed z
unfolding signed
signed-below (pos n) h = let z : n < 0 = ltb-true n 0 h in absurd (omega arith)
signed-below (negsuc n) h = refl

pub signed-not_below : (z : ℤ) → lt_z z (pos 0) ≡ false → decimal (nat_abs z) ≡ signed z
unfolding signed
signed-not_below (pos n) h = refl
signed-not_below (negsuc n) h = absurd (false≢true (sym h))

-- the test of the first byte
minus-first : (w : List ℕ) → pointwise eqb (take 1 w) (45 ∷ []) ≡ eqb (get_or w 0 0) 45
minus-first [] = refl
minus-first (x ∷ w) = go (eqb x 45)
  where
    go : (b : Bool) → b && true ≡ b
    go true = refl
    go false = refl

pub integer-minus : (w : List ℕ) (m : ℕ) → pointwise eqb (take 1 w) (45 ∷ []) ≡ true → m ≡ value 0 (drop 1 w) → unbiased ((half + word - m) % word) ≡ integer w
unfolding integer
integer-minus w m e h = rw (sym (minus-first w) ∙ e) (ap (λ (v : ℕ). unbiased ((half + word - v) % word)) h)

pub integer-plus : (w : List ℕ) (m : ℕ) → pointwise eqb (take 1 w) (45 ∷ []) ≡ false → m ≡ value 0 w → unbiased ((half + m) % word) ≡ integer w
unfolding integer
integer-plus w m e h = rw (sym (minus-first w) ∙ e) (ap (λ (v : ℕ). unbiased ((half + v) % word)) h)

-- the machine's number is the number itself
pub integer-back : (x : ℤ) (w : List ℕ) → x ≡ integer w → to_z w32 (of_z w32 x) ≡ integer w
integer-back x w e = ap (λ (v : ℤ). to_z w32 (of_z w32 v)) e ∙ to_z-of_z w32 (integer w) (integer-fits w)
