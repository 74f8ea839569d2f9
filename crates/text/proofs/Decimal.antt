-- The digits of a number: one digit at a time, their kind and their count.
-- Assumes nothing.
use mathlib.Core.Path.{◌≡◌, refl, ap, ◌∙◌}
use mathlib.Core.Logic.{⊎_elim}
use mathlib.Core.Bool.{true, false}
use mathlib.Core.List.{List, [], ◌∷◌, ◌++◌}
use Prim.Native.Nat.{ℕ, zero, suc, ◌+◌, ◌*◌, ◌/◌, ◌%◌, ◌≤◌, ◌<◌}
use native.Mathlib.Omega.{arith}
use lib.Dec.{leb}
use lib.ListN.{length, length-append}
use borrow.Author.Tests.{lt-ltb, le-ltb, le-leb, leb-true}
use Rattle.octets.specs.Lists.{every, has}
use Rattle.octets.proofs.Order.{less-or-not}
use Rattle.octets.proofs.Tests.{and_both, every-mem, every-join}
use Rattle.octets.proofs.Sets.{has-not}
use Rattle.text.specs.Text.{digits, decimal}

-- 10 to the power k
abbrev pub tens : ℕ → ℕ
tens zero = 1
tens (suc k) = 10 * tens k

-- room for more digits than there are changes nothing
digits-enough : (k m n : ℕ) → n < tens (suc k) → n < tens (suc m) → digits (suc k) n ≡ digits (suc m) n
digits-enough zero m n h l = rw (lt-ltb n 10 (omega arith))
digits-enough (suc k) zero n h l = rw (lt-ltb n 10 (omega arith))
digits-enough (suc k) (suc m) n h l =
    ⊎_elim
    (λ (g : 10 ≤ n). rw (le-ltb n 10 g) (ap (λ (ds : List ℕ). ds ++ ((48 + n % 10) ∷ [])) (digits-enough k m (n / 10) (omega arith) (omega arith))))
    (λ (g : n < 10). rw (lt-ltb n 10 g)) (less-or-not 10 n)

pub decimal-small : (n : ℕ) → n < 10 → decimal n ≡ (48 + n) ∷ []
unfolding decimal
decimal-small n h = rw (lt-ltb n 10 h)

pub decimal-more : (n : ℕ) → 10 ≤ n → n < 4294967296 → decimal n ≡ decimal (n / 10) ++ ((48 + n % 10) ∷ [])
unfolding decimal
decimal-more n h l =
    rw (le-ltb n 10 h) (ap (λ (ds : List ℕ). ds ++ ((48 + n % 10) ∷ [])) (digits-enough 8 9 (n / 10) (omega arith) (omega arith)))

pub length-small : (n : ℕ) → n < 10 → length (decimal n) ≡ 1
length-small n h = ap length (decimal-small n h)

pub length_more : (n : ℕ) → 10 ≤ n → n < 4294967296 → length (decimal n) ≡ length (decimal (n / 10)) + 1
length_more n h l = ap length (decimal-more n h l) ∙ length-append (decimal (n / 10)) ((48 + n % 10) ∷ [])

-- ---- no digit is below `0`, so none is a space or a minus sign

glyph : (d : ℕ) → every (leb 48) ((48 + d) ∷ []) ≡ true
glyph d = and_both (leb 48 (48 + d)) true (le-leb 48 (48 + d) (omega arith)) refl

digits-glyphs : (k n : ℕ) → every (leb 48) (digits k n) ≡ true
digits-glyphs zero n = refl
digits-glyphs (suc k) n =
    ⊎_elim
    (λ (l : 10 ≤ n). rw (le-ltb n 10 l) (every-join (leb 48) (digits k (n / 10)) ((48 + n % 10) ∷ []) (digits-glyphs k (n / 10)) (glyph (n % 10))))
    (λ (l : n < 10). rw (lt-ltb n 10 l) (glyph n)) (less-or-not 10 n)

pub decimal-glyphs : (n : ℕ) → every (leb 48) (decimal n) ≡ true
unfolding decimal
decimal-glyphs n = digits-glyphs 10 n

pub decimal-unspaced : (n : ℕ) → has 32 (decimal n) ≡ false
decimal-unspaced n = has-not 32 (decimal n) (λ m. let h : leb 48 32 ≡ true = every-mem (leb 48) (decimal n) (decimal-glyphs n) m in omega (arith, leb-true 48 32 h))

-- ---- how many there are

digits-length : (k n : ℕ) → length (digits k n) ≤ k
digits-length zero n = omega arith
digits-length (suc k) n =
    ⊎_elim
    (λ (l : 10 ≤ n). rw (le-ltb n 10 l) (omega (arith, length-append (digits k (n / 10)) ((48 + n % 10) ∷ []), digits-length k (n / 10))))
    (λ (l : n < 10). rw (lt-ltb n 10 l) (omega arith)) (less-or-not 10 n)

pub decimal-length : (n : ℕ) → length (decimal n) ≤ 10
unfolding decimal
decimal-length n = digits-length 10 n
