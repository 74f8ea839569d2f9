-- A map made of the bytes `mark_byte`: each of its bits is the test at its number.
-- Assumes nothing.
use mathlib.Core.Path.{◌≡◌, refl, ap, ◌∙◌}
use mathlib.Core.Bool.{Bool, true, false}
use mathlib.Core.List.{[], ◌∷◌}
use Prim.Native.Nat.{ℕ, zero, suc, ◌+◌, ◌*◌, ◌/◌, ◌%◌, ◌^◌, ◌≤◌, ◌<◌}
use native.Mathlib.Omega.{arith}
use lib.ListN.{get_or}
use lib.Dec.{eqb}
use Rattle.octets.specs.Lists.{records}
use Rattle.octets.specs.Bitmap.{bit, digit, mark_byte}
use Rattle.octets.proofs.Records.{records-at}

pub digit-small : (b : Bool) → digit b ≤ 1
digit-small true = omega arith
digit-small false = omega arith

digit-bit : (b : Bool) → eqb (digit b) 1 ≡ b
digit-bit true = refl
digit-bit false = refl

-- bit j of a byte made of eight digits
module _ (a b c d e f g h : ℕ) (ha : a ≤ 1) (hb : b ≤ 1) (hc : c ≤ 1) (hd : d ≤ 1) (he : e ≤ 1) (hf : f ≤ 1) (hg : g ≤ 1) (hh : h ≤ 1) where
  byte-bit : (j : ℕ) → j < 8
      → (a + 2 * b + 4 * c + 8 * d + 16 * e + 32 * f + 64 * g + 128 * h) / 2 ^ j % 2 ≡ get_or (a ∷ b ∷ c ∷ d ∷ e ∷ f ∷ g ∷ h ∷ []) j 0
  byte-bit zero l = omega arith
  byte-bit (suc zero) l = omega arith
  byte-bit (suc (suc zero)) l = omega arith
  byte-bit (suc (suc (suc zero))) l = omega arith
  byte-bit (suc (suc (suc (suc zero)))) l = omega arith
  byte-bit (suc (suc (suc (suc (suc zero))))) l = omega arith
  byte-bit (suc (suc (suc (suc (suc (suc zero)))))) l = omega arith
  byte-bit (suc (suc (suc (suc (suc (suc (suc zero))))))) l = omega arith
  byte-bit (suc (suc (suc (suc (suc (suc (suc (suc j)))))))) l = let z : ⊥ = omega arith in absurd z

mark-bit : (f : ℕ → Bool) (b j : ℕ) → j < 8 → eqb (mark_byte f b / 2 ^ j % 2) 1 ≡ f (b + j)
unfolding mark_byte
mark-bit f b j l = ap (λ (x : ℕ). eqb x 1) (byte-bit _ _ _ _ _ _ _ _ (digit-small (f b)) (digit-small (f (b + 1))) (digit-small (f (b + 2))) (digit-small (f (b + 3))) (digit-small (f (b + 4))) (digit-small (f (b + 5))) (digit-small (f (b + 6))) (digit-small (f (b + 7))) j l) ∙ nth j l
  where
    nth : (j : ℕ) → j < 8
        → eqb (get_or (digit (f b) ∷ digit (f (b + 1)) ∷ digit (f (b + 2)) ∷ digit (f (b + 3)) ∷ digit (f (b + 4)) ∷ digit (f (b + 5)) ∷ digit (f (b + 6)) ∷ digit (f (b + 7)) ∷ []) j 0) 1
        ≡ f (b + j)
    nth zero l = digit-bit (f b) ∙ ap f (omega arith)
    nth (suc zero) l = digit-bit (f (b + 1))
    nth (suc (suc zero)) l = digit-bit (f (b + 2))
    nth (suc (suc (suc zero))) l = digit-bit (f (b + 3))
    nth (suc (suc (suc (suc zero)))) l = digit-bit (f (b + 4))
    nth (suc (suc (suc (suc (suc zero))))) l = digit-bit (f (b + 5))
    nth (suc (suc (suc (suc (suc (suc zero)))))) l = digit-bit (f (b + 6))
    nth (suc (suc (suc (suc (suc (suc (suc zero))))))) l = digit-bit (f (b + 7))
    nth (suc (suc (suc (suc (suc (suc (suc (suc j)))))))) l = let z : ⊥ = omega arith in absurd z

pub mark-byte-lt : (f : ℕ → Bool) (b : ℕ) → mark_byte f b < 256
unfolding mark_byte
mark-byte-lt f b =
    omega (arith, digit-small (f b), digit-small (f (b + 1)), digit-small (f (b + 2)), digit-small (f (b + 3)), digit-small (f (b + 4)), digit-small (f (b + 5)), digit-small (f (b + 6)), digit-small (f (b + 7)))

-- the bit of block b in a map of n such bytes
pub marked-bit : (f : ℕ → Bool) (n b : ℕ) → b < 8 * n → bit (records (mark_byte f) 8 n 0) b ≡ f b
unfolding bit
marked-bit f n b l =
    ap (λ (x : ℕ). eqb (x / 2 ^ (b % 8) % 2) 1) (records-at (mark_byte f) 8 n 0 (b / 8) 0 (omega arith)) ∙
    mark-bit f (0 + 8 * (b / 8)) (b % 8) (omega arith) ∙
    ap f (omega arith)
