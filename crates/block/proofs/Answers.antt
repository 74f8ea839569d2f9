-- Laws of what a call answers.
-- Assumes nothing.
use mathlib.Core.Path.{◌≡◌}
use native.Mathlib.Omega.{arith}
use Rattle.block.specs.declared.Refusal.{Refusal}
use Rattle.block.specs.declared.Refusal.TheVariants.{TableLength, LentLength, Broken, Full, Output, TooManyRanges, NotPressable, NotAMessage, PlaceOutside}
use Rattle.block.specs.Answers.{refused}

-- no refusal has the number 0
pub refused-numbered : (r : Refusal) → (refused r).number ≡ 0 → ⊥
refused-numbered TableLength e = omega arith
refused-numbered LentLength e = omega arith
refused-numbered Broken e = omega arith
refused-numbered (Full at) e = omega arith
refused-numbered (Output spots) e = omega arith
refused-numbered TooManyRanges e = omega arith
refused-numbered NotPressable e = omega arith
refused-numbered NotAMessage e = omega arith
refused-numbered (PlaceOutside at) e = omega arith
