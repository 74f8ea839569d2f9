-- What a call answers.
-- Assumes nothing.
use Rattle.std.specs.Prelude.{ℕ, Bool, cond, Result, Ok, Err}
use Rattle.block.specs.declared.Answer.{Answer}
use Rattle.block.specs.declared.Refusal.{Refusal}
use Rattle.block.specs.declared.Refusal.TheVariants.{TableLength, LentLength, Broken, Full, Output, TooManyRanges, NotPressable, NotAMessage, PlaceOutside}

-- a number of the list, and its detail
abbrev pub answer : ℕ → ℕ → Answer
answer number detail = record { number = number; detail = detail }

-- the number of a refusal, with its detail
abbrev pub refused : Refusal → Answer
refused TableLength = answer 1 0
refused LentLength = answer 2 0
refused Broken = answer 3 0
refused (Full at) = answer 4 at
refused (Output spots) = answer 5 spots
refused TooManyRanges = answer 6 0
refused NotPressable = answer 7 0
refused NotAMessage = answer 8 0
refused (PlaceOutside at) = answer 9 at

-- 0 with a detail, or a refusal
abbrev pub answer_of : Result ℕ Refusal → Answer
answer_of (Ok detail) = answer 0 detail
answer_of (Err r) = refused r

-- the same with no detail
abbrev pub told : {A : Type 0} → Result A Refusal → Answer
told (Ok a) = answer 0 0
told (Err r) = refused r

-- the same of a question: the detail is 1 or 0
abbrev pub yes_or_no : Result Bool Refusal → Answer
yes_or_no (Ok b) = answer 0 (cond b 1 0)
yes_or_no (Err r) = refused r
