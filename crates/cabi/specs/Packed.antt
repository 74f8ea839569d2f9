-- An answer as one number.
-- Assumes nothing.
use Rattle.std.specs.Prelude.{◌≡◌, ℕ, ◌/◌, ◌%◌}
use Rattle.block.specs.declared.Answer.{Answer}

-- r is number · 2^32 + detail of an answer that keeps the promise. The detail is below 2^32, so that r settles both.
pub record Packed (r : ℕ) (promise : Answer → Type 0) : Type 0 where
  pub answer : Answer
  pub number : answer.number ≡ r / 4294967296
  pub detail : answer.detail ≡ r % 4294967296
  pub keeps : promise answer
