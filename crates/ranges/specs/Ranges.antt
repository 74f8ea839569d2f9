-- Ranges in a list and in bytes, and a batch of them by value.
-- Assumes nothing.
use Rattle.std.specs.Prelude.{◌≡◌, ℕ, zero, suc, ◌+◌, ◌≤◌, cond, List, [], ◌∷◌, ◌++◌, length, get_or, set, replicate, take, ltb, pos}
use Rattle.std.specs.Int.{w32}
use Rattle.std.proofs.Common.{to_z}
use Rattle.octets.specs.Bytes.{be}
use Rattle.octets.specs.Lists.{records}
use Rattle.ranges.specs.declared.Range.{Range}
use Rattle.ranges.specs.declared.Batch.{Batch}

-- what a list has past its end
abbrev pub no_range : Range
no_range = record { x1 = pos 0; x2 = pos 0; y = pos 0 }

abbrev pub range_at : List Range → ℕ → Range
range_at rs i = get_or rs i no_range

-- the first n of a list, in front of ranges that are of no account
abbrev pub loaded : List Range → ℕ → List Range
loaded rs zero = replicate 64 no_range
loaded rs (suc n) = set (loaded rs n) n (range_at rs n)

-- at most 64
unfoldable pub few_of : ℕ → ℕ
few_of n = cond (ltb n 64) n 64

-- a list of ranges by value: how many they are, and the first 64
abbrev pub batch_of : List Range → Batch
batch_of rs = record { n = length rs; all = loaded rs (few_of (length rs)) }

-- the batch has the ranges of a list, or says that they are too many
pub record Handed (b : Batch) (rs : List Range) : Type 0 where
  pub count : b.n ≡ length rs
  pub all : b.n ≤ 64 → take b.n b.all ≡ rs

-- the range that begins at a byte: its two places and its lowest rank, 4 bytes each, big-endian and in two's complement
unfoldable pub range_in : List ℕ → ℕ → Range
range_in s at = record { x1 = to_z w32 (be 4 s at); x2 = to_z w32 (be 4 s (at + 4)); y = to_z w32 (be 4 s (at + 8)) }

-- n of them, one after the other
abbrev pub ranges_in : List ℕ → ℕ → ℕ → List Range
ranges_in s n at = records (range_in s) 12 n at

-- what is given for each range, in the order handed in
module _ {A : Type 0} where
  abbrev pub for_each : (Range → List A) → List Range → List A
  for_each given [] = []
  for_each given (r ∷ rs) = given r ++ for_each given rs

-- and how many for each
module _ {A : Type 0} where
  abbrev pub count_each : (Range → List A) → List Range → List ℕ
  count_each given [] = []
  count_each given (r ∷ rs) = length (given r) ∷ count_each given rs
