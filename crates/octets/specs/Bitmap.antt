-- Maps of blocks: one bit for each block, eight blocks to a byte.
-- Assumes nothing.
use Rattle.std.specs.Prelude.{ℕ, ◌+◌, ◌*◌, ◌/◌, ◌%◌, ◌^◌, ◌<◌, ◌≡◌, Bool, true, false, List, length, get_or, set, eqb}
use Rattle.std.specs.Int.Bits.{bit_or}
use Rattle.octets.specs.Lists.{keep, up_to}

-- "Block n is the bit of value 2^(n mod 8) in map byte n div 8"
unfoldable pub bit : List ℕ → ℕ → Bool
bit map n = eqb (get_or map (n / 8) 0 / 2 ^ (n % 8) % 2) 1

-- the map with the bit n set
unfoldable pub set_bit : List ℕ → ℕ → List ℕ
set_bit map n = set map (n / 8) (bit_or (get_or map (n / 8) 0) (2 ^ (n % 8)))

-- how many of the bits below n are set: "The number read is the count of ones"
unfoldable pub ones_below : List ℕ → ℕ → ℕ
ones_below map n = length (keep (bit map) (up_to 0 n))

-- r is the lowest bit that is clear, or the number of bits
pub record FirstClear (map : List ℕ) (r : ℕ) : Type 0 where
  pub below : (n : ℕ) → n < r → bit map n ≡ true
  pub clear : r < 8 * length map → bit map r ≡ false

abbrev pub digit : Bool → ℕ
digit true = 1
digit false = 0

-- the byte of a map for the eight blocks from b on, of which those that pass the test are marked
unfoldable pub mark_byte : (ℕ → Bool) → ℕ → ℕ
mark_byte f b =
    digit (f b) + 2 * digit (f (b + 1)) + 4 * digit (f (b + 2)) + 8 * digit (f (b + 3)) + 16 * digit (f (b + 4)) + 32 * digit (f (b + 5)) +
    64 * digit (f (b + 6)) +
    128 * digit (f (b + 7))
