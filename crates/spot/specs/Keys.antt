-- Identities as natural numbers: place order and rank order become orders of ℕ.
-- Assumes nothing.
use Rattle.std.specs.Prelude.{ℕ, suc, ◌+◌, ◌-◌, ◌*◌, ◌/◌, ◌%◌, Bool, cond, ◌&&◌, [], ◌∷◌, ℤ, pos, negsuc, int_le, nat_le, nat_lt}
use Rattle.octets.specs.Lists.{all}

-- 2 ^ 32
abbrev pub word : ℕ
word = 4294967296

-- 2 ^ 31
abbrev pub half : ℕ
half = 2147483648

-- above every key, so that a range is from one number up to, and without, another
abbrev pub all_keys : ℕ
all_keys = 18446744073709551616

-- "signed 32-bit"
unfoldable pub signed32 : ℤ → Bool
signed32 z = int_le (negsuc 2147483647) z && int_le z (pos 2147483647)

-- "unsigned 32-bit"
unfoldable pub unsigned32 : ℕ → Bool
unsigned32 n = nat_le n 4294967295

-- z + 2 ^ 31 for a z of 32 bits: the order of ℤ becomes that of ℕ
abbrev pub biased : ℤ → ℕ
biased (pos n) = half + n
biased (negsuc n) = half - suc n

-- back again
unfoldable pub unbiased : ℕ → ℤ
unbiased u = cond (nat_le half u) (pos (u - half)) (negsuc (half - suc u))

-- `biased` of a number's four bytes in two's complement; it is its own inverse
abbrev pub turned : ℕ → ℕ
turned u = (u + half) % word

-- "Place and rank together are its identity": one number, of biased place and biased rank. "The place order compares places, then ranks": it is < on
-- keys.
abbrev pub key : ℤ → ℤ → ℕ
key place rank = biased place * word + biased rank

-- the place and the rank of a key
unfoldable pub place_of : ℕ → ℤ
place_of k = unbiased (k / word)

unfoldable pub rank_in : ℕ → ℤ
rank_in k = unbiased (k % word)

-- "The rank order compares ranks, then places": it is < on these. It is its own inverse.
unfoldable pub rank_key : ℕ → ℕ
rank_key k = k % word * word + k / word

-- a key's rank, biased: the upper half of the rank key, so that it rises with it
abbrev pub rank_of : ℕ → ℕ
rank_of k = rank_key k / word

-- a number with its lower half the other way up. It is its own inverse.
unfoldable pub turn_low : ℕ → ℕ
turn_low r = r / word * word + (4294967295 - r % word)

-- "Among equal ranks Top shall list the lower place first and choose by it": the order of Top's answers is > on these
unfoldable pub top_key : ℕ → ℕ
top_key k = turn_low (rank_key k)

-- back again
unfoldable pub key_of_top : ℕ → ℕ
key_of_top r = rank_key (turn_low r)

-- "from its entry's lowest identity up to, and without, the next entry's"
unfoldable pub within : ℕ → ℕ → ℕ → Bool
within lo hi k = all (nat_le lo k ∷ nat_lt k hi ∷ [])

-- request 2026-07: "A place read from a card or an argument must lie in −1,000,000 to 1,000,000 centimetres"
unfoldable pub in_limits : ℤ → Bool
in_limits place = int_le (negsuc 999999) place && int_le place (pos 1000000)

-- a key with such a place
unfoldable pub limited : ℕ → Bool
limited k = in_limits (place_of k)

-- the first of those keys, and the first behind them (proofs/Limits)
unfoldable pub start_key : ℕ
start_key = 9219077069558775808

unfoldable pub end_key : ℕ
end_key = 9227667008445743104
