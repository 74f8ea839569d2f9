-- What a Report or a Top asks for. Everything above asks a query by `placed`, `meets`, `wants_key` and what these are made of.
-- Assumes nothing.
use Rattle.std.specs.Prelude.{ℕ, ◌+◌, ◌*◌, Bool, cond, ◌&&◌, ◌||◌, [], ◌∷◌, ℤ, pos, negsuc, int_le, nat_le, nat_lt}
use Rattle.octets.specs.Lists.{all}
use Rattle.spot.specs.Keys.{word, biased, unbiased, rank_of}
use Rattle.spot.specs.declared.Spot.{Spot}
use Rattle.spot.specs.declared.Query.{Query}

-- "all live spots with x1 ≤ place ≤ x2 and rank ≥ y"
unfoldable pub query : ℤ → ℤ → ℤ → Query
query x1 x2 y = record { x1 = x1; x2 = x2; y = y }

-- the places from x1 to x2, with a least rank, biased
unfoldable pub top_query : ℤ → ℤ → ℕ → Query
top_query x1 x2 least = record { x1 = x1; x2 = x2; y = unbiased least }

-- every place of 32 bits, with a least rank
abbrev pub all_places : ℤ → Query
all_places y = record { x1 = negsuc 2147483647; x2 = pos 2147483647; y = y }

-- every live spot: the places and the ranks of 32 bits
abbrev pub everything : Query
everything = all_places (negsuc 2147483647)

-- the key at which the query's places begin, the key at which they end, and the least rank, biased
unfoldable pub from_of : Query → ℕ
from_of q = biased q.x1 * word

unfoldable pub last_of : Query → ℕ
last_of q = biased q.x2 * word + 4294967295

unfoldable pub least_of : Query → ℕ
least_of q = biased q.y

-- "A range whose first place is greater than its last now runs on past the door"
unfoldable pub is_ring : Query → Bool
is_ring q = nat_lt (last_of q) (from_of q)

-- a test against the first end of the places and one against the last: both are asked for; of a ring, "all places from x1 up, followed by all places up to
-- x2", one of them
unfoldable pub ends : Query → Bool → Bool → Bool
ends q a b = cond (is_ring q) (a || b) (a && b)

-- the key has a place of the query
unfoldable pub placed : Query → ℕ → Bool
placed q k = ends q (nat_le (from_of q) k) (nat_le k (last_of q))

-- "the range holds an identity with a place of the report": the range from lo up to, and without, hi
unfoldable pub meets : Query → ℕ → ℕ → Bool
meets q lo hi = all (nat_lt lo hi ∷ ends q (nat_lt (from_of q) hi) (nat_le lo (last_of q)) ∷ [])

-- no key of the query's places is below the one, and none is above the other: a ring's lie on both sides of the door
unfoldable pub lowest_of : Query → ℕ
lowest_of q = cond (is_ring q) 0 (from_of q)

unfoldable pub highest_of : Query → ℕ
highest_of q = cond (is_ring q) 18446744073709551615 (last_of q)

-- a place of the query, and rank ≥ y
unfoldable pub wants_key : Query → ℕ → Bool
wants_key q k = all (placed q k ∷ nat_le (least_of q) (rank_of k) ∷ [])

abbrev pub wants : Query → Spot → Bool
wants q s = wants_key q s.key

-- the same of a place and a rank as they are, with no key made of them, for a range that is no ring
abbrev pub wanted : ℤ → ℤ → ℤ → ℤ → ℤ → Bool
wanted place rank x1 x2 y = int_le x1 place && int_le place x2 && int_le y rank
