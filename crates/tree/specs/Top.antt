-- What Top reads and finds: the walk of a Report whose least rank is just low enough.
-- Assumes nothing.
use Rattle.std.specs.Prelude.{ℕ, zero, suc, Bool, true, cond, List, [], length, take, leb, ℤ}
use Rattle.octets.specs.Lists.{largest}
use Rattle.spot.specs.Keys.{word}
use Rattle.spot.specs.Spots.{by_top}
use Rattle.spot.specs.Query.{top_query}
use Rattle.block.specs.Header.{head_of}
use Rattle.block.specs.HeaderRules.{header_ok}
use Rattle.tree.specs.Walk.{Walk, broken, walked, map_spots, walk_table}

-- a walk that finds enough, or can't be whole
abbrev pub enough : ℕ → Walk → Bool
enough k broken = true
enough k (walked found blocks) = leb k (length found)

-- the highest least rank, biased, with which a Report breaks or finds k spots, else the lowest rank
unfoldable pub threshold : List ℕ → ℤ → ℤ → ℕ → ℕ
threshold t x1 x2 k = largest (λ y. enough k (walk_table t (top_query x1 x2 y))) word

-- the walk of Top. For k = 0 only block 0 is read.
unfoldable pub top_walk : List ℕ → ℤ → ℤ → ℕ → Walk
top_walk t x1 x2 zero = cond (header_ok (length t) (head_of t)) (walked [] []) broken
top_walk t x1 x2 (suc k) = walk_table t (top_query x1 x2 (threshold t x1 x2 (suc k)))

-- of the spots of a walk the first k in the order of Top's answers
abbrev pub best : ℕ → Walk → Walk
best k w = map_spots (λ found. take k (by_top found)) w

-- "gives, of the live spots with x1 ≤ place ≤ x2, the k highest in rank order (all, if fewer), highest first", and "Among equal ranks
-- Top shall list the lower place first and choose by it"
unfoldable pub top_table : List ℕ → ℤ → ℤ → ℕ → Walk
top_table t x1 x2 k = best k (top_walk t x1 x2 k)
