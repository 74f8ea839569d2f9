-- What Top may mark: request 2026-09, "The best few for little reading".
-- Assumes nothing.
use Rattle.std.specs.Prelude.{◌≡◌, ◌⊎◌, ◌↔◌, ℕ, ◌<◌, true, cond, not, ◌&&◌, List, [], ◌∷◌, length, eqb, ℤ, negsuc}
use Rattle.octets.specs.Bitmap.{bit}
use Rattle.tree.specs.Read.{ReadBlock}
use Rattle.demands.specs.Model.{PlainSpot}

-- "the least 32-bit rank": -2147483648
abbrev pub least_rank : ℤ
least_rank = negsuc 2147483647

-- the rank of the last of these spots, or r if there are none
abbrev pub last_rank : ℤ → List PlainSpot → ℤ
last_rank r [] = r
last_rank r (s ∷ ss) = last_rank s.rank ss

-- "Let y be the rank of the last spot given where k were found and k isn't 0, else the least 32-bit rank"
unfoldable pub rank_reached : ℕ → List PlainSpot → ℤ
rank_reached k given = cond (eqb (length given) k && not (eqb k 0)) (last_rank least_rank given) least_rank

-- the read map that an accepted Top leaves, where these are the spots that it gives
pub record MarksFew (x1 x2 : ℤ) (k : ℕ) (given : List PlainSpot) (t map : List ℕ) : Type 0 where
  -- "Top shall mark no block that Report over the same places from rank y doesn't mark": block 0, and what the scope paper has that Report read
  pub within : (b : ℕ) → b < 4096 → bit map b ≡ true → (b ≡ 0) ⊎ ReadBlock t x1 x2 (rank_reached k given) b
  -- "For k = 0 only block 0 is marked"
  pub none : k ≡ 0 → (b : ℕ) → b < 4096 → (bit map b ≡ true) ↔ (b ≡ 0)
