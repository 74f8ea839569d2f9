-- The two halves of a Report. It is counted first, and few spots are held while they are; then what the walk found is written to an output, which may be a part of
-- a larger one, and turned so that it begins at x1.
-- Assumes nothing.
use Rattle.std.specs.Prelude.{◌≡◌, ℕ, ◌*◌, ◌≤◌, true, false, List, ◌++◌, length, drop, ℤ}
use Rattle.spot.specs.Query.{query}
use Rattle.spot.specs.Spots.{spots_in, spots_bytes}
use Rattle.spot.specs.declared.Spot.{Spot}
use Rattle.spot.specs.declared.Query.{Query}
use Rattle.block.specs.Table.{table_sized}
use Rattle.tree.specs.Walk.{walk_table, is_broken, spots}
use Rattle.tree.specs.Report.{report_table}
use Rattle.query.specs.Merging.{Orderly}

-- spots at the front of an output, 12 bytes each as on the card, the rest unchanged
abbrev pub written : List Spot → List ℕ → List ℕ
written ss out = spots_bytes ss ++ drop (12 * length ss) out

-- the walk is whole, and the output has room for its spots
pub record Reportable (q : Query) (t out : List ℕ) : Type 0 where
  pub sized : table_sized (length t) ≡ true
  pub whole : is_broken (walk_table t q) ≡ false
  pub room : 12 * length (spots (walk_table t q)) ≤ length out

-- its r spots stand at the front of the output, from x1 onward, and the rest is as it was
pub record Reported (x1 x2 y : ℤ) (t out out'' : List ℕ) (r : ℕ) : Type 0 where
  pub count : r ≡ length (spots (report_table t x1 x2 y))
  pub output : out'' ≡ written (spots (report_table t x1 x2 y)) out

-- n spots stand at the front of a buffer, in place order, and the output has room for them
pub record Turnable (few out : List ℕ) (n : ℕ) : Type 0 where
  pub held : 12 * n ≤ length few
  pub room : 12 * n ≤ length out
  pub order : Orderly (spots_in few n)

-- the walk is whole and finds n spots, which stand at the front of the buffer if they fit there; the output has room for them
pub record Givable (x1 x2 y : ℤ) (t few out : List ℕ) (n : ℕ) : Type 0 where
  pub walk : Reportable (query x1 x2 y) t out
  pub count : n ≡ length (spots (walk_table t (query x1 x2 y)))
  pub held : 12 * n ≤ length few → spots_in few n ≡ spots (walk_table t (query x1 x2 y))
