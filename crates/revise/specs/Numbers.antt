-- When Add says that the table is full.
-- Assumes nothing.
use Rattle.std.specs.Prelude.{◌≡◌, ℕ, ◌≤◌, Bool, false, cond, not, ◌&&◌, List, leb, length, Ok, None}
use Rattle.spot.specs.Query.{everything}
use Rattle.block.specs.Table.{capacity}
use Rattle.tree.specs.Walk.{walk_table, is_broken, live_count}
use Rattle.lookup.specs.Answers.{looked_up}

-- 4: "Add: capacity live spots and the identity not live", or 0
unfoldable pub add_number : ℕ → ℕ → Bool → ℕ
add_number bytes spots there = cond (leb (capacity bytes) spots && not there) 4 0

-- what 4 says of any table, sound or not: the identity is looked up and not live, and a whole walk of everything finds no fewer spots than the capacity
pub record Full (t : List ℕ) (k : ℕ) : Type 0 where
  pub absent : looked_up t k ≡ Ok None
  pub walked : is_broken (walk_table t everything) ≡ false
  pub many : capacity (length t) ≤ live_count t
