-- The rounds of fill: where the loop stands between two of them, and where it ends.
-- Assumes nothing.
use Rattle.std.specs.Prelude.{◌≡◌, ◌⊎◌, ℕ, ◌<◌, ◌≤◌, length}
use mathlib.Core.List.{List, [], Memᴰ}
use Rattle.std.proofs.Math.Option.{Option}
use Rattle.block.specs.declared.Entry.{Entry}
use Rattle.block.specs.Node.{Store}
use Rattle.block.specs.NodeRules.{lows, child_blocks}
use Rattle.update_theory.specs.Held.{Held}
use Rattle.update_theory.specs.Going.{Going}

-- where the loop stands
pub record Loop (ni nd l lo hi : ℕ) (x : Store) (es₀ : List Entry) (y : Store) (r : ℕ) (es : List Entry) (b : Held) (f : ℕ → Option ℕ) : Type 0 where
  pub going : Going l lo hi x [] es₀ y [] r es b f
  pub same_lows : lows es ≡ lows es₀
  pub same_blocks : child_blocks es ≡ child_blocks es₀
  pub few_p : length b.points ≤ 64
  pub few_i : length b.inserts ≤ ni
  pub few_d : length b.deletes ≤ nd

-- where it ends: P is filled, or nothing is left
abbrev pub FilledUp : List Entry → Held → Type 0
FilledUp es b = (32 ≤ length b.points) ⊎ ((length b.points < 32) × (b.inserts ≡ []) × (b.deletes ≡ []) × ((d : Entry) → Memᴰ d es → d.size ≡ 0))
