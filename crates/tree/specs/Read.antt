-- The blocks that a Report reads, in the paper's own words over places and ranks: what a sound table's marks are, said without the walk.
-- Assumes nothing.
use Rattle.std.specs.Prelude.{◌≡◌, ℕ, true, leb, ℤ}
use mathlib.Core.List.{List, Memᴰ}
use Rattle.std.specs.Int.Signed.{le_z}
use Rattle.octets.specs.Lists.{every}
use Rattle.spot.specs.Keys.{signed32, key, rank_in, rank_key, within}
use Rattle.spot.specs.Range.{of_range}
use Rattle.spot.specs.declared.Spot.{Spot}
use Rattle.block.specs.Header.{head_of}
use Rattle.block.specs.Node.{Node, Store, store_of}
use Rattle.tree.specs.Part.{Part, whole, children}

-- "P isn't empty, the highest identity of P has a rank of at least y"
pub record HighEnough (y : ℤ) (n : Node) : Type 0 where
  pub spot : Spot
  pub held : Memᴰ spot n.points
  pub highest : every (λ s. leb (rank_key s.key) (rank_key spot.key)) n.points ≡ true
  pub ranked : le_z y (rank_in spot.key) ≡ true

-- "the range holds an identity with a place of the report"
pub record HoldsPlace (x1 x2 : ℤ) (lo hi : ℕ) : Type 0 where
  pub place : ℤ
  pub rank : ℤ
  pub place_fits : signed32 place ≡ true
  pub rank_fits : signed32 rank ≡ true
  pub inside : within lo hi (key place rank) ≡ true
  pub of : of_range x1 x2 place ≡ true

-- "the root, and those children of nodes read where P isn't empty, the highest identity of P has a rank of at least y, and the range holds an identity with
-- a place of the report": c is read if p is
pub data Read (m : Store) (x1 x2 y : ℤ) (p : Part) : Part → Type 0 where
  start : {c : Part} → c ≡ p → Read m x1 x2 y p c
  child : {d c : Part} → Read m x1 x2 y p d → Memᴰ c (children d (m d.block)) → HighEnough y (m c.block) → HoldsPlace x1 x2 c.lo c.hi
      → Read m x1 x2 y p c

-- a block of a table, other than block 0, that Report(x1, x2, y) reads
abbrev pub ReadBlock : List ℕ → ℤ → ℤ → ℤ → ℕ → Type 0
ReadBlock t x1 x2 y b = (c : Part) × Read (store_of t) x1 x2 y (whole (head_of t)) c × (c.block ≡ b)
