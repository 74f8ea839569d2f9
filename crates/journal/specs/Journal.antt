-- Undo by block: before a block is first written in a call, its bytes are kept at the same place of scratch, and a map marks it.
-- Assumes nothing.
use Rattle.std.specs.Prelude.{◌≡◌, ℕ, ◌*◌, ◌≤◌, ◌<◌, true, cond, List, length, drop}
use Rattle.octets.specs.Bitmap.{bit}
use Rattle.block.specs.Table.{block, blocks_of}

-- block b as it was before the changes: kept in the scratch s where the map marks it, else still in the table t
abbrev pub before : List ℕ → List ℕ → List ℕ → ℕ → List ℕ
before t s map b = cond (bit map b) (block s b) (block t b)

-- table, scratch and map of a call that may be undone
pub record Undoable (t s map : List ℕ) : Type 0 where
  pub whole : length t ≡ blocks_of (length t) * 2048
  pub most : blocks_of (length t) ≤ 4096
  pub room : length t ≤ length s
  pub mapped : length map ≡ 512

-- what was can still be told after a step, and scratch past the table's length is as it was
pub record Kept (t s map t' s' map' : List ℕ) : Type 0 where
  pub past : (b : ℕ) → b < blocks_of (length t) → before t' s' map' b ≡ before t s map b
  pub marks : (b : ℕ) → bit map b ≡ true → bit map' b ≡ true
  pub table : length t' ≡ length t
  pub scratch : length s' ≡ length s
  pub mapped : length map' ≡ length map
  pub rest : drop (length t) s' ≡ drop (length t) s

-- every block is as it was before
pub record Undone (t s map t' : List ℕ) : Type 0 where
  pub blocks : (b : ℕ) → b < blocks_of (length t) → block t' b ≡ before t s map b
  pub sized : length t' ≡ length t
