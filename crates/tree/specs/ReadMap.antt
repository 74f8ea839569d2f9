-- The map of blocks read.
-- Assumes nothing.
use Rattle.std.specs.Prelude.{ℕ, Bool, ◌||◌, List, eqb}
use Rattle.octets.specs.Lists.{has, records}
use Rattle.octets.specs.Bitmap.{mark_byte, ones_below}
use Rattle.block.specs.Table.{map_bytes, map_blocks}

-- "block 0 is always marked"
unfoldable pub is_read : List ℕ → ℕ → Bool
is_read blocks b = eqb b 0 || has b blocks

-- "Report and Top write a map of 512 bytes, laid out as block 0's, that marks every block they read"
unfoldable pub read_map : List ℕ → List ℕ
read_map blocks = records (mark_byte (is_read blocks)) 8 map_bytes 0

-- "The number read is the count of ones"
abbrev pub ones : List ℕ → ℕ
ones map = ones_below map map_blocks
