-- A table as blocks: sizes, capacity, and the bytes of one block.
-- Assumes nothing.
use Rattle.std.specs.Prelude.{ℕ, ◌-◌, ◌*◌, ◌/◌, ◌%◌, Bool, List, [], ◌∷◌, ◌++◌, take, drop, ltb, leb, eqb}
use Rattle.octets.specs.Lists.{all}

-- the lengths that a version of the card settles: of a block, a spot, an identity and a child entry, and the most bytes that a node uses
pub record Widths : Type 0 where
  pub block : ℕ
  pub spot : ℕ
  pub identity : ℕ
  pub entry : ℕ
  pub used : ℕ

-- "blocks of 2,048 bytes", "c child entries of 28 bytes", "spots of 12 bytes", "8-byte identities", "at most 1,896"
abbrev pub version1 : Widths
version1 = record { block = 2048; spot = 12; identity = 8; entry = 28; used = 1896 }

-- the whole blocks in so many bytes
abbrev pub blocks_in : Widths → ℕ → ℕ
blocks_in w bytes = bytes / w.block

-- "A table is 9 to 4,096 blocks of 2,048 bytes"
unfoldable pub sized_for : Widths → ℕ → Bool
sized_for w bytes = all (eqb (bytes % w.block) 0 ∷ leb 9 (blocks_in w bytes) ∷ leb (blocks_in w bytes) 4096 ∷ [])

-- "Capacity is 16 spots for each block after block 0"
abbrev pub capacity_for : Widths → ℕ → ℕ
capacity_for w bytes = 16 * (blocks_in w bytes - 1)

-- the bytes of one block
abbrev pub block_in : Widths → List ℕ → ℕ → List ℕ
block_in w t b = take w.block (drop (b * w.block) t)

-- the table with these bytes in the place of block b
unfoldable pub put_block_in : Widths → List ℕ → ℕ → List ℕ → List ℕ
put_block_in w t b s = take (b * w.block) t ++ (s ++ drop w.block (drop (b * w.block) t))

-- the same on the card of version 1
abbrev pub blocks_of : ℕ → ℕ
blocks_of = blocks_in version1

abbrev pub table_sized : ℕ → Bool
table_sized = sized_for version1

abbrev pub capacity : ℕ → ℕ
capacity = capacity_for version1

abbrev pub block : List ℕ → ℕ → List ℕ
block = block_in version1

abbrev pub put_block : List ℕ → ℕ → List ℕ → List ℕ
put_block = put_block_in version1

-- "12-523 the map of blocks in use"; "a map of 512 bytes, laid out as block 0's"
abbrev pub map_bytes : ℕ
map_bytes = 512

-- a bit of a map is a block number below this
abbrev pub map_blocks : ℕ
map_blocks = 4096

-- a block that a node may stand in: one of the table, and not block 0
unfoldable pub block_ok : ℕ → ℕ → Bool
block_ok blocks b = all (leb 1 b ∷ ltb b blocks ∷ [])
