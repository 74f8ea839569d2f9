-- A table as Format leaves it.
-- Assumes nothing.
use Rattle.std.specs.Prelude.{ℕ, ◌-◌, List, [], ◌∷◌, ◌++◌, replicate}
use Rattle.octets.specs.Bytes.{bytes_of}

-- "after Format they are zero, the root is block 1 and bytes 8-11 are 0": one level, and blocks 0 and 1 in use
unfoldable pub fresh_header : ℕ → List ℕ
fresh_header bytes = bytes_of 4 bytes ++ (1 ∷ 1 ∷ 0 ∷ 1 ∷ 0 ∷ 0 ∷ 0 ∷ 0 ∷ 3 ∷ []) ++ replicate 2035 0

-- an empty leaf: 8 bytes used, version 1
unfoldable pub fresh_leaf : List ℕ
fresh_leaf = 0 ∷ 8 ∷ 1 ∷ replicate 2045 0

-- "Format makes the empty table, one leaf and one level"
unfoldable pub formatted : ℕ → List ℕ
formatted bytes = fresh_header bytes ++ fresh_leaf ++ replicate (bytes - 4096) 0
