-- What block 0 can show by itself.
-- Assumes nothing.
use Rattle.std.specs.Prelude.{ℕ, ◌-◌, Bool, not, [], ◌∷◌, leb, eqb}
use Rattle.octets.specs.Lists.{all, every, up_to}
use Rattle.octets.specs.Bitmap.{bit}
use Rattle.block.specs.Table.{capacity, blocks_of, block_ok, map_blocks, table_sized}
use Rattle.block.specs.Header.{Header}

-- rule 1, as far as block 0 shows it: the map marks block 0 and the root, and no block past the last
unfoldable pub map_shows : ℕ → Header → Bool
map_shows blocks h =
    all (bit h.in_use 0 ∷ bit h.in_use h.root ∷ every (λ b. not (bit h.in_use b)) (up_to blocks (map_blocks - blocks)) ∷ [])

-- rule 1: "Block 0 agrees with the lent length"; rule 6: "The figure in bytes 8-11 lies in its limits. Every other field and zero byte is as laid out".
-- The length itself is right: refusal 1 comes first, so `table_sized` says nothing new there.
unfoldable pub header_ok : ℕ → Header → Bool
header_ok bytes h =
    all (
    eqb h.bytes bytes ∷
    eqb h.version 1 ∷
    leb 1 h.levels ∷
    leb h.levels 7 ∷
    block_ok (blocks_of bytes) h.root ∷
    leb h.bound (capacity bytes) ∷
    map_shows (blocks_of bytes) h ∷
    h.blank ∷
    table_sized bytes ∷
    [])
