-- What the readers of a block give: the numbers at its front, and the i-th of its entries.
-- Assumes nothing.
use Rattle.std.specs.Prelude.{ℕ, ◌+◌, ◌*◌, ◌<◌, ◌≡◌, cond, List, eqb}
use Rattle.octets.specs.Bytes.{be}
use Rattle.spot.specs.Spots.{key_at}
use Rattle.block.specs.declared.Entry.{Entry}
use Rattle.block.specs.declared.Front.{Front}
use Rattle.block.specs.Table.{version1}
use Rattle.block.specs.Node.{used_bytes}

-- "bytes 0-1 length of what is used; 2 version, 1; 3 level, 0 for a leaf; 4, 5, 6 the sizes of P, I and D; 7 the number c of children"
unfoldable pub front_of : List ℕ → Front
front_of s =
    record { used = be 2 s 0; version = be 1 s 2; level = be 1 s 3; p = be 1 s 4; i = be 1 s 5; d = be 1 s 6; c = be 1 s 7 }

-- its counts are bytes
pub record Small (h : Front) : Type 0 where
  pub p : h.p < 256
  pub i : h.i < 256
  pub d : h.d < 256
  pub c : h.c < 256

abbrev pub used_of : Front → ℕ
used_of h = used_bytes version1 h.c h.p h.i h.d

-- the i-th entry of a node, the first open below
unfoldable pub entry_of : List ℕ → ℕ → Entry
entry_of s i =
    record {
      block = be 2 s (8 + 28 * i);
      size = be 1 s (8 + 28 * i + 2);
      low = cond (eqb i 0) 0 (key_at s (8 + 28 * i + 4));
      top = cond (eqb (be 1 s (8 + 28 * i + 2)) 0) 0 (key_at s (8 + 28 * i + 12));
      bottom = cond (eqb (be 1 s (8 + 28 * i + 2)) 0) 0 (key_at s (8 + 28 * i + 20));
    }

-- r is that entry; its block number and its size are of two bytes and of one
pub record EntryIs (s : List ℕ) (i : ℕ) (r : Entry) : Type 0 where
  pub same : r ≡ entry_of s i
  pub near : r.block < 65536
  pub small : r.size < 256
