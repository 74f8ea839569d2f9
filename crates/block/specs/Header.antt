-- Block 0, the header.
-- Assumes nothing.
use Rattle.std.specs.Prelude.{ℕ, Bool, List, take, drop, eqb}
use Rattle.octets.specs.Lists.{every}
use Rattle.octets.specs.Bytes.{be}
use Rattle.block.specs.Table.{block, map_bytes}

-- `blank` says that the unnamed bytes are zero; `bound` is the figure that is never below the live count
pub record Header : Type 0 where
  pub bytes : ℕ
  pub version : ℕ
  pub levels : ℕ
  pub root : ℕ
  pub bound : ℕ
  pub in_use : List ℕ
  pub blank : Bool

-- "Block 0: bytes 0-3 table length in bytes; 4 version, 1; 5 number of levels h, 1 to 7; 6-7 root block; 8-11 a figure never below the live count and never
-- above capacity; 12-523 the map of blocks in use"; "Unnamed bytes of block 0 and of nodes are zero"
unfoldable pub header_of : List ℕ → Header
header_of s =
    record {
      bytes = be 4 s 0;
      version = be 1 s 4;
      levels = be 1 s 5;
      root = be 2 s 6;
      bound = be 4 s 8;
      in_use = take map_bytes (drop 12 s);
      blank = every (λ x. eqb x 0) (drop 524 s);
    }

unfoldable pub head_of : List ℕ → Header
head_of t = header_of (block t 0)
