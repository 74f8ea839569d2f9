-- A node in its block: child entries, points, inserts (waiting additions) and deletes (waiting withdrawals). Every file above sees a node by `Node` alone.
-- Assumes nothing.
use Rattle.std.specs.Prelude.{ℕ, ◌+◌, ◌*◌, Bool, cond, not, ◌&&◌, ◌||◌, List, [], ◌∷◌, length, drop, leb, eqb}
use Rattle.octets.specs.Lists.{all, every, records}
use Rattle.octets.specs.Bytes.{be}
use Rattle.spot.specs.Spots.{key_at, spot_at}
use Rattle.spot.specs.declared.Spot.{Spot}
use Rattle.block.specs.declared.Entry.{Entry}
use Rattle.block.specs.Table.{Widths, version1, blocks_of, block}

-- "A child entry: block (2 bytes), size of the child's P (1), zero (1), the lowest identity of the child's range in place order (8), the highest and
-- the lowest identity of its P in rank order (8 each)." "Where the child's P is empty the last two are zero and unused": they read as 0.
unfoldable pub entry_at : List ℕ → ℕ → Entry
entry_at s i =
    record {
      block = be 2 s i;
      size = be 1 s (i + 2);
      low = key_at s (i + 4);
      top = cond (eqb (be 1 s (i + 2)) 0) 0 (key_at s (i + 12));
      bottom = cond (eqb (be 1 s (i + 2)) 0) 0 (key_at s (i + 20));
    }

abbrev pub open_below : Entry → Entry
open_below e = record { block = e.block; size = e.size; low = 0; top = e.top; bottom = e.bottom }

-- "In the first child's entry the range field is zero and unused": `low` is 0 there, a range that has no lower end of its own
abbrev pub first_open : List Entry → List Entry
first_open [] = []
first_open (e ∷ es) = open_below e ∷ es

-- the zero bytes of the entry at i: "zero (1)", and "Where the child's P is empty the last two are zero"
unfoldable pub entry_blank : List ℕ → ℕ → Bool
entry_blank s i = eqb (be 1 s (i + 3)) 0 && (not (eqb (be 1 s (i + 2)) 0) || (eqb (be 8 s (i + 12)) 0 && eqb (be 8 s (i + 20)) 0))

-- "In the first child's entry the range field is zero"
unfoldable pub first_blank : List ℕ → ℕ → Bool
first_blank s c = eqb c 0 || eqb (be 8 s 12) 0

-- a node. `laid` says that version, used length and zero bytes are as laid out; `room` is the number of blocks of the table that it stands in; the other
-- fields are what the node holds
pub record Node : Type 0 where
  pub level : ℕ
  pub entries : List Entry
  pub points : List Spot
  pub inserts : List Spot
  pub deletes : List ℕ
  pub laid : Bool
  pub room : ℕ

-- where the entries begin
abbrev pub entries_from : ℕ
entries_from = 8

-- "Then come c child entries of 28 bytes, P, I and D": where each begins, and "The used length is 8 + 28c + 12(P + I) + 8D"
abbrev pub points_from : Widths → ℕ → ℕ
points_from w c = entries_from + w.entry * c

abbrev pub inserts_from : Widths → ℕ → ℕ → ℕ
inserts_from w c p = entries_from + w.entry * c + w.spot * p

abbrev pub deletes_from : Widths → ℕ → ℕ → ℕ → ℕ
deletes_from w c p i = entries_from + w.entry * c + w.spot * (p + i)

abbrev pub used_bytes : Widths → ℕ → ℕ → ℕ → ℕ → ℕ
used_bytes w c p i d = entries_from + w.entry * c + w.spot * (p + i) + w.identity * d

-- "bytes 0-1 length of what is used; 2 version, 1", "at most 1,896", "Unnamed bytes .. of nodes are zero"
unfoldable pub laid_out : Widths → List ℕ → ℕ → ℕ → ℕ → ℕ → Bool
laid_out w s c p i d =
    all (
    eqb (be 2 s 0) (used_bytes w c p i d) ∷
    leb (used_bytes w c p i d) w.used ∷
    eqb (be 1 s 2) 1 ∷
    every (λ x. eqb x 0) (drop (used_bytes w c p i d) s) ∷
    all (records (entry_blank s) w.entry c entries_from) ∷
    first_blank s c ∷
    [])

unfoldable pub node_from : Widths → ℕ → List ℕ → ℕ → ℕ → ℕ → ℕ → Node
node_from w blocks s c p i d =
    record {
      level = be 1 s 3;
      entries = first_open (records (entry_at s) w.entry c entries_from);
      points = records (spot_at s) w.spot p (points_from w c);
      inserts = records (spot_at s) w.spot i (inserts_from w c p);
      deletes = records (key_at s) w.identity d (deletes_from w c p i);
      laid = laid_out w s c p i d;
      room = blocks;
    }

-- "3 level, 0 for a leaf; 4, 5, 6 the sizes of P, I and D; 7 the number c of children"
unfoldable pub node_of : ℕ → List ℕ → Node
node_of blocks s = node_from version1 blocks s (be 1 s 7) (be 1 s 4) (be 1 s 5) (be 1 s 6)

-- what a walk of the tree may look at: the node in each block
abbrev pub Store : Type 0
Store = ℕ → Node

unfoldable pub store_of : List ℕ → Store
store_of t b = node_of (blocks_of (length t)) (block t b)
