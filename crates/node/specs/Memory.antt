-- A node in memory: what it stands for, and what it is to be stored and loaded.
-- Assumes nothing.
use Rattle.std.specs.Prelude.{◌≡◌, ℕ, suc, ◌≤◌, ◌<◌, true, length, take, drop}
use mathlib.Core.List.{List, ◌∷◌, ◌++◌, Memᴰ}
use Rattle.block.specs.declared.Entry.{Entry}
use Rattle.block.specs.Table.{blocks_of, block}
use Rattle.block.specs.Node.{Node, node_of, store_of}
use Rattle.block.specs.NodeRules.{zero_first, lows}
use Rattle.buffer.specs.Buffer.{held, named, Ordered, OrderedKeys}
use Rattle.node.specs.declared.Entries.{Entries}
use Rattle.node.specs.declared.NodeValue.{NodeValue}

-- the child entries of a node in memory
abbrev pub entries_of : Entries → List Entry
entries_of es = take es.n es.list

-- the node that a value in memory stands for, in a table of `room` blocks
abbrev pub node_in : ℕ → NodeValue → Node
node_in room n =
    record {
      level = n.level;
      entries = entries_of n.entries;
      points = held n.points;
      inserts = held n.inserts;
      deletes = named n.deletes;
      laid = true;
      room = room;
    }

-- an entry as a block can hold it: where the child's P is empty, the last two fields are zero
pub record EntryFits (e : Entry) : Type 0 where
  pub block : e.block < 65536
  pub size : e.size < 256
  pub top : e.size ≡ 0 → e.top ≡ 0
  pub bottom : e.size ≡ 0 → e.bottom ≡ 0

-- "A node's child entries are at most eight": an array of eight, of which the first n are in use
pub record EntriesFit (es : Entries) : Type 0 where
  pub few : es.n ≤ 8
  pub each : (e : Entry) → Memᴰ e (entries_of es) → EntryFits e

-- the sizes with which a node may be stored
pub record Storable (n : NodeValue) : Type 0 where
  pub level : n.level < 256
  pub entries : EntriesFit n.entries
  pub first : zero_first (lows (entries_of n.entries)) ≡ true
  pub points : n.points.n ≤ 64
  pub inserts : n.inserts.n ≤ 64
  pub deletes : n.deletes.n ≤ 16

-- the node stands in block b of the table, and every other block is as it was
pub record Stored (t t' : List ℕ) (b : ℕ) (n : NodeValue) : Type 0 where
  pub here : store_of t' b ≡ node_in (blocks_of (length t)) n
  pub else : (z : ℕ) → (z ≡ b → ⊥) → block t' z ≡ block t z
  pub sized : length t' ≡ length t

-- the node of a block that keeps the rules
pub record Loaded (t : List ℕ) (b : ℕ) (n : NodeValue) : Type 0 where
  pub is : node_in (blocks_of (length t)) n ≡ store_of t b
  pub storable : Storable n
  pub points : Ordered n.points
  pub inserts : Ordered n.inserts
  pub deletes : OrderedKeys n.deletes

-- e is the i-th of some entries
pub record EntryAt (es : List Entry) (i : ℕ) (e : Entry) : Type 0 where
  pub split : es ≡ take i es ++ (e ∷ drop (suc i) es)
  pub there : Memᴰ e es

-- the node in the bytes of a block, whatever the table
pub record StoredIn (s : List ℕ) (n : NodeValue) : Type 0 where
  pub is : (room : ℕ) → node_of room s ≡ node_in room n
  pub sized : length s ≡ 2048
