-- The node loaded from the bytes of a block.
-- Assumes nothing.
use Rattle.std.specs.Prelude.{ℕ, ◌≡◌, List}
use Rattle.block.specs.Node.{node_of}
use Rattle.buffer.specs.Buffer.{Ordered, OrderedKeys}
use Rattle.node.specs.declared.Entries.{Entries}
use Rattle.node.specs.declared.NodeValue.{NodeValue}
use Rattle.node.specs.Memory.{entries_of, node_in, EntriesFit, Storable}

-- the entries of the node in a block, whatever the table
pub record EntriesLoaded (s : List ℕ) (es : Entries) : Type 0 where
  pub is : (room : ℕ) → entries_of es ≡ (node_of room s).entries
  pub fit : EntriesFit es

-- the node of a block that keeps the rules, whatever the table
pub record LoadedIn (s : List ℕ) (n : NodeValue) : Type 0 where
  pub is : (room : ℕ) → node_in room n ≡ node_of room s
  pub storable : Storable n
  pub points : Ordered n.points
  pub inserts : Ordered n.inserts
  pub deletes : OrderedKeys n.deletes
