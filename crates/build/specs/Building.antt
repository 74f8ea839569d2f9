-- What the functions that build a tree are handed and hand back. The list of spots stands in bytes, 12 a spot, in place order.
-- Assumes nothing.
use Rattle.std.specs.Prelude.{◌≡◌, ◌⊎◌, ℕ, suc, ◌+◌, ◌*◌, ◌≤◌, ◌<◌, max, true, ◌||◌, List, length, drop, replicate, leb, Some, None}
use Rattle.std.specs.Prelude as maybe
use Rattle.octets.specs.Lists.{rising}
use Rattle.octets.specs.Bytes.{be}
use Rattle.octets.specs.Bitmap.{bit}
use Rattle.spot.specs.Spots.{keys, spots_from, limited_from}
use Rattle.spot.specs.declared.Spot.{Spot}
use Rattle.block.specs.Table.{blocks_of, block, map_blocks, capacity, table_sized}
use Rattle.block.specs.Header.{Header, head_of}
use Rattle.block.specs.HeaderRules.{header_ok}
use Rattle.block.specs.Node.{Node, store_of, first_open}
use Rattle.block.specs.NodeRules.{agrees}
use Rattle.block.specs.declared.Entry.{Entry}
use Rattle.block.specs.declared.Asked.TheVariants.{Child}
use Rattle.node.specs.declared.Entries.{Entries}
use Rattle.node.specs.Memory.{EntryFits, EntriesFit}
use Rattle.rebuild_theory.specs.Build.{leaves, nodes, fans_ok, shape_of, shape, band, built_node}
use Rattle.build.specs.declared.Fans.{Fans}

-- a limit above every key it admits: 0 admits none, 2^64 admits all
abbrev pub limit_of : maybe.Option ℕ → ℕ
limit_of None = 0
limit_of (Some last) = suc last

-- a part of the list of rising spots
pub record Segment (list : List ℕ) (from n : ℕ) : Type 0 where
  pub inside : 12 * (from + n) ≤ length list
  pub few : n ≤ 65520
  pub rises : rising (keys (spots_from list from n)) ≡ true
  pub limits : limited_from list 12 n (12 * from) ≡ true

-- a rank key from which on a node takes 32 to 64 of the spots under the limit, or all of them
pub record Cut (list : List ℕ) (from n : ℕ) (limit : maybe.Option ℕ) (c : ℕ) : Type 0 where
  pub most : length (band c (limit_of limit) (spots_from list from n)) ≤ 64
  pub least : (32 ≤ length (band c (limit_of limit) (spots_from list from n))) ⊎ (c ≡ 0)
  pub under : c ≤ limit_of limit

-- a segment that a tree of this shape is to be built of, from a block on
pub record Buildable (t list : List ℕ) (from n fan next height b : ℕ) : Type 0 where
  pub segment : Segment list from n
  pub fans : fans_ok 2 (shape_of fan next height) ≡ true
  pub near : next ≤ 8
  pub high : height ≤ 5
  pub enough : leaves (shape_of fan next height) ≤ max 1 n
  pub room : n ≤ 32 * leaves (shape_of fan next height)
  pub first : 1 ≤ b
  pub last : b + nodes (shape_of fan next height) ≤ blocks_of (length t)
  pub blocks : blocks_of (length t) ≤ 4096

-- block 0 says: h levels, root block 1, bound n, blocks 0 to z in use; every other block is as it was
pub record HeaderWritten (t t' : List ℕ) (h n z : ℕ) : Type 0 where
  pub ok : header_ok (length t) (head_of t') ≡ true
  pub levels : (head_of t').levels ≡ h
  pub root : (head_of t').root ≡ 1
  pub bound : (head_of t').bound ≡ n
  pub in_use : (b : ℕ) → b < map_blocks → bit (head_of t').in_use b ≡ leb b z
  pub else : (b : ℕ) → (b ≡ 0 → ⊥) → block t' b ≡ block t b
  pub sized : length t' ≡ length t

-- what block 0 can say of a table
pub record HeaderFits (t : List ℕ) (h n z : ℕ) : Type 0 where
  pub sized : table_sized (length t) ≡ true
  pub least : 1 ≤ h
  pub most : h ≤ 7
  pub bound : n ≤ capacity (length t)
  pub first : 1 ≤ z
  pub inside : z < blocks_of (length t)

-- the numbers at the front of block 0, and zeros after them
pub record NumbersAre (s : List ℕ) (size h n : ℕ) : Type 0 where
  pub bytes : be 4 s 0 ≡ size
  pub version : be 1 s 4 ≡ 1
  pub levels : be 1 s 5 ≡ h
  pub root : be 2 s 6 ≡ 1
  pub bound : be 4 s 8 ≡ n
  pub blank : drop 12 s ≡ replicate 2036 0

-- the same of a header, with the map of blocks 0 to z
pub record HeadSays (r : Header) (size h n z : ℕ) : Type 0 where
  pub bytes : r.bytes ≡ size
  pub version : r.version ≡ 1
  pub levels : r.levels ≡ h
  pub root : r.root ≡ 1
  pub bound : r.bound ≡ n
  pub in_use : (b : ℕ) → bit r.in_use b ≡ leb b z
  pub blank : r.blank ≡ true

-- the blocks up to z are marked besides those that were
pub record FirstMarked (m m' : List ℕ) (z : ℕ) : Type 0 where
  pub bits : (b : ℕ) → bit m' b ≡ (leb b z || bit m b)
  pub sized : length m' ≡ length m

-- the fan-outs for n spots
pub record ShapeIs (n : ℕ) (r : Fans) : Type 0 where
  pub is : shape_of r.fan r.next r.height ≡ shape n
  pub fan : r.fan ≤ 8
  pub next : r.next ≤ 8
  pub high : r.height ≤ 5

-- the entry of a node in block b whose range begins at k, and whose points are ps
pub record EntryOfPoints (b k : ℕ) (ps : List Spot) (e : Entry) : Type 0 where
  pub at : e.block ≡ b
  pub low : e.low ≡ k
  pub agree : (m : Node) → m.points ≡ ps → agrees (Child e) m ≡ true
  pub fits : EntryFits e

-- a node that can be stored in block b: the spots of a segment with a rank key from c up to, and without, x, over these entries
pub record Own (t list : List ℕ) (from n c x level : ℕ) (es : Entries) (b : ℕ) : Type 0 where
  pub segment : Segment list from n
  pub most : length (band c x (spots_from list from n)) ≤ 64
  pub shallow : level ≤ 6
  pub entries : EntriesFit es
  pub inside : b * 2048 + 2048 ≤ length t
  pub near : b < 65536

-- that node, stored, and its entry
pub record OwnPut (t t' : List ℕ) (b level : ℕ) (es : List Entry) (ps : List Spot) (k : ℕ) (e : Entry) : Type 0 where
  pub is : store_of t' b ≡ built_node (blocks_of (length t)) level (first_open es) ps
  pub else : (z : ℕ) → (z ≡ b → ⊥) → block t' z ≡ block t z
  pub sized : length t' ≡ length t
  pub entry : EntryOfPoints b k ps e
