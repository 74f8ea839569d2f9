-- Changes to a node in memory.
-- Assumes nothing.
use Rattle.std.specs.Prelude.{◌≡◌, ◌⊎◌, ℕ, suc, ◌+◌, ◌≤◌, ◌<◌, Bool, true, length, take, drop, Option, Some, None}
use mathlib.Core.List.{List, ◌∷◌, ◌++◌, Memᴰ}
use Rattle.octets.specs.Lists.{keep}
use Rattle.spot.specs.Keys.{rank_key}
use Rattle.spot.specs.Spots.{put}
use Rattle.spot.specs.Sorted.{only, but}
use Rattle.spot.specs.declared.Spot.{Spot}
use Rattle.block.specs.declared.Entry.{Entry}
use Rattle.block.specs.declared.Asked.TheVariants.{Child}
use Rattle.block.specs.NodeRules.{agrees}
use Rattle.buffer.specs.Buffer.{held, named, Ordered, OrderedKeys, LowestIn}
use Rattle.node.specs.declared.Entries.{Entries}
use Rattle.node.specs.Memory.{entries_of, node_in, EntryFits}
use Rattle.node.specs.declared.NodeValue.{NodeValue}
use Rattle.update_theory.specs.Held.{Held}

-- the buffers of a node in memory
abbrev pub held_in : NodeValue → Held
held_in n = record { points = held n.points; inserts = held n.inserts; deletes = named n.deletes }

-- its buffers are in order
pub record Tidy (n : NodeValue) : Type 0 where
  pub points : Ordered n.points
  pub inserts : Ordered n.inserts
  pub deletes : OrderedKeys n.deletes

-- only the buffers were changed: r holds b, and its buffers have at most these sizes
pub record Edited (n r : NodeValue) (b : Held) (p i d : ℕ) : Type 0 where
  pub holds : held_in r ≡ b
  pub tidy : Tidy r
  pub entries : r.entries ≡ n.entries
  pub level : r.level ≡ n.level
  pub points : r.points.n ≤ p
  pub inserts : r.inserts.n ≤ i
  pub deletes : r.deletes.n ≤ d

-- P was over 64: its lowest went to I, one after the other
pub data Spilled : Held → Held → Type 0 where
  none : {b : Held} → Spilled b b
  more : {b c : Held} (q : Spot) → LowestIn b.points q
      → Spilled (record { points = only (but q.key) b.points; inserts = put q b.inserts; deletes = b.deletes }) c
      → Spilled b c

-- an entry for a node that stands in block b, with this low
pub record EntryFor (b floor : ℕ) (n : NodeValue) (e : Entry) : Type 0 where
  pub block : e.block ≡ b
  pub low : e.low ≡ floor
  pub agree : (room : ℕ) → agrees (Child e) (node_in room n) ≡ true
  pub fits : b < 65536 → EntryFits e
  pub size : e.size ≡ n.points.n

-- of the entries whose child has points, the one with the highest top in rank order is the i-th; or none has any
pub record BestChild (es : List Entry) (i : ℕ) : Type 0 where
  pub some : i < length es → (e : Entry) × (es ≡ take i es ++ (e ∷ drop (suc i) es)) × (e.size ≡ 0 → ⊥)
      × ((d : Entry) → Memᴰ d es → (d.size ≡ 0 → ⊥) → rank_key d.top ≤ rank_key e.top)
  pub none : length es ≤ i → (d : Entry) → Memᴰ d es → d.size ≡ 0

-- that one, or none
abbrev pub BestOf : Entries → Option ℕ → Type 0
BestOf es (Some i) = (i < es.n) × BestChild (entries_of es) i
BestOf es None = BestChild (entries_of es) es.n

pub record SpillPost (n x : NodeValue) : Type 0 where
  pub spilled : Spilled (held_in n) (held_in x)
  pub tidy : Tidy x
  pub entries : x.entries ≡ n.entries
  pub level : x.level ≡ n.level
  pub few : x.points.n ≤ 64
  pub full : 64 < n.points.n → x.points.n ≡ 64
  pub kept : n.points.n ≤ 64 → x ≡ n
  pub total : x.points.n + x.inserts.n ≡ n.points.n + n.inserts.n
  pub deletes : x.deletes ≡ n.deletes

-- r is the rank key of P's lowest, or 0
pub record Threshold (n : NodeValue) (r : ℕ) : Type 0 where
  pub nothing : (n.level ≡ 0) ⊎ (n.points.n < 32) → r ≡ 0
  pub lowest : (n.level ≡ 0 → ⊥) → 32 ≤ n.points.n → (q : Spot) × LowestIn (held n.points) q × (r ≡ rank_key q.key)

-- x has the keys of n that pass g, and the entries es
pub record Half (n x : NodeValue) (g : ℕ → Bool) (es : List Entry) : Type 0 where
  pub holds : held_in x ≡ record { points = only g (held n.points); inserts = only g (held n.inserts); deletes = keep g (named n.deletes) }
  pub tidy : Tidy x
  pub entries : entries_of x.entries ≡ es
  pub count : x.entries.n ≡ length es
  pub level : x.level ≡ n.level
  pub points : x.points.n ≤ n.points.n
  pub inserts : x.inserts.n ≤ n.inserts.n
  pub deletes : x.deletes.n ≤ n.deletes.n
