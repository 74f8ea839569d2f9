-- What a node in memory takes in, hands down, and becomes when it is cut (source section 4, steps i to v).
-- Assumes nothing.
use Rattle.std.specs.Prelude.{◌≡◌, ℕ, suc, ◌+◌, ◌/◌, ◌≤◌, ◌<◌, Bool, true, false, cond, not, length, take, drop, ltb, leb}
use mathlib.Core.List.{List, [], ◌++◌, Memᴰ}
use Rattle.std.proofs.Math.Option.{Option, none}
use Rattle.octets.specs.Lists.{has, keep}
use Rattle.octets.specs.Sets.{Apart}
use Rattle.spot.specs.Spots.{keys, find}
use Rattle.spot.specs.Sorted.{only}
use Rattle.spot.specs.declared.Spot.{Spot}
use Rattle.block.specs.declared.Entry.{Entry}
use Rattle.block.specs.Node.{first_open}
use Rattle.tree.specs.Lookup.{or_else}
use Rattle.buffer.specs.Buffer.{held, named}
use Rattle.node.specs.Memory.{entries_of, EntryAt}
use Rattle.node.specs.declared.Entries.{Entries}
use Rattle.node.specs.declared.NodeValue.{NodeValue}
use Rattle.update_theory.specs.Held.{insert_all, delete_all}
use Rattle.edit.specs.Edits.{held_in, Tidy, Threshold, Spilled, SpillPost, Half}
use Rattle.choose.specs.Choices.{ChildFor}
use Rattle.batch.specs.declared.Picked.{Picked}

-- what a batch says of a key, where d is said below: deletes come after inserts
abbrev pub batch_says : List Spot → List ℕ → ℕ → Option ℕ → Option ℕ
batch_says ss ks k d = cond (has k ks) none (or_else (find k ss) d)

-- a node as it is loaded, before it takes in ni inserts and nd deletes
pub record Receives (n : NodeValue) (ni nd : ℕ) : Type 0 where
  pub tidy : Tidy n
  pub points : n.points.n ≤ 64
  pub inserts : n.inserts.n ≤ 64
  pub deletes : n.deletes.n ≤ 16
  pub apart : Apart (keys (held n.points)) (keys (held n.inserts))
  pub few_i : ni ≤ 16
  pub few_d : nd ≤ 16

-- P's lowest went to I while P was over 64, but at a leaf
pub record SpilledInner (n x : NodeValue) : Type 0 where
  pub leaf : n.level ≡ 0 → x ≡ n
  pub inner : (n.level ≡ 0 → ⊥) → SpillPost n x

-- The inserts ss and the deletes ks were taken in by one threshold, noted before; then P's lowest went to I while P was over 64, but at a leaf.
pub record TakenIn (n : NodeValue) (ss : List Spot) (ks : List ℕ) (ni nd : ℕ) (r : NodeValue) : Type 0 where
  pub rank : ℕ
  pub threshold : Threshold n rank
  pub spilled : Spilled (delete_all rank ks (insert_all rank ss (held_in n))) (held_in r)
  pub leaf : n.level ≡ 0 → held_in r ≡ delete_all rank ks (insert_all rank ss (held_in n))
  pub tidy : Tidy r
  pub entries : r.entries ≡ n.entries
  pub level : r.level ≡ n.level
  pub most_p : (n.level ≡ 0 → ⊥) → r.points.n ≤ 64
  pub least_p : n.points.n ≤ r.points.n + (ni + nd)
  pub most_i : r.inserts.n ≤ n.inserts.n + ni
  pub most_d : r.deletes.n ≤ n.deletes.n + nd
  -- nothing waits at a leaf
  pub leaf_i : n.level ≡ 0 → n.inserts.n ≡ 0 → r.inserts.n ≡ 0
  pub leaf_d : n.level ≡ 0 → n.deletes.n ≡ 0 → r.deletes.n ≡ 0

-- what is handed down to the child: some of the inserts, or some of the deletes; the others stay
pub data Parted (n : NodeValue) (r : Picked) : Type 0 where
  by_inserts : (stay : ℕ → Bool)
      → held r.inserts ≡ only (λ j. not (stay j)) (held n.inserts) → named r.deletes ≡ []
      → held_in r.node ≡ record { points = held n.points; inserts = only stay (held n.inserts); deletes = named n.deletes }
      → Parted n r
  by_deletes : (stay : ℕ → Bool)
      → named r.deletes ≡ keep (λ j. not (stay j)) (named n.deletes) → held r.inserts ≡ []
      → held_in r.node ≡ record { points = held n.points; inserts = held n.inserts; deletes = keep stay (named n.deletes) }
      → Parted n r

-- where a part of `want` from start on ends, or a shorter one that would pass end
pub record Bound (start end want r : ℕ) : Type 0 where
  pub from : start ≤ r
  pub to : r ≤ end
  pub most : r ≤ start + want
  pub exact : start + want ≤ end → r ≡ start + want

-- the child, what is handed down to it, and the node without that
pub record Picking (n : NodeValue) (r : Picked) : Type 0 where
  pub there : r.child < n.entries.n
  pub parted : Parted n r
  -- all of it lies in that child's range
  pub for_i : (k : ℕ) → Memᴰ k (keys (held r.inserts)) → ChildFor (entries_of n.entries) k r.child
  pub for_d : (k : ℕ) → Memᴰ k (named r.deletes) → ChildFor (entries_of n.entries) k r.child
  pub tidy : Tidy r.node
  pub entries : r.node.entries ≡ n.entries
  pub level : r.node.level ≡ n.level
  pub points : r.node.points ≡ n.points
  pub most_i : r.node.inserts.n ≤ n.inserts.n
  pub most_d : r.node.deletes.n ≤ n.deletes.n
  pub few_i : r.inserts.n ≤ 16
  pub few_d : r.deletes.n ≤ 16
  -- what does not stay goes down: an eighth of what overflows, rounded up
  pub whole_i : r.node.inserts.n + r.inserts.n ≡ n.inserts.n
  pub whole_d : r.node.deletes.n + r.deletes.n ≡ n.deletes.n
  pub eighth_i : 64 < n.inserts.n → r.inserts.n ≡ (n.inserts.n + 7) / 8
  pub eighth_d : n.inserts.n ≤ 64 → r.deletes.n ≡ (n.deletes.n + 7) / 8

-- of the entries ds the c-th became these
pub record EntriesBack (ds : Entries) (c : ℕ) (es : List Entry) (r : Entries) : Type 0 where
  pub entries : entries_of r ≡ take c (entries_of ds) ++ (es ++ drop (suc c) (entries_of ds))
  pub count : r.n + 1 ≡ ds.n + length es

-- the c-th entry became these
pub record PutBack (n : NodeValue) (c : ℕ) (es : List Entry) (r : NodeValue) : Type 0 where
  pub entries : entries_of r.entries ≡ take c (entries_of n.entries) ++ (es ++ drop (suc c) (entries_of n.entries))
  pub count : r.entries.n + 1 ≡ n.entries.n + length es
  pub level : r.level ≡ n.level
  pub points : r.points ≡ n.points
  pub inserts : r.inserts ≡ n.inserts
  pub deletes : r.deletes ≡ n.deletes

-- where a node is cut in two: a leaf between two of its points, an inner node of eight entries in the middle
pub record CutKey (n : NodeValue) (sep : ℕ) : Type 0 where
  pub leaf : n.entries.n ≡ 0 → Memᴰ sep (keys (held n.points)) × ((k : ℕ) × Memᴰ k (keys (held n.points)) × (k < sep))
  pub inner : n.entries.n ≡ 8 → (e : Entry) × EntryAt (entries_of n.entries) 4 e × (sep ≡ e.low)

-- the keys below, and the others
abbrev pub Lower : NodeValue → ℕ → NodeValue → Type 0
Lower n sep x = Half n x (λ j. ltb j sep) (take (n.entries.n / 2) (entries_of n.entries))

abbrev pub Upper : NodeValue → ℕ → NodeValue → Type 0
Upper n sep x = Half n x (λ j. leb sep j) (first_open (drop (n.entries.n / 2) (entries_of n.entries)))

pub record HalfOf (n : NodeValue) (sep : ℕ) (upper : Bool) (x : NodeValue) : Type 0 where
  pub below : upper ≡ false → Lower n sep x
  pub above : upper ≡ true → Upper n sep x
