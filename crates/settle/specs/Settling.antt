-- What settle, push and the functions between them are handed and hand back. They answer `Ok` only where all went well; then, where the part was sound, the
-- one or two parts that it became are sound, and say of every key what the batch says, else what was said before. Where the part was sound they fail at most for
-- want of room. Whatever they answer, the journal can still tell what was.
-- Assumes nothing.
use Rattle.std.specs.Prelude.{◌≡◌, ℕ, suc, ◌≤◌, ◌<◌, ◌⊎◌, Bool, true, false, length, Some, None, IfSome, Result, MatchResult}
use Rattle.std.specs.Prelude as maybe
use mathlib.Core.List.{List, [], ◌∷◌, Memᴰ}
use Rattle.std.proofs.Math.Option.{Option}
use Rattle.octets.specs.Lists.{every, rest, rising}
use Rattle.octets.specs.Sets.{Apart}
use Rattle.spot.specs.Keys.{within}
use Rattle.spot.specs.Spots.{keys}
use Rattle.spot.specs.declared.Spot.{Spot}
use Rattle.block.specs.declared.Entry.{Entry}
use Rattle.block.specs.declared.Asked.{Asked}
use Rattle.block.specs.declared.Asked.TheVariants.{Root, Child}
use Rattle.block.specs.Table.{blocks_of}
use Rattle.block.specs.Node.{Store, store_of}
use Rattle.block.specs.NodeRules.{zero_first, lows, fewest, ValidBlock}
use Rattle.tree.specs.Part.{Part, Legal, parts, low_of}
use Rattle.tree.specs.Lookup.{lookup}
use Rattle.update_theory.specs.Change.{part, reaches, Sound, Changed}
use Rattle.update_theory.specs.Spare.{Taken}
use Rattle.update_theory.specs.Open.{Open}
use Rattle.update_theory.specs.Going.{Going}
use Rattle.update_theory.specs.Rounds.{FilledUp}
use Rattle.node.specs.Memory.{entries_of, EntriesFit, EntryFits, Loaded, Stored}
use Rattle.node.specs.declared.NodeValue.{NodeValue}
use Rattle.edit.specs.Edits.{held_in, Tidy, EntryFor}
use Rattle.journal.specs.Journal.{Undoable}
use Rattle.fill.specs.declared.Failure.{Failure}
use Rattle.fill.specs.declared.Failure.TheVariants.{NoRoom}
use Rattle.fill.specs.Filling.{Inside, Workable, OnNode, FillDone}
use Rattle.spare.specs.declared.Spare.{Spare}
use Rattle.spare.specs.Spares.{spare_of, SpareFits}
use Rattle.batch.specs.Batches.{batch_says, TakenIn}
use Rattle.settle.specs.declared.Settled.{Settled}
use Rattle.settle.specs.declared.Worked.{Worked}
use Rattle.settle.specs.declared.Finished.{Finished}

-- what leads to a part that was settled as one: the root stays the root
abbrev pub again : Asked → Entry → Asked
again (Root b) e = Root b
again (Child d) e = Child e

-- what the part at block b with the range [lo, hi) became: itself again, or two, apart at the low of the second
abbrev pub became_as : ℕ → Asked → ℕ → ℕ → Entry → maybe.Option Entry → List Part
became_as b asked lo hi e (Some d) = part b (Child e) lo d.low ∷ part d.block (Child d) d.low hi ∷ []
became_as b asked lo hi e None = part b (again asked e) lo hi ∷ []

abbrev pub became : ℕ → Asked → ℕ → ℕ → Settled → List Part
became b asked lo hi r = became_as b asked lo hi r.first r.second

-- a part was settled with the inserts ss and the deletes ks
pub record SettledTo (x y : Store) (level b : ℕ) (asked : Asked) (lo hi : ℕ) (ss : List Spot) (ks : List ℕ) (spare : Spare) (left : ℕ) (r : Settled) : Type 0 where
  pub changed : Changed (suc level) (Taken (spare_of spare left) (spare_of spare r.left)) x (part b asked lo hi ∷ []) y (became b asked lo hi r)
      (λ k. batch_says ss ks k (lookup (suc level) x k (part b asked lo hi)))
  pub apart : IfSome r.second (λ d. (lo < d.low) × (d.low < hi))

-- the part at block b may be settled: the block is of the table, and so are the spare blocks
pub record Settleable (t s map : List ℕ) (b level : ℕ) (ni nd : ℕ) (spare : Spare) (left : ℕ) : Type 0 where
  pub undoable : Undoable t s map
  pub inside : b < blocks_of (length t)
  pub first : 1 ≤ b
  pub deep : level ≤ 6
  pub few_i : ni ≤ 16
  pub few_d : nd ≤ 16
  pub spares : SpareFits t spare
  pub less : left ≤ spare.n

-- what holds where the part is sound, its range is legal, the batch lies in it, and it reaches no spare block
abbrev pub WhereSound : List ℕ → ℕ → ℕ → Asked → List Spot → List ℕ → Spare → ℕ → (ℕ → ℕ → Type 0) → Type 0
WhereSound t level b asked ss ks spare left Then =
    (lo hi : ℕ) → lo ≤ hi → Legal lo hi → low_of asked ≤ lo
    → ((k : ℕ) → Memᴰ k (keys ss) → within lo hi k ≡ true) → ((k : ℕ) → Memᴰ k ks → within lo hi k ≡ true)
    → Sound (suc level) (store_of t) (part b asked lo hi ∷ []) → Apart (spare_of spare left) (reaches (suc level) (store_of t) (part b asked lo hi ∷ []))
    → Then lo hi

pub record SettleDone (t t' : List ℕ) (level b : ℕ) (asked : Asked) (ss : List Spot) (ks : List ℕ) (spare : Spare) (left : ℕ) (r : Settled) : Type 0 where
  pub fewer : r.left ≤ left
  pub block : r.first.block ≡ b
  pub low : r.first.low ≡ low_of asked
  pub fits : EntryFits r.first
  pub second : IfSome r.second (λ d. (1 ≤ d.block) × (d.block < blocks_of (length t)) × EntryFits d)
  pub done : WhereSound t level b asked ss ks spare left (λ lo hi. SettledTo (store_of t) (store_of t') level b asked lo hi ss ks spare left r)

pub record SettleFailed (t : List ℕ) (level b : ℕ) (asked : Asked) (ss : List Spot) (ks : List ℕ) (spare : Spare) (left : ℕ) (e : Failure) : Type 0 where
  pub whole : WhereSound t level b asked ss ks spare left (λ lo hi. e ≡ NoRoom)

abbrev pub SettlePost : List ℕ → List ℕ → ℕ → ℕ → Asked → List Spot → List ℕ → Spare → ℕ → Result Settled Failure → Type 0
SettlePost t t' level b asked ss ks spare left r = MatchResult r (SettleDone t t' level b asked ss ks spare left) (SettleFailed t level b asked ss ks spare left)

-- the lows of a node's entries: the first's is 0, the others rise within the range
pub record LowsFit (lo hi : ℕ) (es : List Entry) : Type 0 where
  pub zero : zero_first (lows es) ≡ true
  pub rise : rising (rest (lows es)) ≡ true
  pub inside : every (within lo hi) (rest (lows es)) ≡ true

-- a node in memory was worked on: from n over the store x to r over the store y, and what is found through it is the same
pub record WorkedTo (x y : Store) (level lo hi : ℕ) (n r : NodeValue) (spare : Spare) (left left' : ℕ) (f : ℕ → Option ℕ) : Type 0 where
  pub rank : ℕ
  pub going : Going level lo hi x (spare_of spare left) (entries_of n.entries) y (spare_of spare left') rank (entries_of r.entries) (held_in r) f
  pub lows_fit : LowsFit lo hi (entries_of r.entries)

-- what is known of it before
pub record Opened (x : Store) (level lo hi : ℕ) (n : NodeValue) (spare : Spare) (left : ℕ) (f : ℕ → Option ℕ) : Type 0 where
  pub order : lo ≤ hi
  pub legal : Legal lo hi
  pub rank : ℕ
  pub node : Open level x lo hi rank (entries_of n.entries) (held_in n) f
  pub lows_fit : LowsFit lo hi (entries_of n.entries)
  pub free : Apart (spare_of spare left) (reaches level x (parts lo hi (entries_of n.entries)))

-- it may be worked on
pub record Pushable (t s map : List ℕ) (n : NodeValue) (level : ℕ) (spare : Spare) (left : ℕ) : Type 0 where
  pub works : Workable t s map n level
  pub spares : SpareFits t spare
  pub less : left ≤ spare.n
  pub zero : zero_first (lows (entries_of n.entries)) ≡ true
  pub rise : rising (rest (lows (entries_of n.entries))) ≡ true

-- push: the node again, over the store as it is then
pub record WorkDone (t t' s' map' : List ℕ) (level : ℕ) (n : NodeValue) (spare : Spare) (left : ℕ) (r : Worked) : Type 0 where
  pub works : Workable t' s' map' r.node level
  pub fewer : r.left ≤ left
  pub zero : zero_first (lows (entries_of r.node.entries)) ≡ true
  pub more : length (entries_of n.entries) ≤ length (entries_of r.node.entries)
  pub most_i : r.node.inserts.n ≤ n.inserts.n
  pub most_d : r.node.deletes.n ≤ n.deletes.n
  pub leaf : level ≡ 0 → length (entries_of r.node.entries) ≡ length (entries_of n.entries)
  pub done : (lo hi : ℕ) (f : ℕ → Option ℕ) → Opened (store_of t) level lo hi n spare left f
      → WorkedTo (store_of t) (store_of t') level lo hi n r.node spare left r.left f

-- a node could not be worked on: where it stood open, for want of room
pub record Roomless (t : List ℕ) (level : ℕ) (n : NodeValue) (spare : Spare) (left : ℕ) (e : Failure) : Type 0 where
  pub whole : (lo hi : ℕ) (f : ℕ → Option ℕ) → Opened (store_of t) level lo hi n spare left f → e ≡ NoRoom

pub record WorkFailed (t t' s' map' : List ℕ) (level : ℕ) (n : NodeValue) (spare : Spare) (left : ℕ) (e : Failure) : Type 0 where
  pub undoable : Undoable t' s' map'
  pub roomless : Roomless t level n spare left e

abbrev pub WorkPost : List ℕ → List ℕ → List ℕ → List ℕ → ℕ → NodeValue → Spare → ℕ → Result Worked Failure → Type 0
WorkPost t t' s' map' level n spare left r = MatchResult r (WorkDone t t' s' map' level n spare left) (WorkFailed t t' s' map' level n spare left)

-- the push and the filling of one node: the sizes are right then, and P is filled, or nothing is left below
pub record RefineDone (t t' s' map' : List ℕ) (level : ℕ) (n : NodeValue) (spare : Spare) (left : ℕ) (r : Worked) : Type 0 where
  pub work : WorkDone t t' s' map' level n spare left r
  pub few_i : r.node.inserts.n ≤ 64
  pub few_d : r.node.deletes.n ≤ 16
  pub full : (lo hi : ℕ) (f : ℕ → Option ℕ) → Opened (store_of t) level lo hi n spare left f → FilledUp (entries_of r.node.entries) (held_in r.node)

-- "A leaf has no children": a leaf is cut in two where it has over 64 points, an inner node where it has eight children
pub record SplitWhen (n : NodeValue) (r : Bool) : Type 0 where
  pub must : r ≡ true → ((n.level ≡ 0) × (64 < n.points.n)) ⊎ ((n.level ≡ 0 → ⊥) × (8 ≤ n.entries.n))
  pub fits : r ≡ false → n.level ≡ 0 → n.points.n ≤ 64

-- a node in memory stands for the part at block b: it was read there, and took in a batch
pub record StandsFor (t s map : List ℕ) (b depth : ℕ) (asked : Asked) (n : NodeValue) (spare : Spare) (left : ℕ) : Type 0 where
  pub undoable : Undoable t s map
  pub inside : b < blocks_of (length t)
  pub tidy : Tidy n
  pub entries : EntriesFit n.entries
  pub children : Inside t (entries_of n.entries)
  pub level : n.level ≡ depth
  pub deep : depth ≤ 6
  pub most_i : n.inserts.n ≤ 80
  pub most_d : n.deletes.n ≤ 32
  pub zero : zero_first (lows (entries_of n.entries)) ≡ true
  pub rise : rising (rest (lows (entries_of n.entries))) ≡ true
  pub spares : SpareFits t spare
  pub less : left ≤ spare.n
  pub same : entries_of n.entries ≡ (store_of t b).entries
  pub counted : length (entries_of n.entries) ≡ n.entries.n
  pub least : (depth ≡ 0 → ⊥) → fewest asked ≤ n.entries.n
  -- a leaf has no children, and nothing waits there
  pub leaf_e : depth ≡ 0 → n.entries.n ≡ 0
  pub leaf_i : depth ≡ 0 → n.inserts.n ≡ 0
  pub leaf_d : depth ≡ 0 → n.deletes.n ≡ 0

-- it can be cut in two: a leaf of some points, or an inner node of eight children
abbrev pub Cuttable : ℕ → NodeValue → Type 0
Cuttable depth n = ((depth ≡ 0) × (n.entries.n ≡ 0) × (64 < n.points.n)) ⊎ ((depth ≡ 0 → ⊥) × (n.entries.n ≡ 8))

-- such a node was stored, as one part or as two, and f is found through it
pub record PlacedTo (x y : Store) (level b : ℕ) (asked : Asked) (lo hi : ℕ) (spare : Spare) (left : ℕ) (r : Settled) (f : ℕ → Option ℕ) : Type 0 where
  pub changed : Changed (suc level) (Taken (spare_of spare left) (spare_of spare r.left)) x (part b asked lo hi ∷ []) y (became b asked lo hi r) f
  pub apart : IfSome r.second (λ d. (lo < d.low) × (d.low < hi))

-- what holds where the part is sound and the node that stands for it is open
abbrev pub OnOpen : List ℕ → ℕ → ℕ → Asked → NodeValue → Spare → ℕ → (ℕ → ℕ → (ℕ → Option ℕ) → Type 0) → Type 0
OnOpen t level b asked n spare left Then =
    (lo hi : ℕ) (f : ℕ → Option ℕ) → low_of asked ≤ lo → Sound (suc level) (store_of t) (part b asked lo hi ∷ [])
    → Apart (spare_of spare left) (reaches (suc level) (store_of t) (part b asked lo hi ∷ [])) → Opened (store_of t) level lo hi n spare left f
    → Then lo hi f

pub record PlaceDone (t t' : List ℕ) (level b : ℕ) (asked : Asked) (n : NodeValue) (spare : Spare) (left : ℕ) (r : Settled) : Type 0 where
  pub fewer : r.left ≤ left
  pub block : r.first.block ≡ b
  pub low : r.first.low ≡ low_of asked
  pub fits : EntryFits r.first
  pub second : IfSome r.second (λ d. (1 ≤ d.block) × (d.block < blocks_of (length t)) × EntryFits d)
  pub done : OnOpen t level b asked n spare left (λ lo hi f. PlacedTo (store_of t) (store_of t') level b asked lo hi spare left r f)

pub record PlaceFailed (t : List ℕ) (level b : ℕ) (asked : Asked) (n : NodeValue) (spare : Spare) (left : ℕ) (e : Failure) : Type 0 where
  pub whole : OnOpen t level b asked n spare left (λ lo hi f. e ≡ NoRoom)

abbrev pub PlacePost : List ℕ → List ℕ → ℕ → ℕ → Asked → NodeValue → Spare → ℕ → Result Settled Failure → Type 0
PlacePost t t' level b asked n spare left r = MatchResult r (PlaceDone t t' level b asked n spare left) (PlaceFailed t level b asked n spare left)

-- A node was filled and stored in block b, and this is its entry: what it was between, nobody is handed.
pub record Stowed (t t' : List ℕ) (b floor level : ℕ) (n : NodeValue) (e : Entry) : Type 0 where
  pub table : List ℕ
  pub scratch : List ℕ
  pub marks : List ℕ
  pub node : NodeValue
  pub filled : FillDone t table scratch marks level n node
  pub few_i : node.inserts.n ≤ 64
  pub few_d : node.deletes.n ≤ 16
  pub stored : Stored table t' b node
  pub entry : EntryFor b floor node e

-- it could not be: where it stood open, for want of room
pub record Unstowed (t : List ℕ) (level : ℕ) (n : NodeValue) (e : Failure) : Type 0 where
  pub whole : OnNode t level n (λ lo hi f. e ≡ NoRoom)

abbrev pub StowPost : List ℕ → List ℕ → ℕ → ℕ → ℕ → NodeValue → Result Entry Failure → Type 0
StowPost t t' b floor level n r = MatchResult r (Stowed t t' b floor level n) (Unstowed t level n)

-- A node was worked on and stored in block b, and this is its entry: what it was between, and the tables then, nobody is handed.
pub record FinishDone (t t' : List ℕ) (b floor level : ℕ) (n : NodeValue) (spare : Spare) (left : ℕ) (r : Finished) : Type 0 where
  pub table : List ℕ
  pub scratch : List ℕ
  pub marks : List ℕ
  pub work : Worked
  pub refined : RefineDone t table scratch marks level n spare left work
  pub same : r.left ≡ work.left
  pub stored : Stored table t' b work.node
  pub entry : EntryFor b floor work.node r.entry

abbrev pub FinishPost : List ℕ → List ℕ → ℕ → ℕ → ℕ → NodeValue → Spare → ℕ → Result Finished Failure → Type 0
FinishPost t t' b floor level n spare left r = MatchResult r (FinishDone t t' b floor level n spare left) (Roomless t level n spare left)

-- a block that keeps the rules, and a batch for it
pub record Arriving (t : List ℕ) (b ni nd : ℕ) : Type 0 where
  pub valid : ValidBlock t b
  pub few_i : ni ≤ 16
  pub few_d : nd ≤ 16

-- its node was read, and took the batch in
pub record Arrived (t : List ℕ) (b : ℕ) (ss : List Spot) (ks : List ℕ) (ni nd : ℕ) (r : NodeValue) : Type 0 where
  pub node : NodeValue
  pub loaded : Loaded t b node
  pub taken : TakenIn node ss ks ni nd r
  pub long_e : length node.entries.list ≡ 8
  pub long_i : length node.inserts.spots ≡ 80
  pub long_d : length node.deletes.keys ≡ 32
