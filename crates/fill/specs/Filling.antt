-- What fill and take_top are handed and hand back. They answer `Ok` only where all went well; then, where the part was sound, it is sound again and says what it
-- should of every key. Where the part was sound they fail at most for want of room (`whole`). Whatever they answer, the journal can still tell what was.
-- Assumes nothing.
use Rattle.std.specs.Prelude.{◌≡◌, ℕ, suc, ◌+◌, ◌-◌, ◌≤◌, ◌<◌, Bool, true, false, cond, length, take, drop, eqb, Some, None, Result, Ok, Err, MatchResult}
use Rattle.std.specs.Prelude as maybe
use mathlib.Core.List.{List, [], ◌∷◌, ◌++◌, Memᴰ}
use Rattle.std.proofs.Math.Option.{Option, none, some}
use Rattle.octets.specs.Lists.{has, keep}
use Rattle.spot.specs.Keys.{rank_key}
use Rattle.spot.specs.Spots.{keys, put}
use Rattle.spot.specs.Sorted.{only, but, lower}
use Rattle.spot.specs.declared.Spot.{Spot}
use Rattle.block.specs.declared.Entry.{Entry}
use Rattle.block.specs.declared.Asked.TheVariants.{Child}
use Rattle.block.specs.Table.{blocks_of}
use Rattle.block.specs.Node.{Store, store_of}
use Rattle.block.specs.NodeRules.{zero_first, lows}
use Rattle.buffer.specs.Buffer.{held, named, Highest}
use Rattle.tree.specs.Part.{Legal}
use Rattle.tree.specs.Lookup.{lookup}
use Rattle.update_theory.specs.Change.{part, Sound, Changed}
use Rattle.update_theory.specs.Spare.{Taken}
use Rattle.update_theory.specs.Open.{Open}
use Rattle.update_theory.specs.Rounds.{Loop, FilledUp}
use Rattle.node.specs.Memory.{entries_of, EntriesFit, EntryFits, EntryAt}
use Rattle.node.specs.declared.NodeValue.{NodeValue}
use Rattle.edit.specs.Edits.{held_in, Tidy, Edited, BestChild}
use Rattle.journal.specs.Journal.{Undoable}
use Rattle.fill.specs.declared.Took.{Took}
use Rattle.fill.specs.declared.Failure.{Failure}
use Rattle.fill.specs.declared.Failure.TheVariants.{NoRoom}
use Rattle.fill.specs.declared.Below.{Below}
use Rattle.fill.specs.declared.Turn.{Turn}
use Rattle.fill.specs.declared.Fetched.{Fetched}
use Rattle.fill.specs.declared.Round.{Round}

-- the entries lead to blocks of the table
abbrev pub Inside : List ℕ → List Entry → Type 0
Inside t es = (e : Entry) → Memᴰ e es → (1 ≤ e.block) × (e.block < blocks_of (length t))

-- a node in memory that may be worked on over the table
pub record Workable (t s map : List ℕ) (n : NodeValue) (depth : ℕ) : Type 0 where
  pub undoable : Undoable t s map
  pub tidy : Tidy n
  pub entries : EntriesFit n.entries
  pub inside : Inside t (entries_of n.entries)
  pub level : n.level ≡ depth
  pub deep : depth ≤ 6
  pub points : n.points.n ≤ 64
  pub inserts : n.inserts.n ≤ 80
  pub deletes : n.deletes.n ≤ 32

-- the node after fill: P is filled, or nothing is left below
pub record FilledBy (x y : Store) (level : ℕ) (n : NodeValue) (r : NodeValue) (lo hi : ℕ) (f : ℕ → Option ℕ) : Type 0 where
  pub rank : ℕ
  pub loop : Loop n.inserts.n n.deletes.n level lo hi x (entries_of n.entries) y rank (entries_of r.entries) (held_in r) f
  pub full : FilledUp (entries_of r.entries) (held_in r)

-- what holds where the node stands open over the table's store, in a legal range
abbrev pub OnNode : List ℕ → ℕ → NodeValue → (ℕ → ℕ → (ℕ → Option ℕ) → Type 0) → Type 0
OnNode t level n Then =
    (lo hi rank : ℕ) (f : ℕ → Option ℕ) → Legal lo hi → zero_first (lows (entries_of n.entries)) ≡ true
    → Open level (store_of t) lo hi rank (entries_of n.entries) (held_in n) f → Then lo hi f

-- the node n became m
pub record FillDone (t t' s' map' : List ℕ) (level : ℕ) (n m : NodeValue) : Type 0 where
  pub works : Workable t' s' map' m level
  pub inserts : m.inserts.n ≤ n.inserts.n
  pub deletes : m.deletes.n ≤ n.deletes.n
  pub count : m.entries.n ≡ n.entries.n
  pub same_lows : lows (entries_of m.entries) ≡ lows (entries_of n.entries)
  pub done : OnNode t level n (λ lo hi f. FilledBy (store_of t) (store_of t') level n m lo hi f)

pub record FillFailed (t t' s' map' : List ℕ) (level : ℕ) (n : NodeValue) (e : Failure) : Type 0 where
  pub undoable : Undoable t' s' map'
  pub whole : OnNode t level n (λ lo hi f. e ≡ NoRoom)

abbrev pub FillPost : List ℕ → List ℕ → List ℕ → List ℕ → ℕ → NodeValue → Result NodeValue Failure → Type 0
FillPost t t' s' map' level n r = MatchResult r (FillDone t t' s' map' level n) (FillFailed t t' s' map' level n)

-- the highest point of a part is taken out
pub record TookOut (x y : Store) (level : ℕ) (e : Entry) (lo hi : ℕ) (r : Took) : Type 0 where
  pub changed : Changed (suc level) (Taken [] []) x (part e.block (Child e) lo hi ∷ []) y (part e.block (Child r.entry) lo hi ∷ [])
      (λ k. cond (eqb k e.top) none (lookup (suc level) x k (part e.block (Child e) lo hi)))
  pub key : r.spot.key ≡ e.top
  pub live : lookup (suc level) x e.top (part e.block (Child e) lo hi) ≡ some r.spot.track

-- what holds where the part that an entry leads to is sound and its range is legal
abbrev pub OnChild : List ℕ → ℕ → Entry → (ℕ → ℕ → Type 0) → Type 0
OnChild t level e Then = (lo hi : ℕ) → lo ≤ hi → Legal lo hi → e.low ≤ lo → Sound (suc level) (store_of t) (part e.block (Child e) lo hi ∷ []) → Then lo hi

pub record TakeDone (t t' s' map' : List ℕ) (level : ℕ) (e : Entry) (r : Took) : Type 0 where
  pub undoable : Undoable t' s' map'
  pub sized : length t' ≡ length t
  pub block : r.entry.block ≡ e.block
  pub low : r.entry.low ≡ e.low
  pub fits : EntryFits e → EntryFits r.entry
  pub done : OnChild t level e (λ lo hi. TookOut (store_of t) (store_of t') level e lo hi r)

pub record TakeFailed (t t' s' map' : List ℕ) (level : ℕ) (e : Entry) (x : Failure) : Type 0 where
  pub undoable : Undoable t' s' map'
  pub sized : length t' ≡ length t
  pub whole : OnChild t level e (λ lo hi. x ≡ NoRoom)

abbrev pub TakePost : List ℕ → List ℕ → List ℕ → List ℕ → ℕ → Entry → Result Took Failure → Type 0
TakePost t t' s' map' level e r = MatchResult r (TakeDone t t' s' map' level e) (TakeFailed t t' s' map' level e)

-- what holds where the loop of fill stands with n over the store y, in a legal range
abbrev pub OnLoop : Store → ℕ → NodeValue → (ℕ → ℕ → ℕ → ℕ → Store → List Entry → (ℕ → Option ℕ) → Type 0) → Type 0
OnLoop y level n Then =
    (ni nd lo hi rank : ℕ) (x : Store) (es₀ : List Entry) (f : ℕ → Option ℕ) → Legal lo hi → zero_first (lows es₀) ≡ true
    → Loop ni nd level lo hi x es₀ y rank (entries_of n.entries) (held_in n) f → Then ni nd lo hi x es₀ f

-- it goes on: with r over the store z, and at the end where `over`
abbrev pub GoesOn : Store → Store → ℕ → NodeValue → NodeValue → Bool → Type 0
GoesOn y z level n r over =
    OnLoop y level n (λ ni nd lo hi x es₀ f.
    (after : ℕ) × Loop ni nd level lo hi x es₀ z after (entries_of r.entries) (held_in r) f × (over ≡ true → FilledUp (entries_of r.entries) (held_in r)))

-- one round
pub record RoundDone (t t' s' map' : List ℕ) (level : ℕ) (n : NodeValue) (r : Round) : Type 0 where
  pub works : Workable t' s' map' r.node level
  pub inserts : r.node.inserts.n ≤ n.inserts.n
  pub deletes : r.node.deletes.n ≤ n.deletes.n
  pub count : r.node.entries.n ≡ n.entries.n
  pub same_lows : lows (entries_of r.node.entries) ≡ lows (entries_of n.entries)
  pub goes_on : GoesOn (store_of t) (store_of t') level n r.node r.over

pub record RoundFailed (t t' s' map' : List ℕ) (level : ℕ) (n : NodeValue) (e : Failure) : Type 0 where
  pub undoable : Undoable t' s' map'
  pub whole : OnLoop (store_of t) level n (λ ni nd lo hi x es₀ f. e ≡ NoRoom)

abbrev pub RoundPost : List ℕ → List ℕ → List ℕ → List ℕ → ℕ → NodeValue → Result Round Failure → Type 0
RoundPost t t' s' map' level n r = MatchResult r (RoundDone t t' s' map' level n) (RoundFailed t t' s' map' level n)

-- a child's entry is replaced; nothing else of the node changes
pub record Replaced (n : NodeValue) (c : ℕ) (e : Entry) (r : NodeValue) : Type 0 where
  pub count : r.entries.n ≡ n.entries.n
  pub entries : entries_of r.entries ≡ take c (entries_of n.entries) ++ (e ∷ drop (suc c) (entries_of n.entries))
  pub level : r.level ≡ n.level
  pub points : r.points ≡ n.points
  pub inserts : r.inserts ≡ n.inserts
  pub deletes : r.deletes ≡ n.deletes

-- the end of a round: the buffers change
pub record Lifted (n : NodeValue) (r : Round) : Type 0 where
  pub over : r.over ≡ false
  pub tidy : Tidy r.node
  pub entries : r.node.entries ≡ n.entries
  pub level : r.node.level ≡ n.level
  pub points : r.node.points.n ≤ n.points.n + 1
  pub inserts : r.node.inserts.n ≤ n.inserts.n
  pub deletes : r.node.deletes.n ≤ n.deletes.n

-- a spot of I went to P
pub record InsertMoved (n : NodeValue) (s : Spot) (r : Round) : Type 0 where
  pub lifted : Lifted n r
  pub raised : held_in r.node ≡ record { points = put s (held n.points); inserts = only (but s.key) (held n.inserts); deletes = keep (lower s.key) (named n.deletes) }

-- or there is no room for it
abbrev pub InsertUp : NodeValue → Spot → Result Round Failure → Type 0
InsertUp n s r = MatchResult r (InsertMoved n s) (λ e. e ≡ NoRoom)

-- a child's spot went to P, or with the delete that names it
pub record ChildMoved (n : NodeValue) (s : Spot) (r : Round) : Type 0 where
  pub lifted : Lifted n r
  pub raised : has s.key (named n.deletes) ≡ false
      → held_in r.node ≡ record { points = put s (held n.points); inserts = held n.inserts; deletes = keep (lower s.key) (named n.deletes) }
  pub dropped : has s.key (named n.deletes) ≡ true
      → held_in r.node ≡ record { points = held n.points; inserts = held n.inserts; deletes = keep (lower s.key) (named n.deletes) }

-- or there is no room for it
abbrev pub ChildUp : NodeValue → Spot → Result Round Failure → Type 0
ChildUp n s r = MatchResult r (ChildMoved n s) (λ e. e ≡ NoRoom)

-- the child with the highest top is the c-th, and I has nothing as high
pub record ChildHighest (n : NodeValue) (c : ℕ) : Type 0 where
  pub inside : c < n.entries.n
  pub best : BestChild (entries_of n.entries) c
  pub above : (e : Entry) → EntryAt (entries_of n.entries) c e → (k : ℕ) → Memᴰ k (keys (held n.inserts)) → rank_key k < rank_key e.top

-- it has the same key as the highest of I
pub record BothHighest (n : NodeValue) (c : ℕ) (s : Spot) : Type 0 where
  pub inside : c < n.entries.n
  pub best : BestChild (entries_of n.entries) c
  pub highest : Highest (held n.inserts) s
  pub same : (e : Entry) → EntryAt (entries_of n.entries) c e → s.key ≡ e.top

-- nothing waits in I, and no child has points
pub record NothingLeft (n : NodeValue) (c : ℕ) : Type 0 where
  pub bare : n.inserts.n ≡ 0
  pub best : BestChild (entries_of n.entries) c
  pub outside : n.entries.n ≤ c

-- the highest of I is higher than every child's top
pub record InsertHighest (n : NodeValue) (s : Spot) : Type 0 where
  pub highest : Highest (held n.inserts) s
  pub tops : (d : Entry) → Memᴰ d (entries_of n.entries) → (d.size ≡ 0 → ⊥) → rank_key d.top < rank_key s.key

-- what a round takes is the highest there is
abbrev pub PlannedAs : NodeValue → maybe.Option Below → maybe.Option Spot → Type 0
PlannedAs n (Some x) None = EntryAt (entries_of n.entries) x.child x.entry × ChildHighest n x.child
PlannedAs n (Some x) (Some s) = EntryAt (entries_of n.entries) x.child x.entry × BothHighest n x.child s
PlannedAs n None (Some s) = InsertHighest n s
PlannedAs n None None = (c : ℕ) × NothingLeft n c

abbrev pub Planned : NodeValue → Turn → Type 0
Planned n p = PlannedAs n p.below p.waits

-- the child's block is of the table
abbrev pub Fetchable : List ℕ → Below → Type 0
Fetchable t x = (1 ≤ x.entry.block) × (x.entry.block < blocks_of (length t))

-- the top of the child x was taken out, or could not be
abbrev pub FetchedFrom : List ℕ → List ℕ → List ℕ → List ℕ → ℕ → Below → Result (maybe.Option Fetched) Failure → Type 0
FetchedFrom t t' s' map' level x (Ok None) = ⊥
FetchedFrom t t' s' map' level x (Ok (Some y)) = (y.child ≡ x.child) × TakeDone t t' s' map' level x.entry y.took
FetchedFrom t t' s' map' level x (Err e) = TakeFailed t t' s' map' level x.entry e

pub record ChildFetched (t t' s' map' : List ℕ) (level : ℕ) (x : Below) (r : Result (maybe.Option Fetched) Failure) : Type 0 where
  pub leaf : level ≡ 0 → MatchResult r (λ y. ⊥) (λ e. e ≡ NoRoom)
  pub taken : (level ≡ 0 → ⊥) → FetchedFrom t t' s' map' (level - 1) x r

-- so it is where one was asked for; else nothing changed
abbrev pub FetchPost : List ℕ → List ℕ → List ℕ → List ℕ → List ℕ → List ℕ → ℕ → maybe.Option Below → Result (maybe.Option Fetched) Failure → Type 0
FetchPost t s map t' s' map' level None (Ok None) = (t' ≡ t) × (s' ≡ s) × (map' ≡ map)
FetchPost t s map t' s' map' level None (Ok (Some y)) = ⊥
FetchPost t s map t' s' map' level None (Err e) = ⊥
FetchPost t s map t' s' map' level (Some x) r = ChildFetched t t' s' map' level x r

-- the child's new entry is in the node, and then the spot moves
pub record TakenUp (n : NodeValue) (x : Fetched) (Up : NodeValue → Type 0) : Type 0 where
  pub next : NodeValue
  pub replaced : Replaced n x.child x.took.entry next
  pub up : Up next

-- the last round
pub record LastRound (n : NodeValue) (r : Result Round Failure) : Type 0 where
  pub node : NodeValue
  pub is : r ≡ Ok (record { over = true; node = node })
  pub edited : Edited n node (record { points = held n.points; inserts = held n.inserts; deletes = [] }) n.points.n n.inserts.n 0

-- the node after a round
abbrev pub CarryPost : NodeValue → maybe.Option Fetched → maybe.Option Spot → Result Round Failure → Type 0
CarryPost n (Some x) None r = TakenUp n x (λ m. ChildUp m x.took.spot r)
CarryPost n (Some x) (Some s) r = TakenUp n x (λ m. InsertUp m s r)
CarryPost n None (Some s) r = InsertUp n s r
CarryPost n None None r = LastRound n r
