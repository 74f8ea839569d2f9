-- The tree of a table while its root is changed, before block 0 says so; and block 0 then. The root's range is cut down to the limits here, since settling is said
-- of ranges inside them.
-- Assumes nothing.
use Rattle.std.specs.Prelude.{◌≡◌, ◌⊎◌, ℕ, suc, ◌+◌, ◌-◌, ◌≤◌, ◌<◌, Bool, true, false, length, Result, MatchResult}
use mathlib.Core.List.{List, [], ◌∷◌, ◌++◌, Memᴰ}
use Rattle.std.proofs.Math.Option.{Option}
use Rattle.octets.specs.Sets.{Apart}
use Rattle.spot.specs.Keys.{start_key, end_key, within}
use Rattle.spot.specs.Spots.{keys}
use Rattle.spot.specs.declared.Spot.{Spot}
use Rattle.block.specs.declared.Entry.{Entry}
use Rattle.block.specs.declared.Asked.TheVariants.{Root}
use Rattle.block.specs.Table.{block, blocks_of, capacity, put_block}
use Rattle.block.specs.Header.{head_of}
use Rattle.block.specs.HeaderRules.{header_ok}
use Rattle.block.specs.Node.{Store, store_of}
use Rattle.block.specs.NodeRules.{node_ok}
use Rattle.tree.specs.Part.{Part, parts}
use Rattle.tree.specs.Lookup.{lookup, live}
use Rattle.tree.specs.Reach.{reach}
use Rattle.tree.specs.Sound.{sound, Shaped}
use Rattle.update_theory.specs.Change.{part, reaches, Sound}
use Rattle.update_theory.specs.Spare.{Taken}
use Rattle.update_theory.specs.Open.{under}
use Rattle.node.specs.Memory.{entries_of, node_in, EntryFits, Loaded}
use Rattle.node.specs.declared.NodeValue.{NodeValue}
use Rattle.edit.specs.Edits.{held_in, Tidy}
use Rattle.journal.specs.Journal.{Undoable}
use Rattle.fill.specs.declared.Failure.{Failure}
use Rattle.fill.specs.declared.Failure.TheVariants.{NoRoom}
use Rattle.spare.specs.declared.Spare.{Spare}
use Rattle.spare.specs.Spares.{spare_of, taken_of, SpareFits, HeadFits}
use Rattle.batch.specs.Batches.{batch_says}
use Rattle.change.specs.declared.Grown.{Grown}
use Rattle.change.specs.Room.{roomy, root_of}
use Rattle.change.specs.Changing.{Changeable}

-- The parts ps of the store x, of l levels, became the whole tree of h levels under the root b in the store y. f says what is found in it, and New are the
-- blocks that came in.
pub record Rooted (l : ℕ) (x : Store) (ps : List Part) (New : ℕ → Type 0) (h : ℕ) (y : Store) (b : ℕ) (f : ℕ → Option ℕ) : Type 0 where
  pub sound : Sound h y (part b (Root b) start_key end_key ∷ [])
  pub found : (k : ℕ) → within start_key end_key k ≡ true → lookup h y k (part b (Root b) start_key end_key) ≡ f k
  pub reached : (z : ℕ) → Memᴰ z (reach h y (part b (Root b) start_key end_key)) → Memᴰ z (reaches l x ps) ⊎ New z
  pub still : (z : ℕ) → Memᴰ z (reaches l x ps) ⊎ New z → Memᴰ z (reach h y (part b (Root b) start_key end_key))

-- a node over two entries with nothing in its buffers
pub record Over (depth : ℕ) (first second : Entry) (r : NodeValue) : Type 0 where
  pub level : r.level ≡ depth
  pub count : r.entries.n ≡ 2
  pub entries : entries_of r.entries ≡ first ∷ second ∷ []
  pub holds : held_in r ≡ record { points = []; inserts = []; deletes = [] }
  pub tidy : Tidy r
  pub points : r.points.n ≡ 0
  pub inserts : r.inserts.n ≡ 0
  pub deletes : r.deletes.n ≡ 0

-- a new root of this level may be put over two entries
pub record Crownable (t w map : List ℕ) (first second : Entry) (level : ℕ) (spare : Spare) (left : ℕ) : Type 0 where
  pub undoable : Undoable t w map
  pub inner : 1 ≤ level
  pub fits : EntryFits first × EntryFits second
  pub inside : (1 ≤ first.block) × (first.block < blocks_of (length t))
  pub inside_too : (1 ≤ second.block) × (second.block < blocks_of (length t))
  pub zero : first.low ≡ 0
  pub spares : SpareFits t spare
  pub less : left ≤ spare.n

-- what holds where the two entries lead to sound parts, in which f is found
abbrev pub OverSound : List ℕ → Entry → Entry → ℕ → ((ℕ → Option ℕ) → Type 0) → Type 0
OverSound t first second level Then =
    (f : ℕ → Option ℕ) → start_key < second.low → second.low < end_key
    → Sound level (store_of t) (parts start_key end_key (first ∷ second ∷ []))
    → ((k : ℕ) → within start_key end_key k ≡ true → under level (store_of t) start_key end_key (first ∷ second ∷ []) k ≡ f k)
    → Then f

-- it stands in the last of the spare blocks
pub record CrownDone (t t' : List ℕ) (first second : Entry) (level : ℕ) (spare : Spare) (left : ℕ) (r : Grown) : Type 0 where
  pub some : 0 < left
  pub fewer : r.left ≡ left - 1
  pub levels : (r.levels ≡ suc level) × (level ≤ 6)
  pub taken : spare_of spare left ≡ spare_of spare (left - 1) ++ (r.root ∷ [])
  pub done : OverSound t first second level (λ f.
      (Memᴰ r.root (reaches level (store_of t) (parts start_key end_key (first ∷ second ∷ []))) → ⊥)
      → Rooted level (store_of t) (parts start_key end_key (first ∷ second ∷ [])) (λ z. z ≡ r.root) (suc level) (store_of t') r.root f)

-- or it could not be made: where they are sound, for want of room
pub record CrownFailed (t : List ℕ) (first second : Entry) (level : ℕ) (e : Failure) : Type 0 where
  pub whole : OverSound t first second level (λ f. e ≡ NoRoom)

abbrev pub CrownPost : List ℕ → List ℕ → Entry → Entry → ℕ → Spare → ℕ → Result Grown Failure → Type 0
CrownPost t t' first second level spare left r = MatchResult r (CrownDone t t' first second level spare left) (CrownFailed t first second level)

-- what holds where the tree is sound, the batch lies in its range, and it reaches no spare block
abbrev pub OnTree : List ℕ → ℕ → ℕ → List Spot → List ℕ → Spare → Type 0 → Type 0
OnTree t root level ss ks spare Then =
    ((k : ℕ) → Memᴰ k (keys ss) → within start_key end_key k ≡ true) → ((k : ℕ) → Memᴰ k ks → within start_key end_key k ≡ true)
    → Sound (suc level) (store_of t) (part root (Root root) start_key end_key ∷ [])
    → Apart (spare_of spare spare.n) (reaches (suc level) (store_of t) (part root (Root root) start_key end_key ∷ []))
    → Then

-- the tree after the inserts ss and the deletes ks were settled at its root
pub record GrowDone (t t' : List ℕ) (root level : ℕ) (ss : List Spot) (ks : List ℕ) (spare : Spare) (r : Grown) : Type 0 where
  pub fewer : r.left ≤ spare.n
  pub levels : (1 ≤ r.levels) × (r.levels ≤ 7)
  pub top : (r.root ≡ root) ⊎ Memᴰ r.root (taken_of spare r.left)
  pub done : OnTree t root level ss ks spare
      (Rooted (suc level) (store_of t) (part root (Root root) start_key end_key ∷ []) (Taken (spare_of spare spare.n) (spare_of spare r.left)) r.levels (store_of t') r.root
      (λ k. batch_says ss ks k (lookup (suc level) (store_of t) k (part root (Root root) start_key end_key))))

-- or could not be: where it is sound, for want of room
pub record GrowFailed (t : List ℕ) (root level : ℕ) (ss : List Spot) (ks : List ℕ) (spare : Spare) (e : Failure) : Type 0 where
  pub whole : OnTree t root level ss ks spare (e ≡ NoRoom)

abbrev pub GrowPost : List ℕ → List ℕ → ℕ → ℕ → List Spot → List ℕ → Spare → Result Grown Failure → Type 0
GrowPost t t' root level ss ks spare r = MatchResult r (GrowDone t t' root level ss ks spare) (GrowFailed t root level ss ks spare)

-- block 0 is taken back from the scratch, and then brought up to date
pub record Finishable (t w : List ℕ) (spare : Spare) (left levels root bound : ℕ) : Type 0 where
  pub long : 2048 ≤ length t
  pub room : 2048 ≤ length w
  pub head : HeadFits (put_block t 0 (block w 0)) spare left levels root bound

-- whether a node in memory has room for one change more
pub record HasRoom (n : NodeValue) (r : Bool) : Type 0 where
  pub same : (room : ℕ) → r ≡ roomy (node_in room n)
  pub inner : r ≡ true → n.level ≡ 0 → ⊥
  pub points : r ≡ true → 32 < n.points.n
  pub inserts : r ≡ true → n.inserts.n < 64
  pub deletes : r ≡ true → n.deletes.n < 16

-- the root that block 0 names is n in memory, and has room
pub record LightAt (t : List ℕ) (root level : ℕ) (n : NodeValue) (ni nd bound : ℕ) : Type 0 where
  pub header : header_ok (length t) (head_of t) ≡ true
  pub root_is : root ≡ (head_of t).root
  pub level_is : suc level ≡ (head_of t).levels
  pub few : bound ≤ capacity (length t)
  pub one : ni + nd ≤ 1
  pub loaded : Loaded t root n
  pub ok : node_ok level (Root root) (store_of t root) ≡ true
  pub room : HasRoom n true

-- only block 0 and the root were written
pub record LightPost (t t' : List ℕ) (ss : List Spot) (ks : List ℕ) (bound : ℕ) : Type 0 where
  pub sized : length t' ≡ length t
  pub header : header_ok (length t) (head_of t') ≡ true
  pub bound_is : (head_of t').bound ≡ bound
  pub shaped : sound t ≡ true → Shaped t'
  pub live_is : sound t ≡ true → (k : ℕ) → live t' k ≡ batch_says ss ks k (live t k)
  pub else : (b : ℕ) → (b ≡ 0 → ⊥) → (b ≡ (head_of t).root → ⊥) → block t' b ≡ block t b

-- the root that block 0 names, which has no room
pub record HeavyAt (t w : List ℕ) (root level : ℕ) (ni nd bound : ℕ) : Type 0 where
  pub start : Changeable t w bound ni nd
  pub root_is : root ≡ (head_of t).root
  pub level_is : suc level ≡ (head_of t).levels
  pub room : roomy (root_of t) ≡ false
