-- What a rebuild leaves: the shape of the tree for a number of spots, and what it means that a rising list of spots is laid out as a tree from a block on.
-- Assumes nothing.
use Rattle.std.specs.Prelude.{◌≡◌, ◌⊎◌, Bool, true, false, cond, ◌&&◌, List, [], ◌∷◌, ◌++◌, ℕ, zero, suc, ◌+◌, ◌*◌, ◌≤◌, ◌<◌, length, leb}
use Rattle.octets.specs.Lists.{every, keep, is_empty, rising}
use Rattle.octets.specs.Bitmap.{bit}
use Rattle.spot.specs.Keys.{rank_key, all_keys, within, limited}
use Rattle.spot.specs.Spots.{keys}
use Rattle.spot.specs.declared.Spot.{Spot}
use Rattle.block.specs.declared.Entry.{Entry}
use Rattle.block.specs.declared.Asked.TheVariants.{Child}
use Rattle.block.specs.Table.{blocks_of, capacity, map_blocks, block}
use Rattle.block.specs.Header.{head_of}
use Rattle.block.specs.Node.{Node, Store, store_of}
use Rattle.block.specs.NodeRules.{agrees}
use Rattle.block.specs.HeaderRules.{header_ok}
use Rattle.tree.specs.Part.{next_low}

-- A shape is the list of fan-outs from the root down: every node of one level has as many children. [] is a single leaf.
abbrev pub leaves : List ℕ → ℕ
leaves [] = 1
leaves (f ∷ fs) = f * leaves fs

abbrev pub nodes : List ℕ → ℕ
nodes [] = 1
nodes (f ∷ fs) = suc (f * nodes fs)

-- the root has from `least` to 8 children, every inner node below it 4 to 8
abbrev pub fans_ok : ℕ → List ℕ → Bool
fans_ok least [] = true
fans_ok least (f ∷ fs) = leb least f && (leb f 8 && fans_ok 4 fs)

-- a tree of h levels below the root, which has f children; each of those has g, and every other inner node 6
abbrev pub shape_of : ℕ → ℕ → ℕ → List ℕ
shape_of f g zero = []
shape_of f g (suc h) = f ∷ shape_of g 6 h

-- the shapes used, in rising order: a fifth of the blocks stays free at least
abbrev pub shapes : List (List ℕ)
shapes =
    shape_of 0 0 0 ∷
    shape_of 2 6 1 ∷
    shape_of 3 6 1 ∷
    shape_of 4 6 1 ∷
    shape_of 6 6 1 ∷
    shape_of 8 6 1 ∷
    shape_of 2 5 2 ∷
    shape_of 2 6 2 ∷
    shape_of 3 5 2 ∷
    shape_of 3 6 2 ∷
    shape_of 4 6 2 ∷
    shape_of 5 6 2 ∷
    shape_of 6 6 2 ∷
    shape_of 8 6 2 ∷
    shape_of 2 5 3 ∷
    shape_of 2 6 3 ∷
    shape_of 3 5 3 ∷
    shape_of 3 6 3 ∷
    shape_of 4 6 3 ∷
    shape_of 5 6 3 ∷
    shape_of 6 6 3 ∷
    shape_of 8 6 3 ∷
    shape_of 2 5 4 ∷
    shape_of 2 6 4 ∷
    shape_of 3 5 4 ∷
    shape_of 3 6 4 ∷
    shape_of 4 6 4 ∷
    shape_of 5 6 4 ∷
    shape_of 6 6 4 ∷
    shape_of 8 6 4 ∷
    shape_of 2 5 5 ∷
    []

-- the first shape with room for n spots at 32 a leaf
abbrev pub first_for : ℕ → List (List ℕ) → List ℕ
first_for n [] = []
first_for n (fs ∷ more) = cond (leb n (32 * leaves fs)) fs (first_for n more)

unfoldable pub shape : ℕ → List ℕ
shape n = first_for n shapes

-- the spots with a rank key from c up to, and without, t, in place order
unfoldable pub band : ℕ → ℕ → List Spot → List Spot
band c t ys = keep (λ s. within c t (rank_key s.key)) ys

-- a node as a rebuild leaves it
unfoldable pub built_node : ℕ → ℕ → List Entry → List Spot → Node
built_node room level es ps = record { level = level; entries = es; points = ps; inserts = []; deletes = []; laid = true; room = room }

-- The node in block b takes, of the spots ys of its range, those of a rank key below t that are not below c: 32 to 64, or all that are left.
pub record OwnBand (room level : ℕ) (m : Store) (b : ℕ) (ys : List Spot) (t c : ℕ) (es : List Entry) : Type 0 where
  pub is : m b ≡ built_node room level es (band c t ys)
  pub most : length (band c t ys) ≤ 64
  pub least : (32 ≤ length (band c t ys)) ⊎ (c ≡ 0)
  pub under : c ≤ t

-- where spots are left there is an entry, whose range begins at the first of them
abbrev pub Starts : List Entry → List Spot → Type 0
Starts [] ss = ss ≡ []
Starts (e ∷ es) [] = ⊥
Starts (e ∷ es) (s ∷ ss) = e.low ≡ s.key

-- a child takes the first of the spots, at least one, and the others go to the entries after it
pub record Share (g : ℕ → List Spot → Type 0) (m : Store) (b : ℕ) (e : Entry) (es : List Entry) (more : List Spot → Type 0) (ys : List Spot) : Type 0 where
  pub own : List Spot
  pub others : List Spot
  pub split : ys ≡ own ++ others
  pub some : is_empty own ≡ false
  pub next : Starts es others
  pub at : e.block ≡ b
  pub agree : agrees (Child e) (m e.block) ≡ true
  pub built : g e.block own
  pub rest : more others

-- the children stand in blocks b, b + w, ..
abbrev pub Shares : (ℕ → List Spot → Type 0) → Store → ℕ → ℕ → List Entry → List Spot → Type 0
Shares g m w b [] ys = ys ≡ []
Shares g m w b (e ∷ es) ys = Share g m b e es (Shares g m w (b + w) es) ys

pub record Inner (room level : ℕ) (g : ℕ → ℕ → List Spot → Type 0) (m : Store) (w f b : ℕ) (ys : List Spot) (t : ℕ) : Type 0 where
  pub c : ℕ
  pub es : List Entry
  pub node : OwnBand room level m b ys t c es
  pub count : length es ≡ f
  pub first : next_low es 0 ≡ 0
  pub shares : Shares (g c) m w (b + 1) es ys

-- The spots of ys with a rank key below t are laid out as a tree of this shape in the blocks from b on, each node before its children. ys has also
-- those spots of the range that nodes above hold: they set the ranges.
-- A leaf's range has at most 32 spots, those above included: it is far from a split.
abbrev pub Built : List ℕ → ℕ → Store → ℕ → List Spot → ℕ → Type 0
Built [] room m b ys t = OwnBand room 0 m b ys t 0 [] × (length ys ≤ 32)
Built (f ∷ fs) room m b ys t = Inner room (suc (length fs)) (λ c b' zs. Built fs room m b' zs c) m (nodes fs) f b ys t

abbrev pub first_spot_key : List Spot → ℕ
first_spot_key [] = 0
first_spot_key (s ∷ ss) = s.key

-- What a function that builds has done when it returns the entry e: from the table t it made u, in which the spots of ys with a rank key below `limit`
-- are laid out from block b on, and no other block is changed.
pub record BuildPost (room : ℕ) (fs : List ℕ) (b : ℕ) (ys : List Spot) (limit : ℕ) (t u : List ℕ) (e : Entry) : Type 0 where
  pub at : e.block ≡ b
  pub low : e.low ≡ first_spot_key ys
  pub agree : agrees (Child e) (store_of u e.block) ≡ true
  pub built : Built fs room (store_of u) e.block ys limit
  pub other : (i : ℕ) → (i < b) ⊎ (b + nodes fs ≤ i) → block u i ≡ block t i
  pub sized : length u ≡ length t

-- a table is built whole from the spots ys: the tree from block 1 on, and a header that says so
pub record Rebuilt (t : List ℕ) (ys : List Spot) : Type 0 where
  pub up : rising (keys ys) ≡ true
  -- request 2026-07
  pub limits : every limited (keys ys) ≡ true
  pub few : length ys ≤ capacity (length t)
  pub header : header_ok (length t) (head_of t) ≡ true
  pub root : (head_of t).root ≡ 1
  pub levels : (head_of t).levels ≡ suc (length (shape (length ys)))
  pub bound : (head_of t).bound ≡ length ys
  pub in_use : (b : ℕ) → b < map_blocks → bit (head_of t).in_use b ≡ leb b (nodes (shape (length ys)))
  pub built : Built (shape (length ys)) (blocks_of (length t)) (store_of t) 1 ys all_keys
