-- What a Report reads and finds, on every table, sound or not.
-- Assumes nothing.
use Rattle.std.specs.Prelude.{◌≡◌, ℕ, zero, suc, Bool, true, false, cond, not, List, [], ◌∷◌, ◌++◌, length, leb, eqb}
use Rattle.octets.specs.Lists.{all, keep, has, distinct}
use Rattle.spot.specs.Keys.{rank_of}
use Rattle.spot.specs.Spots.{put_all}
use Rattle.spot.specs.Query.{least_of, meets, wants_key, everything}
use Rattle.spot.specs.declared.Spot.{Spot}
use Rattle.spot.specs.declared.Query.{Query}
use Rattle.block.specs.declared.Asked.{Asked}
use Rattle.block.specs.declared.Asked.TheVariants.{Root, Child}
use Rattle.block.specs.Header.{Header, head_of}
use Rattle.block.specs.Node.{Node, Store, store_of}
use Rattle.block.specs.NodeRules.{names, node_ok}
use Rattle.block.specs.HeaderRules.{header_ok}
use Rattle.tree.specs.Part.{Part, whole, children}

-- the size and the highest identity of P that lead to a part
unfoldable pub topped : Query → Asked → Bool
topped q (Root b) = true
topped q (Child e) = all (not (eqb e.size 0) ∷ leb (least_of q) (rank_of e.top) ∷ [])

-- "those children of nodes read where P isn't empty, the highest identity of P has a rank of at least y, and the range holds an identity with a place
-- of the report"
unfoldable pub admits : Query → Part → Bool
admits q p = all (topped q p.asked ∷ meets q p.lo p.hi ∷ [])

-- a walk so far: a rule is broken, or the spots found, rising in place order, and the blocks read, the last first
pub data Walk : Type 0 where
  broken : Walk
  walked : List Spot → List ℕ → Walk

-- a walk with its spots in another order, or some of them alone: what is read stays
abbrev pub map_spots : (List Spot → List Spot) → Walk → Walk
map_spots f broken = broken
map_spots f (walked found blocks) = walked (f found) blocks

-- a spot that is wanted, and that no node above names
unfoldable pub takes_key : Query → List ℕ → ℕ → Bool
takes_key q named k = all (wants_key q k ∷ not (has k named) ∷ [])

abbrev pub takes : Query → List ℕ → Spot → Bool
takes q named s = takes_key q named s.key

-- the spots of a node that are found
unfoldable pub finds : Query → List ℕ → Node → List Spot
finds q named n = keep (takes q named) (n.points ++ n.inserts)

-- one after the other, from left to right
abbrev pub through : (Part → Walk → Walk) → List Part → Walk → Walk
through f [] w = w
through f (p ∷ ps) w = through f ps (f p w)

-- a node is read: if it keeps the rules, its spots are found, and then `below` walks the children that the query admits
unfoldable pub enter : Bool → (Part → Walk → Walk) → List Part → List Spot → ℕ → Walk → Walk
enter ok below ps own b broken = broken
enter true below ps own b (walked found blocks) = through below ps (walked (put_all own found) (b ∷ blocks))
enter false below ps own b (walked found blocks) = broken

-- the walk of a part of l levels; `named` are the keys that the nodes above it name
unfoldable pub walk : ℕ → Store → Query → List ℕ → Part → Walk → Walk
walk zero m q named p w = broken
walk (suc l) m q named p w =
    let n = m p.block in
    enter (node_ok l p.asked n) (walk l m q (names n ++ named)) (keep (admits q) (children p n)) (finds q named n) p.block w

-- rule 1: "each reached once". A walk that reads a block twice is broken: the two entries that lead to the block show it.
unfoldable pub once : Walk → Walk
once broken = broken
once (walked found blocks) = cond (distinct blocks) (walked found blocks) broken

-- the walk of a whole tree, from its root
unfoldable pub walk_from : Header → Store → Query → Walk
walk_from h m q = once (walk h.levels m q [] (whole h) (walked [] []))

-- the walk of a table: 3 where "block 0, or a node block that is read, breaks a rule that it and the entry leading to it can show"
unfoldable pub walk_table : List ℕ → Query → Walk
walk_table t q = cond (header_ok (length t) (head_of t)) (walk_from (head_of t) (store_of t) q) broken

-- the spots of a walk, and its blocks
abbrev pub spots : Walk → List Spot
spots broken = []
spots (walked found blocks) = found

abbrev pub blocks_read : Walk → List ℕ
blocks_read broken = []
blocks_read (walked found blocks) = blocks

abbrev pub is_broken : Walk → Bool
is_broken broken = true
is_broken (walked found blocks) = false

-- a walk that is whole, with the spots found
abbrev pub Finds : Walk → List Spot → Type 0
Finds w ss = (bs : List ℕ) × (w ≡ walked ss bs)

-- the live spots of a table that walks whole, and "Count gives the number of live spots"
unfoldable pub live_spots : List ℕ → List Spot
live_spots t = spots (walk_table t everything)

unfoldable pub live_count : List ℕ → ℕ
live_count t = length (live_spots t)
