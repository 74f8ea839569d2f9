-- A walk taken apart: whether every node it reads keeps the rules, the blocks it reads, and the spots it finds. Code follows these one by one; a law
-- (proofs/Traces) puts them together to the walk.
-- Assumes nothing.
use Rattle.std.specs.Prelude.{ℕ, zero, suc, ◌+◌, Bool, false, not, ◌&&◌, List, [], ◌∷◌, ◌++◌, length}
use Rattle.octets.specs.Lists.{every, keep, distinct}
use Rattle.octets.specs.Bitmap.{bit, set_bit}
use Rattle.spot.specs.Spots.{put_all}
use Rattle.spot.specs.declared.Spot.{Spot}
use Rattle.spot.specs.declared.Query.{Query}
use Rattle.block.specs.Node.{Store}
use Rattle.block.specs.NodeRules.{names, node_ok}
use Rattle.tree.specs.Part.{Part, children}
use Rattle.tree.specs.Reach.{gather}
use Rattle.tree.specs.Walk.{admits, finds}

-- the children of p that a query reads
abbrev pub admitted : Query → Store → Part → List Part
admitted q m p = keep (admits q) (children p (m p.block))

-- every node read keeps the rules that it and its entry show
unfoldable pub obeys : ℕ → Store → Query → Part → Bool
obeys zero m q p = false
obeys (suc l) m q p = node_ok l p.asked (m p.block) && every (obeys l m q) (admitted q m p)

-- the blocks read, a node's before its children's
unfoldable pub visits : ℕ → Store → Query → Part → List ℕ
visits zero m q p = []
visits (suc l) m q p = p.block ∷ gather (visits l m q) (admitted q m p)

-- the keys that the nodes in these blocks name, the last first
abbrev pub named_by : Store → List ℕ → List ℕ
named_by m [] = []
named_by m (b ∷ bs) = names (m b) ++ named_by m bs

abbrev pub pour : (Part → List Spot → List Spot) → List Part → List Spot → List Spot
pour f [] found = found
pour f (p ∷ ps) found = pour f ps (f p found)

-- the spots found, put among those found before; `named` are the keys that the nodes above name
unfoldable pub gains : ℕ → Store → Query → List ℕ → Part → List Spot → List Spot
gains zero m q named p found = found
gains (suc l) m q named p found =
    pour (gains l m q (names (m p.block) ++ named)) (admitted q m p) (put_all (finds q named (m p.block)) found)

abbrev pub total : (Part → ℕ) → List Part → ℕ
total f [] = 0
total f (p ∷ ps) = f p + total f ps

-- how many they are
unfoldable pub tally : ℕ → Store → Query → List ℕ → Part → ℕ
tally zero m q named p = 0
tally (suc l) m q named p =
    length (finds q named (m p.block)) + total (tally l m q (names (m p.block) ++ named)) (admitted q m p)

-- none of these blocks is marked in the map, and none stands twice
unfoldable pub unseen : List ℕ → List ℕ → Bool
unseen map blocks = every (λ b. not (bit map b)) blocks && distinct blocks

-- the map with these blocks marked
abbrev pub marked : List ℕ → List ℕ → List ℕ
marked map [] = map
marked map (b ∷ bs) = marked (set_bit map b) bs
