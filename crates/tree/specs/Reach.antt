-- The blocks reached from a node, and whether a change waits in one.
-- Assumes nothing.
use Rattle.std.specs.Prelude.{ℕ, zero, suc, Bool, List, [], ◌∷◌, ◌++◌}
use Rattle.octets.specs.Lists.{all, is_empty}
use Rattle.block.specs.Node.{Node, Store}
use Rattle.tree.specs.Part.{Part, children}

abbrev pub gather : (Part → List ℕ) → List Part → List ℕ
gather f [] = []
gather f (p ∷ ps) = f p ++ gather f ps

-- the blocks of a part, a node's before its children's
unfoldable pub reach : ℕ → Store → Part → List ℕ
reach zero m p = []
reach (suc l) m p = p.block ∷ gather (reach l m) (children p (m p.block))

-- no change waits in a node
unfoldable pub settled : Node → Bool
settled n = all (is_empty n.inserts ∷ is_empty n.deletes ∷ [])
