-- A root that has room for one change more.
-- Assumes nothing.
use Rattle.std.specs.Prelude.{ℕ, Bool, not, List, [], ◌∷◌, length, ltb, eqb}
use Rattle.octets.specs.Lists.{all}
use Rattle.block.specs.Header.{head_of}
use Rattle.block.specs.Node.{Node, store_of}

-- "whose root is inner with over 32 spots in P, under 64 in I and under 16 identities in D"
unfoldable pub roomy : Node → Bool
roomy n = all (not (eqb n.level 0) ∷ ltb 32 (length n.points) ∷ ltb (length n.inserts) 64 ∷ ltb (length n.deletes) 16 ∷ [])

unfoldable pub root_of : List ℕ → Node
root_of t = store_of t (head_of t).root
