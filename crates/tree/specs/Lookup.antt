-- Which identities are live.
-- Assumes nothing.
use Rattle.std.specs.Prelude.{ℕ, zero, suc, Bool, true, false, cond, List, [], ◌∷◌, eqb}
use Rattle.std.proofs.Math.Option.{Option, none, some}
use Rattle.octets.specs.Lists.{has}
use Rattle.spot.specs.Keys.{within}
use Rattle.spot.specs.Spots.{find}
use Rattle.block.specs.Header.{head_of}
use Rattle.block.specs.Node.{Node, Store, store_of}
use Rattle.tree.specs.Part.{Part, whole, children}

abbrev pub or_else : Option ℕ → Option ℕ → Option ℕ
or_else none o = o
or_else (some a) o = some a

abbrev pub is_live : Option ℕ → Bool
is_live none = false
is_live (some a) = true

-- what a node says of a key, where `below` is what is said below it
abbrev pub node_word : Node → ℕ → Option ℕ → Option ℕ
node_word n k below = or_else (find k n.points) (or_else (find k n.inserts) (cond (has k n.deletes) none below))

-- in the first part whose range holds k
abbrev pub down : (Part → Option ℕ) → ℕ → List Part → Option ℕ
down f k [] = none
down f k (p ∷ ps) = cond (within p.lo p.hi k) (f p) (down f k ps)

-- "An identity is live exactly when, going from the root down the one path whose ranges hold it, the first node that names it does so in P or I. Its
-- track number is the one there." The track, where it is live, in a part of l levels.
unfoldable pub lookup : ℕ → Store → ℕ → Part → Option ℕ
lookup zero m k p = none
lookup (suc l) m k p = node_word (m p.block) k (down (lookup l m k) k (children p (m p.block)))

-- the track of a live key of the table
unfoldable pub live : List ℕ → ℕ → Option ℕ
live t k = lookup (head_of t).levels (store_of t) k (whole (head_of t))

-- the live spots with one key's track changed
unfoldable pub with_key : ℕ → Option ℕ → (ℕ → Option ℕ) → ℕ → Option ℕ
with_key k track before j = cond (eqb j k) track (before j)
