-- The blocks that a Report reads, over keys: the same as specs/Read, which speaks of places and ranks.
-- Assumes nothing.
use mathlib.Core.Path.{◌≡◌}
use Prim.Native.Nat.{ℕ, ◌/◌, ◌≤◌}
use mathlib.Core.Bool.{true, false}
use mathlib.Core.List.{List, Memᴰ}
use Rattle.octets.specs.Lists.{is_empty, maximum}
use Rattle.spot.specs.Keys.{word, within}
use Rattle.spot.specs.Query.{least_of, placed}
use Rattle.spot.specs.declared.Query.{Query}
use Rattle.block.specs.Header.{head_of}
use Rattle.block.specs.Node.{Store, store_of}
use Rattle.block.specs.NodeRules.{rank_keys}
use Rattle.tree.specs.Part.{Part, whole, children}

-- what a child shows that is read: points, one of them high enough, and an identity of the places asked for
pub record KeyShows (m : Store) (q : Query) (c : Part) : Type 0 where
  pub held : is_empty (m c.block).points ≡ false
  pub high : least_of q ≤ maximum (rank_keys (m c.block)) / word
  pub meets : (k : ℕ) × (within c.lo c.hi k ≡ true) × (placed q k ≡ true)

-- a part that is read: the whole, or such a child of one
pub data KeyRead (m : Store) (q : Query) (p : Part) : Part → Type 0 where
  first : {c : Part} → c ≡ p → KeyRead m q p c
  next : {d c : Part} → KeyRead m q p d → Memᴰ c (children d (m d.block)) → KeyShows m q c → KeyRead m q p c

-- its block
abbrev pub KeyReadBlock : List ℕ → Query → ℕ → Type 0
KeyReadBlock t q b = (c : Part) × KeyRead (store_of t) q (whole (head_of t)) c × (c.block ≡ b)
