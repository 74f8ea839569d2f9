-- Reading best first: what is known while Top reads always the unread child whose entry shows the highest rank, and gives a spot once no unread child can
-- hold a higher one. Code keeps these lists in arrays; laws (proofs/BestFirst) lead from its steps to the definition of Top.
-- Assumes nothing.
use Rattle.std.specs.Prelude.{ℕ, ◌≤◌}
use mathlib.Core.List.{List, [], ◌∷◌, ◌++◌, Memᴰ}
use Rattle.octets.specs.Lists.{keep}
use Rattle.spot.specs.Keys.{word, rank_of, top_key}
use Rattle.spot.specs.declared.Spot.{Spot}
use Rattle.spot.specs.declared.Query.{Query}
use Rattle.block.specs.declared.Asked.{Asked}
use Rattle.block.specs.declared.Asked.TheVariants.{Root, Child}
use Rattle.block.specs.Node.{Store}
use Rattle.block.specs.NodeRules.{names}
use Rattle.tree.specs.Part.{Part, children}
use Rattle.tree.specs.Walk.{admits, finds}

-- a part that is known of and not read yet: the levels from its node on down, and the keys that the nodes above it name
pub record Pending : Type 0 where
  pub levels : ℕ
  pub named : List ℕ
  pub part : Part

-- the rank that a part may hold at most: its entry's; the root comes first
abbrev pub promise : Asked → ℕ
promise (Root b) = word
promise (Child e) = rank_of e.top

abbrev pub promised : Pending → ℕ
promised p = promise p.part.asked

-- the parts that become known when p is read, with the query's places and any rank
abbrev pub known : List ℕ → ℕ → List Part → List Pending
known named l [] = []
known named l (c ∷ cs) = record { levels = l; named = named; part = c } ∷ known named l cs

abbrev pub opened : Store → Query → ℕ → Pending → List Pending
opened m q l p =
    known (names (m p.part.block) ++ p.named) l (keep (admits q) (children p.part (m p.part.block)))

-- the spots of its node
abbrev pub shown : Store → Query → Pending → List Spot
shown m q p = finds q p.named (m p.part.block)

-- no unread part promises more than the rank r
abbrev pub NonePromises : ℕ → List Pending → Type 0
NonePromises r ps = (p : Pending) → Memᴰ p ps → promised p ≤ r

-- no spot has a higher top key than r
abbrev pub NoneAbove : ℕ → List Spot → Type 0
NoneAbove r ss = (s : Spot) → Memᴰ s ss → top_key s.key ≤ r
