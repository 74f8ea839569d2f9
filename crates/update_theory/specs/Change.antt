-- Parts of a store that became other parts of another store, over the same range: what an update promises of the parts that it was handed.
-- Assumes nothing.
use Rattle.std.specs.Prelude.{◌≡◌, ◌⊎◌, Bool, true, false, ◌||◌, ℕ, eqb}
use mathlib.Core.List.{List, [], ◌∷◌, Memᴰ}
use Rattle.std.proofs.Math.Option.{Option}
use Rattle.octets.specs.Lists.{every, distinct}
use Rattle.spot.specs.Keys.{within}
use Rattle.block.specs.Node.{Store}
use Rattle.block.specs.declared.Asked.{Asked}
use Rattle.block.specs.NodeRules.{stands_in}
use Rattle.tree.specs.Part.{Part}
use Rattle.tree.specs.Lookup.{down, lookup}
use Rattle.tree.specs.Reach.{gather, reach}
use Rattle.tree.specs.Sound.{sound_at}

-- the part at block b with the range [lo, hi)
abbrev pub part : ℕ → Asked → ℕ → ℕ → Part
part b a lo hi = record { block = b; asked = a; lo = lo; hi = hi }

-- the range of one of the parts holds k
abbrev pub covers : ℕ → List Part → Bool
covers k [] = false
covers k (p ∷ ps) = within p.lo p.hi k || covers k ps

-- the blocks reached in some parts
abbrev pub reaches : ℕ → Store → List Part → List ℕ
reaches l m ps = gather (reach l m) ps

-- what leads to a part names its block
abbrev pub leads : Part → Bool
leads p = eqb (stands_in p.asked) p.block

-- some parts of a store, each kept by the rules and led to, and no block reached twice
pub record Sound (l : ℕ) (m : Store) (ps : List Part) : Type 0 where
  pub each : every (sound_at l m) ps ≡ true
  pub once : distinct (reaches l m ps) ≡ true
  pub led : every leads ps ≡ true

-- The parts ps of the store x became the parts qs of the store y. They hold the same keys, and f says what is found at each; y is x
-- but for the blocks of ps and New.
pub record Changed (l : ℕ) (New : ℕ → Type 0) (x : Store) (ps : List Part) (y : Store) (qs : List Part) (f : ℕ → Option ℕ) : Type 0 where
  pub sound : Sound l y qs
  pub span : (k : ℕ) → covers k qs ≡ covers k ps
  pub found : (k : ℕ) → covers k ps ≡ true → down (lookup l y k) k qs ≡ f k
  pub reached : (z : ℕ) → Memᴰ z (reaches l y qs) → Memᴰ z (reaches l x ps) ⊎ New z
  pub still : (z : ℕ) → Memᴰ z (reaches l x ps) ⊎ New z → Memᴰ z (reaches l y qs)
  pub kept : (z : ℕ) → (Memᴰ z (reaches l x ps) → ⊥) → (New z → ⊥) → y z ≡ x z
