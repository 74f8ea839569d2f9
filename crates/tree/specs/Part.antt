-- Parts of the tree and their ranges.
-- Assumes nothing.
use Rattle.std.specs.Prelude.{ℕ, ◌≤◌, List, [], ◌∷◌}
use Rattle.spot.specs.Keys.{all_keys, start_key, end_key}
use Rattle.block.specs.declared.Entry.{Entry}
use Rattle.block.specs.declared.Asked.{Asked}
use Rattle.block.specs.declared.Asked.TheVariants.{Root, Child}
use Rattle.block.specs.Header.{Header}
use Rattle.block.specs.Node.{Node}
pub use Rattle.block.specs.NodeRules.{low_of}

-- a part of the tree: the block of its uppermost node, what leads there, and its range, from lo up to, and without, hi
pub record Part : Type 0 where
  pub block : ℕ
  pub asked : Asked
  pub lo : ℕ
  pub hi : ℕ

-- rule 3: "the root's has no ends"
abbrev pub whole : Header → Part
whole h = record { block = h.root; asked = Root h.root; lo = 0; hi = all_keys }

-- rule 3: "from its entry's lowest identity up to, and without, the next entry's": where the range before these entries ends
abbrev pub next_low : List Entry → ℕ → ℕ
next_low [] hi = hi
next_low (e ∷ es) hi = e.low

-- rule 3: "A first child's range begins, and a last child's ends, where its parent's does"
abbrev pub parts : ℕ → ℕ → List Entry → List Part
parts lo hi [] = []
parts lo hi (e ∷ es) = record { block = e.block; asked = Child e; lo = lo; hi = next_low es hi } ∷ parts (next_low es hi) hi es

abbrev pub children : Part → Node → List Part
children p n = parts p.lo p.hi n.entries

-- the ends of the ranges of these entries rise from lo to hi
abbrev pub Steps : ℕ → ℕ → List Entry → Type 0
Steps lo hi [] = Unit {0}
Steps lo hi (e ∷ es) = (lo ≤ next_low es hi) × Steps (next_low es hi) hi es

-- request 2026-07: a range inside the limits. The root's range has no ends, but no key of a sound table lies outside (proofs/Legal): what an update promises, it
-- promises of such ranges.
pub record Legal (lo hi : ℕ) : Type 0 where
  pub low : start_key ≤ lo
  pub high : hi ≤ end_key
