-- Spare blocks: what an update may take, and what it took.
-- Assumes nothing.
use mathlib.Core.List.{List, Memᴰ}
use Rattle.std.specs.Prelude.{ℕ}

-- spare blocks s became s': those taken
abbrev pub Taken : List ℕ → List ℕ → ℕ → Type 0
Taken s s' z = Memᴰ z s × (Memᴰ z s' → ⊥)

-- no block was added
abbrev pub Within : List ℕ → List ℕ → Type 0
Within s' s = (z : ℕ) → Memᴰ z s' → Memᴰ z s
