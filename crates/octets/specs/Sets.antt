-- Lists of numbers as sets.
-- Assumes nothing.
use Rattle.std.specs.Prelude.{ℕ}
use mathlib.Core.List.{List, Memᴰ}

-- no number is in both
abbrev pub Apart : List ℕ → List ℕ → Type 0
Apart xs ys = (z : ℕ) → Memᴰ z xs → Memᴰ z ys → ⊥
