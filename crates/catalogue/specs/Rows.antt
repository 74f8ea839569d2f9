-- The blocks that stand, as the check of the entries keeps them.
-- Assumes nothing.
use Rattle.std.specs.Prelude.{ℕ, suc, ◌≤◌, ◌<◌, ◌≡◌, cond, List, [], ◌∷◌, length, take, get_or}
use Rattle.catalogue.specs.declared.Entry.{Entry}
use Rattle.catalogue.specs.declared.Row.{Row}
use Rattle.catalogue.specs.Catalogue.{ended_both}

abbrev pub held : Row → List ℕ
held r = take r.n r.blocks

-- the number of a block of a tour beside its catalogue
abbrev pub Numbered : ℕ → Type 0
Numbered b = (1 ≤ b) × (b ≤ 15)

pub record RowFits (r : Row) : Type 0 where
  pub few : r.n ≤ 8
  pub room : length r.blocks ≡ 8
  pub each : (i : ℕ) → i < r.n → Numbered (get_or r.blocks i 0)

-- where the first of two side by side stands that the passing of p ended, among a and the blocks right of it; where the last stands if there are none such
abbrev pub pair_from : (ℕ → Entry) → ℕ → ℕ → List ℕ → ℕ
pair_from e p a [] = 0
pair_from e p a (c ∷ row) = cond (ended_both p (e a) (e c)) 0 (suc (pair_from e p c row))

abbrev pub pair_at : (ℕ → Entry) → ℕ → List ℕ → ℕ
pair_at e p [] = 0
pair_at e p (a ∷ row) = pair_from e p a row
