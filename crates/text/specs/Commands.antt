-- The lines that the bench program reads, without their line ends.
-- Assumes nothing.
use Rattle.std.specs.Prelude.{◌≡◌, Bool, true, ◌&&◌, List, [], ◌∷◌, ℕ, Option, Some, None}
use Rattle.spot.specs.Keys.{signed32, unsigned32}
use Rattle.text.specs.Text.{decimal, signed, joined}
use Rattle.text.specs.declared.Command.{Command}
use Rattle.text.specs.declared.Command.TheVariants.{Add, Withdraw, Report, Top}

-- "`+ place rank track` adds, `- place rank` withdraws, `? x1 x2 y` reports, `^ x1 x2 k` gives the top"
abbrev pub command_text : Command → List ℕ
command_text (Add place rank track) = joined ((43 ∷ []) ∷ signed place ∷ signed rank ∷ decimal track ∷ [])
command_text (Withdraw place rank) = joined ((45 ∷ []) ∷ signed place ∷ signed rank ∷ [])
command_text (Report x1 x2 y) = joined ((63 ∷ []) ∷ signed x1 ∷ signed x2 ∷ signed y ∷ [])
command_text (Top x1 x2 k) = joined ((94 ∷ []) ∷ signed x1 ∷ signed x2 ∷ decimal k ∷ [])

-- its fields are "within their 32 bits"
abbrev pub fits : Command → Bool
fits (Add place rank track) = signed32 place && (signed32 rank && unsigned32 track)
fits (Withdraw place rank) = signed32 place && signed32 rank
fits (Report x1 x2 y) = signed32 x1 && (signed32 x2 && signed32 y)
fits (Top x1 x2 k) = signed32 x1 && (signed32 x2 && unsigned32 k)

-- the answer to a line: the one command whose text it is, or none for "a line of no such form"
pub record Parsed (line : List ℕ) (r : Option Command) : Type 0 where
  pub command : (c : Command) → r ≡ Some c → (fits c ≡ true) × (line ≡ command_text c)
  pub none : r ≡ None → (c : Command) → fits c ≡ true → line ≡ command_text c → ⊥
