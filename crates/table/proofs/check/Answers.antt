-- `table::check` meets its contract, by that of `soundness::is_sound`.
use mathlib.Core.Path.{refl, sym, ◌∙◌}
use mathlib.Core.Bool.{true, false}
use Rattle.table.proofs.Answering.{check-short, check-says}
use Rattle.table.proofs.check.Goals as goal

pub returns-then-not-sized : goal.returns-then-not-sized
returns-then-not-sized c = check-short _ _ (sym c.sized.ensures ∙ c.if-not-sized.true) refl

pub is_sound-requires : goal.is_sound-requires
is_sound-requires c = sym c.sized.ensures ∙ c.if-not-sized.false

pub returns : goal.returns
returns c = check-says _ _ c.is_sound.result (sym c.sized.ensures ∙ c.if-not-sized.false) (sym c.is_sound.ensures) refl
