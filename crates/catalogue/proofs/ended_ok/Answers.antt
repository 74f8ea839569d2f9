-- `catalogue::ended_ok` meets its contract: by the test.
use mathlib.Core.Path.{refl, sym, ◌∙◌}
use Rattle.catalogue.specs.Catalogue.{ended_fine}
use Rattle.catalogue.proofs.ended_ok.Goals as goal

pub returns-then-is_last : goal.returns-then-is_last
unfolding ended_fine
returns-then-is_last c = rw (sym c.is_last.ensures ∙ c.if-is_last.true) refl

pub returns : goal.returns
unfolding ended_fine
returns c = rw (sym c.is_last.ensures ∙ c.if-is_last.false) c.limited_key.ensures
