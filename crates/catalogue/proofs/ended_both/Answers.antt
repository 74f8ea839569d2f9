-- `catalogue::ended_both` meets its contract: it computes as `ended_both` does.
use mathlib.Core.Path.{refl}
use Rattle.catalogue.specs.Catalogue.{ended_both}
use Rattle.catalogue.proofs.ended_both.Goals as goal

pub returns : goal.returns
unfolding ended_both
returns c = refl
