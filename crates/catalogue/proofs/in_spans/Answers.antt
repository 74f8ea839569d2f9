-- `catalogue::in_spans` meets its contract: it computes as `in_spans` does.
use mathlib.Core.Path.{refl}
use Rattle.catalogue.specs.Catalogue.{in_spans}
use Rattle.catalogue.proofs.in_spans.Goals as goal

pub returns : goal.returns
unfolding in_spans
returns c = refl
