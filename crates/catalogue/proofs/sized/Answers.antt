-- `catalogue::sized` meets its contract: it computes as `tour_sized` does.
use mathlib.Core.Path.{sym}
use Rattle.block.proofs.Shut.{all3}
use Rattle.catalogue.specs.Catalogue.{tour_sized}
use Rattle.catalogue.proofs.sized.Goals as goal

pub returns : goal.returns
unfolding tour_sized
returns c = sym (all3 _ _ _)
