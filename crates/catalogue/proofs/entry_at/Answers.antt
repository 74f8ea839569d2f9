-- `catalogue::entry_at` meets its contract: its calls make up `entry_at`.
use Rattle.catalogue.specs.Catalogue.{tile_entry_at}
use Rattle.catalogue.proofs.entry_at.Goals as goal

pub returns : goal.returns
unfolding tile_entry_at
returns c = cc
