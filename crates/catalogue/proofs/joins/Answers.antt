-- `catalogue::joins` meets its contract: by the place of the pair.
use mathlib.Core.Path.{◌∙◌}
use native.Mathlib.Omega.{arith}
use Rattle.catalogue.specs.Catalogue.{tile_entry_at}
use Rattle.catalogue.proofs.Rows.{joins-here}
use Rattle.catalogue.proofs.joins.Goals as goal

pub returns : goal.returns
returns c =
    c.fused_ok.ensures
    ∙ joins-here (tile_entry_at c.args.s.now) c.args.b c.args.row c.requires.0 c.args.i c.requires.4 (omega arith) c.entry_at.ensures c.entry_at-x.ensures
    c.entry_at-y.ensures
