-- `catalogue::first_row` meets its contract: the blocks in turn.
use Rattle.catalogue.proofs.Rows.{first-held}
use Rattle.catalogue.proofs.first_row.Goals as goal

pub returns : goal.returns
returns c = first-held c.args.l c.requires
