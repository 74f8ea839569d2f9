-- `catalogue::joined` meets its contract.
use Rattle.catalogue.proofs.Rows.{joined-fits}
use Rattle.catalogue.proofs.joined.Goals as goal

pub returns : goal.returns
returns c =
    let a = c.args in
    joined-fits a.row a.i a.b c.requires.0 c.requires.1 c.requires.2 c.closed.result c.closed.ensures.1 c.closed.ensures.0
