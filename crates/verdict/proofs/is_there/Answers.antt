-- `verdict::is_there` meets its contract: the row at the place of the key has the last word, else the look-up.
use Rattle.verdict.proofs.Placed.{behind-there, other-there, row-there}
use Rattle.std.proofs.Common.{Bool, Ok, ap}
use Rattle.verdict.proofs.is_there.Goals as goal

pub position-p-requires : goal.position-p-requires
position-p-requires c = c.requires.1

pub returns-then-r-p : goal.returns-then-r-p
returns-then-r-p c =
    behind-there c.position-p.ensures c.args.table.now c.if-r-p.true c.looked_there.ensures

pub returns-then-rows-p : goal.returns-then-rows-p
returns-then-rows-p c =
    other-there c.position-p.ensures c.args.table.now c.requires.1 c.if-r-p.false c.if-rows-p.true c.looked_there-then-rows-p.ensures

pub returns : goal.returns
returns c =
    row-there c.position-p.ensures c.args.table.now c.requires.1 c.if-r-p.false c.if-rows-p.false (ap (λ (b : Bool). Ok b) c.is_some.ensures)
