-- `lookup::holds` meets its contract.
use Rattle.lookup.proofs.Finds.{holds-is}
use Rattle.lookup.proofs.holds.Goals as goal

pub returns : goal.returns
returns c =
    holds-is c.args.span c.args.k c.before_end.ensures
