-- `press::made_key` meets its contract.
use Rattle.press.proofs.Pieces.{made-is}
use Rattle.press.proofs.made_key.Goals as goal

pub returns : goal.returns
returns c = made-is c.args.floor c.if-floor-eq0.false c.rank_key.ensures
