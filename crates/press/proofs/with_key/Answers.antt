-- `press::with_key` meets its contract.
use Rattle.press.proofs.Pieces.{with_first, with-more}
use Rattle.press.proofs.with_key.Goals as goal

pub returns-then-e-eq0 : goal.returns-then-e-eq0
returns-then-e-eq0 c = let a = c.args in with_first a.e a.k c.if-e-eq0.true

pub returns : goal.returns
returns c = let a = c.args in with-more a.e a.k c.if-e-eq0.false
