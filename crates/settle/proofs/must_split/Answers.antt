use Rattle.settle.proofs.Stores.{split-leaf, split-inner}
use Rattle.settle.proofs.must_split.Goals as goal

pub returns-then-n-eq0 : goal.returns-then-n-eq0
returns-then-n-eq0 c = split-leaf c.args.n c.if-n-eq0.true

pub returns : goal.returns
returns c = split-inner c.args.n _ c.if-n-eq0.false
