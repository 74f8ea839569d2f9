-- `build::first_key` meets its contract.
use Rattle.build.proofs.Own.{first-none, first_some}
use Rattle.build.proofs.Segments.{first-limited}
use mathlib.Core.Path.{◌∙◌}
use borrow.Author.Rules.{rules}
use Rattle.build.proofs.first_key.Goals as goal

pub read_key-requires : goal.read_key-requires
read_key-requires c =
    (search rules, first-limited c.args.list.now c.args.from c.args.n c.requires c.if-n-eq0.false)

pub returns : goal.returns
returns c = c.read_key.ensures.0 ∙ first_some _ _ _ c.if-n-eq0.false

pub returns-then-n-eq0 : goal.returns-then-n-eq0
returns-then-n-eq0 c = first-none _ _ _ c.if-n-eq0.true
