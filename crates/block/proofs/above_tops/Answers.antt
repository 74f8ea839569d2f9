-- `block::above_tops` meets its contract: by the test.
use borrow.Author.Tests.{lt-ltb, le-ltb}
use Rattle.block.specs.Checks.{above_tops}
use Rattle.block.proofs.above_tops.Goals as goal

pub returns-then-p-lt-POINTS_LEAST : goal.returns-then-p-lt-POINTS_LEAST
unfolding above_tops
returns-then-p-lt-POINTS_LEAST c = rw (lt-ltb c.args.p 32 c.if-p-lt-POINTS_LEAST.true)

pub returns : goal.returns
unfolding above_tops
returns c = rw (le-ltb c.args.p 32 c.if-p-lt-POINTS_LEAST.false)
