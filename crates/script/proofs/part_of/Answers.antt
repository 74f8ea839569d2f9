-- `script::part_of` meets its contract.
use borrow.Author.Tests.{eq-eqb, ne_eqb}
use Rattle.script.specs.Script.{log_part}
use Rattle.script.proofs.part_of.Goals as goal

pub returns-then-n-eq0 : goal.returns-then-n-eq0
unfolding log_part
returns-then-n-eq0 c = rw (eq-eqb c.args.n 0 c.if-n-eq0.true)

pub returns : goal.returns
unfolding log_part
returns c = rw (ne_eqb c.args.n 0 c.if-n-eq0.false)
