-- `histories::asks::top_in_list` is safe: what it reads is inside the limits.
use Rattle.std.proofs.Common.{arith, rules}
use Rattle.histories.proofs.Given.{last-at}
use Rattle.histories.proofs.asks.top_in_list.Goals as goal

pub read_key-requires : goal.read_key-requires
read_key-requires c =
    (search rules, last-at c.args.output.now c.args.n c.requires.1 (omega (arith, c.if-n-eq0.false)))
