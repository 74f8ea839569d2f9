-- `histories::asks::stretch` is safe: both places are inside the limits, so that 32 bits hold their difference.
use Rattle.std.proofs.Common.{arith, rules}
use Rattle.sort.proofs.Limits.{limits-at}
use Rattle.histories.proofs.Given.{last-at, place_inside}
use Rattle.histories.proofs.asks.stretch.Goals as goal

pub read_key-first-requires : goal.read_key-first-requires
read_key-first-requires c =
    (search rules, limits-at c.args.output.now c.args.n c.requires.1 0 (omega (arith, c.if-n-eq0.false)))

pub read_key-last-requires : goal.read_key-last-requires
read_key-last-requires c =
    (search rules, last-at c.args.output.now c.args.n c.requires.1 (omega (arith, c.if-n-eq0.false)))

pub gap-requires : goal.gap-requires
gap-requires c =
    let first = c.read_key-first in
    let last = c.read_key-last in (
      place_inside last.result c.place_of.result c.place_of.ensures last.ensures.1,
      place_inside first.result c.place_of-2.result c.place_of-2.ensures first.ensures.1,
    )
