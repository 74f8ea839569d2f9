-- `histories::asks::spots_in_list` is safe and ends.
use Rattle.std.proofs.Common.{rules}
use Rattle.sort.proofs.Limits.{limits-at}
use Rattle.histories.proofs.asks.spots_in_list.Goals as goal

pub read_key-id-requires : goal.read_key-id-requires
read_key-id-requires c =
    (search rules, limits-at c.args.output.now c.args.n c.requires.1 c.loop-i.i c.loop-i-test.true)
