-- `block::numbers_ok` meets its contract: it computes as `numbers_fine` does.
use Rattle.octets.proofs.Bytes.{be-one}
use Rattle.block.specs.Checks.{numbers_fine, ◌and◌}
use Rattle.block.proofs.numbers_ok.Goals as goal

pub returns : goal.returns
unfolding numbers_fine ◌and◌
returns c =
    let s = c.args.s.now in
    cc (be-one s 4, be-one s 5)
