-- `block::header_ok` meets its contract: the part lent is block 0.
use Rattle.block.specs.Header.{head_of}
use Rattle.block.proofs.header_ok.Goals as goal

pub returns : goal.returns
unfolding head_of
returns c = c.head_ok.ensures
