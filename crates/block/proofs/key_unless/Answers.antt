-- `block::key_unless` meets its contract: by the test.
use Rattle.block.proofs.key_unless.Goals as goal

pub read_key-requires : goal.read_key-requires
read_key-requires c = let pre = c.requires in (pre.0, pre.1 c.if-unused.false)

pub returns : goal.returns
returns c = rw c.if-unused.false c.read_key.ensures.0
