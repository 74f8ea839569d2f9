-- `message::head_ok` meets its contract.
use Rattle.message.proofs.Judging.{head-short, head-tests}
use Rattle.message.proofs.head_ok.Goals as goal

pub returns-then-m-lt-HEAD_BYTES : goal.returns-then-m-lt-HEAD_BYTES
returns-then-m-lt-HEAD_BYTES c = head-short c.args.m.now c.if-m-lt-HEAD_BYTES.true

pub returns : goal.returns
returns c =
    head-tests c.args.m.now c.if-m-lt-HEAD_BYTES.false c.read32.ensures.0 c.byte_at.ensures.0 c.read16.ensures.0
