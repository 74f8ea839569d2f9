-- `text::put_byte` meets its contract.
use Rattle.text.proofs.Written.{wrote-byte}
use Rattle.text.proofs.put_byte.Goals as goal

pub returns : goal.returns
returns c = wrote-byte c.args.out.now c.args.at c.args.b c.requires
