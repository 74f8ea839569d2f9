-- `text::more_number` meets its contract.
use Rattle.text.proofs.Written.{wrote_then}
use Rattle.text.proofs.more_number.Goals as goal

pub returns : goal.returns
returns c = wrote_then c.put_byte-p.ensures c.write_number.ensures
