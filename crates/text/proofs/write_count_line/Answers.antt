-- `text::write_count_line` meets its contract.
use native.Mathlib.Omega.{arith}
use Rattle.text.specs.Text.{count_line}
use Rattle.text.proofs.Printed.{count-text}
use Rattle.text.proofs.Written.{wrote_then, wrote-within}
use Rattle.text.proofs.write_count_line.Goals as goal

pub returns : goal.returns
returns c =
    let n = c.args.n in
    wrote-within 11 (count_line n) (omega arith) (count-text n) (wrote_then c.write_number-p.ensures c.put_byte.ensures)
