-- `text::write_refusal_line` meets its contract.
use native.Mathlib.Omega.{arith}
use Rattle.text.specs.Text.{refusal_line}
use Rattle.text.proofs.Printed.{refusal-text}
use Rattle.text.proofs.Written.{wrote_then, wrote-within}
use Rattle.text.proofs.write_refusal_line.Goals as goal

pub returns : goal.returns
returns c =
    let n = c.args.n in
    let letter = c.put_byte-a.ensures in
    let number = c.more_number-b.ensures in
    wrote-within 13 (refusal_line n) (omega arith) (refusal-text n) (wrote_then (wrote_then letter number) c.put_byte.ensures)
