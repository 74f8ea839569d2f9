-- `text::next_word` meets its contract.
use native.Mathlib.Omega.{arith}
use Rattle.text.proofs.Scans.{behind-in, behind-none}
use Rattle.text.proofs.next_word.Goals as goal

pub returns-then-e-line : goal.returns-then-e-line
returns-then-e-line c =
    let a = c.args in
    let e = c.word_end-e in
    (behind-in a.line.now a.at e.result e.ensures.0, omega arith)

pub returns : goal.returns
returns c =
    let a = c.args in
    let e = c.word_end-e in
    (behind-none a.line.now a.at e.result e.ensures.0 c.if-e-line.false, e.ensures.1)
