-- `text::word_end` meets its contract. The invariant: the bytes passed and the word that is left are the word.
use mathlib.Core.Path.{◌≡◌, sym, ◌∙◌}
use native.Mathlib.Omega.{arith}
use lib.ListN.{length}
use Rattle.text.proofs.Scans.{scan-stop, scan-next, scan-end}
use Rattle.text.proofs.word_end.Goals as goal

pub returns-then-line-i-eq32 : goal.returns-then-line-i-eq32
returns-then-line-i-eq32 c =
    let l = c.loop-i in
    (scan-stop c.args.line.now l.i c.loop-i-test.true c.if-line-i-eq32.true ∙ l.invariant, omega arith)

pub loop-i-preserved : goal.loop-i-preserved
loop-i-preserved c =
    let l = c.loop-i in
    scan-next c.args.line.now l.i c.loop-i-test.true c.if-line-i-eq32.false ∙ l.invariant

pub returns : goal.returns
returns c =
    let l = c.loop-i in
    let e : l.i ≡ length c.args.line.now = omega arith in
    (sym e ∙ scan-end c.args.line.now l.i (omega arith) ∙ l.invariant, omega arith)
