-- `text::parse` meets its contract. The command is the answer exactly if the line is its text.
use mathlib.Core.Path.{sym, ◌∙◌}
use Rattle.text.proofs.Inverse.{parse-yes, parse-no, parse-nothing}
use Rattle.text.proofs.parse.Goals as goal

pub returns-in_err-c : goal.returns-in_err-c
returns-in_err-c c = rw c.from_residual.ensures (parse-nothing c.args.line.now c.in_err-c.ensures)

pub returns-then-prints : goal.returns-then-prints
returns-then-prints c =
    parse-yes c.args.line.now c.in_ok-c.c c.in_ok-c.ensures (sym c.prints.ensures ∙ c.if-prints.true)

pub returns : goal.returns
returns c =
    parse-no c.args.line.now c.in_ok-c.c c.in_ok-c.ensures (sym c.prints.ensures ∙ c.if-prints.false)
