-- `text::candidate` meets its contract.
use mathlib.Core.Path.{◌∙◌}
use Rattle.text.proofs.Made.{read-guess, guess_empty}
use Rattle.text.proofs.candidate.Goals as goal

-- a line with no byte
pub returns-in_err-sign : goal.returns-in_err-sign
returns-in_err-sign c = c.from_residual.ensures ∙ guess_empty c.args.line.now c.in_err-sign.ensures.item.3

pub returns : goal.returns
returns c =
    let n = c.number_at-n in
    let z = c.integer_at-z in
    let y = c.integer_at-y in
    let x = c.integer_at-x in
    let third = c.next_word-c in
    let second = c.next_word-b in
    let one = c.next_word-a in
    let k = c.in_ok-sign.ensures in
    c.compose.ensures
    ∙ read-guess c.args.line.now one.result second.result third.result c.in_ok-sign.field-0.now n.result x.result y.result z.result
    one.ensures.0 second.ensures.0 third.ensures.0 (k.item.3.1 0) x.ensures y.ensures z.ensures n.ensures
