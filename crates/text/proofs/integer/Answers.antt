-- `text::integer` meets its contract.
use mathlib.Core.Path.{ap, ◌∙◌}
use Rattle.text.specs.Reading.{value}
use Rattle.text.proofs.Numbers.{integer-minus, integer-plus, integer-back}
use Rattle.text.proofs.integer.Goals as goal

pub returns-in-Some : goal.returns-in-Some
returns-in-Some c =
    let w = c.args.w.now in
    let k = c.in-Some.ensures.cases in
    integer-back c.unbias.result w (c.unbias.ensures ∙ integer-minus w c.number.result k.0 (c.number.ensures.0 ∙ ap (value 0) k.1))

pub returns-in-None : goal.returns-in-None
returns-in-None c =
    let w = c.args.w.now in
    integer-back c.unbias-in-None.result w
    (c.unbias-in-None.ensures ∙ integer-plus w c.number-in-None.result c.in-None.ensures.cases c.number-in-None.ensures.0)
