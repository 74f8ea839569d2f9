-- `text::number_at` meets its contract.
use mathlib.Core.Path.{ap, ◌∙◌}
use Prim.Native.Nat.{◌-◌}
use native.Mathlib.Omega.{arith}
use Rattle.text.specs.Reading.{value}
use Rattle.text.proofs.Scans.{word_in}
use Rattle.text.proofs.number_at.Goals as goal

pub returns : goal.returns
returns c =
    let a = c.args in
    let e = c.word_end-e.result in
    c.number.ensures.0 ∙ ap (value 0) (word_in a.line.now a.at e c.word_end-e.ensures.0 (e - a.at) (omega (arith, c.word_end-e.ensures.0)))
