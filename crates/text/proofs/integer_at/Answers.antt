-- `text::integer_at` meets its contract.
use mathlib.Core.Path.{ap, ◌∙◌}
use Prim.Native.Nat.{◌-◌}
use native.Mathlib.Omega.{arith}
use lib.ListN.{drop}
use Rattle.text.specs.Reading.{front, integer}
use Rattle.text.proofs.Numbers.{integer-back}
use Rattle.text.proofs.Scans.{word_in}
use Rattle.text.proofs.integer_at.Goals as goal

pub returns : goal.returns
returns c =
    let a = c.args in
    let l = a.line.now in
    let e = c.word_end-e.result in
    integer-back c.integer.result (front (drop a.at l))
    (c.integer.ensures ∙ ap integer (word_in l a.at e c.word_end-e.ensures.0 (e - a.at) (omega (arith, c.word_end-e.ensures.0))))
