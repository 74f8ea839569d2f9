-- `text::write_two` meets its contract.
use mathlib.Core.List.{[], ◌∷◌}
use native.Mathlib.Omega.{arith}
use mir.Syntax.{w32}
use mir.ValLaws.{to_z-of_z}
use Rattle.text.specs.Text.{signed, joined}
use Rattle.text.proofs.Printed.{two-text}
use Rattle.text.proofs.Written.{wrote_then, wrote-within}
use Rattle.text.proofs.write_two.Goals as goal

pub returns : goal.returns
returns c =
    let a = c.args in
    let sign = c.put_byte-a.ensures in
    let x = c.more_signed-b.ensures in
    let y = c.more_signed.ensures in
    wrote-within 25 (joined ((a.sign ∷ []) ∷ signed a.x ∷ signed a.y ∷ [])) (omega arith)
    (two-text a.sign a.x a.y (to_z-of_z w32 a.x c.ranges.x) (to_z-of_z w32 a.y c.ranges.y)) (wrote_then (wrote_then sign x) y)
