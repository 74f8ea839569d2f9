-- `text::more_signed` meets its contract.
use mathlib.Core.List.{◌∷◌}
use mathlib.Core.Path.{ap}
use native.Mathlib.Omega.{arith}
use lib.IntN.{ℤ}
use mir.Syntax.{w32}
use mir.ValLaws.{to_z-of_z}
use Rattle.text.specs.Text.{signed}
use Rattle.text.proofs.Written.{wrote_then, wrote-within}
use Rattle.text.proofs.more_signed.Goals as goal

pub returns : goal.returns
returns c =
    let z = c.args.z in
    wrote-within 12 (32 ∷ signed z) (omega arith) (ap (λ (v : ℤ). 32 ∷ signed v) (to_z-of_z w32 z c.ranges.z))
    (wrote_then c.put_byte-p.ensures c.write_signed.ensures)
