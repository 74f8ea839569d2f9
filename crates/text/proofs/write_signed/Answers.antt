-- `text::write_signed` meets its contract.
use mathlib.Core.Path.{◌≡◌, ap, ◌∙◌}
use mathlib.Core.Bool.{true, false}
use mathlib.Core.List.{◌∷◌}
use Prim.Native.Nat.{ℕ}
use native.Mathlib.Omega.{arith}
use lib.IntN.{pos, nat_abs}
use lib.Signed.{lt_z}
use mir.Syntax.{w32}
use mir.ValLaws.{to_z-of_z}
use Rattle.text.specs.Text.{decimal, signed}
use Rattle.text.proofs.Numbers.{signed-below, signed-not_below}
use Rattle.text.proofs.Decimal.{decimal-length}
use Rattle.text.proofs.Written.{wrote_then, wrote-within}
use Rattle.text.proofs.write_signed.Goals as goal

pub put_digits-requires : goal.put_digits-requires
put_digits-requires c = omega (arith, decimal-length c.unsigned_abs.result)

pub returns-then-z-lt0 : goal.returns-then-z-lt0
returns-then-z-lt0 c =
    let z = c.args.z in
    let u = c.unsigned_abs in
    let e = to_z-of_z w32 z c.ranges.z in
    let below : lt_z z (pos 0) ≡ true = rw e at c.if-z-lt0.true in
    let abs : u.result ≡ nat_abs z = rw e at u.ensures.value in
    wrote-within 11 (signed z) (omega (arith, decimal-length u.result))
    (ap (λ (n : ℕ). 45 ∷ decimal n) abs ∙ signed-below z below)
    (wrote_then c.put_byte-p.ensures c.put_digits.ensures)

pub put_digits-requires-2 : goal.put_digits-requires-2
put_digits-requires-2 c = omega (arith, decimal-length c.unsigned_abs-2.result)

pub returns : goal.returns
returns c =
    let z = c.args.z in
    let u = c.unsigned_abs-2 in
    let e = to_z-of_z w32 z c.ranges.z in
    let not : lt_z z (pos 0) ≡ false = rw e at c.if-z-lt0.false in
    let abs : u.result ≡ nat_abs z = rw e at u.ensures.value in
    wrote-within 11 (signed z) (omega (arith, decimal-length u.result)) (ap decimal abs ∙ signed-not_below z not) c.put_digits-2.ensures
