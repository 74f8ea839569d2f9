-- `text::write_number` meets its contract.
use mathlib.Core.Path.{refl}
use native.Mathlib.Omega.{arith}
use Rattle.text.specs.Text.{decimal}
use Rattle.text.proofs.Decimal.{decimal-length}
use Rattle.text.proofs.Written.{wrote-within}
use Rattle.text.proofs.write_number.Goals as goal

pub put_digits-requires : goal.put_digits-requires
put_digits-requires c = omega (arith, decimal-length c.args.n)

pub returns : goal.returns
returns c =
    let n = c.args.n in
    wrote-within 10 (decimal n) (decimal-length n) refl c.put_digits.ensures
