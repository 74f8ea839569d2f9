-- `octets::set_bit` meets its contract: a one moved up by n % 8 digits is 2 ^ (n % 8).
use native.Mathlib.Omega.{arith}
use mathlib.Core.Path.{ap}
use Prim.Native.Nat.{ℕ, ◌/◌, ◌%◌}
use lib.ListN.{get_or, set}
use lib.Bits.{bit_or}
use Rattle.octets.specs.Bitmap.{set_bit}
use Rattle.octets.proofs.Bits.{shl_one}
use Rattle.octets.proofs.set_bit.Goals as goal

pub returns : goal.returns
unfolding set_bit
returns c =
    let a = c.args in
    ap (λ (x : ℕ). set a.map.now (a.n / 8) (bit_or (get_or a.map.now (a.n / 8) 0) x)) (shl_one (a.n % 8) (omega arith))
