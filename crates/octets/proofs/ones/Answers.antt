-- `octets::ones` meets its contract.
use native.Mathlib.Omega.{arith}
use mathlib.Core.Path.{◌≡◌, ap, ◌∙◌}
use Prim.Native.Nat.{ℕ, ◌*◌, ◌≤◌}
use lib.ListN.{length, get_or}
use lib.Count.{ones, ones-le}
use Rattle.octets.specs.Bitmap.{ones_below}
use Rattle.octets.proofs.Bits.{ones_none, ones-byte}
use Rattle.octets.proofs.ones.Goals as goal
use Rattle.octets.proofs.ones.Goals.{In-loop-byte}

few : (c : In-loop-byte) → ones (get_or c.args.map.now c.loop-byte.byte-index 0) ≤ 8
few c =
    ones-le 8 (get_or c.args.map.now c.loop-byte.byte-index 0)
    (omega (arith, c.type_inv.map c.loop-byte.byte-index))

pub loop-byte-init : goal.loop-byte-init
loop-byte-init c = omega (arith, ones_none c.args.map.now)

pub overflow_add-n : goal.overflow_add-n
overflow_add-n c = omega (arith, few (goal.at.overflow_add-n c).In-loop-byte)

pub loop-byte-preserved : goal.loop-byte-preserved
loop-byte-preserved c =
    let i = c.loop-byte.byte-index in
    omega (arith, few (goal.at.loop-byte-preserved c).In-loop-byte, ones-byte c.args.map.now i (omega (arith, c.type_inv.map i)))

pub returns : goal.returns
returns c =
    let m = c.args.map.now in
    let e : c.loop-byte.byte-index ≡ length m = omega arith in
    c.loop-byte.invariant.1 ∙ ap (λ (k : ℕ). ones_below m (8 * k)) e
