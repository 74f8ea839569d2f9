-- `plan::pass` meets its contract.
use Prim.Native.Nat.{◌+◌}
use native.Mathlib.Omega.{arith}
use Rattle.plan.proofs.pass.Goals as goal

pub fused-requires : goal.fused-requires
fused-requires c =
    let s = c.requires.0 in
    let i = c.in-Some.i in
    let ripe = c.in-Some.ensures in
    let a = s.made i (omega (arith, ripe.1)) in
    let b = s.made (i + 1) ripe.1 in
    (ripe.1, s.few, s.room, omega (arith, a, s.room), omega (arith, b, s.room), c.requires.1)
