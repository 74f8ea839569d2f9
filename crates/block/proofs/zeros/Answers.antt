-- `block::zeros` meets its contract: the invariant: what is done and what is left make up the whole.
use mathlib.Core.Path.{refl}
use native.Mathlib.Omega.{arith}
use Rattle.block.proofs.Passes.{zeros-next, zeros-end}
use Rattle.block.proofs.zeros.Goals as goal

pub loop-i-init : goal.loop-i-init
loop-i-init c = (omega arith, refl)

pub loop-i-preserved : goal.loop-i-preserved
loop-i-preserved c =
    let l = c.loop-i in
    (omega arith, zeros-next c.args.s.now c.args.at l.ok l.i l.invariant.1 (omega arith))

pub returns : goal.returns
returns c =
    let l = c.loop-i in
    zeros-end c.args.s.now c.args.at l.ok l.i l.invariant.1 l.invariant.0 (omega arith)
