-- `block::past` meets its contract: the invariant: every key passed is below k.
use native.Mathlib.Omega.{arith}
use Rattle.block.proofs.Apart.{below_next}
use Rattle.block.proofs.past.Goals as goal

pub loop-i-init : goal.loop-i-init
loop-i-init c = λ q h l. absurd (omega arith)

pub returns-then-k-raw_key : goal.returns-then-k-raw_key
returns-then-k-raw_key c =
    let l = c.loop-i in
    record { start = omega arith; within = omega arith; below = l.invariant; reached = λ h. omega (arith, c.raw_key.ensures) }

pub loop-i-preserved : goal.loop-i-preserved
loop-i-preserved c =
    let a = c.args in
    let l = c.loop-i in
    below_next a.s.now a.at a.from a.k l.i l.invariant (omega (arith, c.raw_key.ensures))

pub returns : goal.returns
returns c =
    let l = c.loop-i in
    record { start = omega arith; within = omega arith; below = λ q h m. l.invariant q h (omega arith); reached = λ h. absurd (omega arith) }
