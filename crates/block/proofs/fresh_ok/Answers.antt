-- `block::fresh_ok` meets its contract: the loop tests each entry before; its invariant is `TestsInv`.
use mathlib.Core.Path.{ap, ◌∙◌}
use mathlib.Core.Bool.{not}
use Prim.Native.Nat.{ℕ}
use native.Mathlib.Omega.{arith}
use lib.Dec.{eqb}
use Rattle.octets.specs.Lists.{all, records}
use Rattle.block.specs.Checks.{other_block, fresh_fine}
use Rattle.block.proofs.Passes.{tests-start, tests-next, tests-end}
use Rattle.block.proofs.fresh_ok.Goals as goal

pub loop-i-init : goal.loop-i-init
loop-i-init c =
    let a = c.args in
    (omega arith, tests-start (other_block c.read16-b.result a.s.now) 28 a.j 8)

pub loop-i-preserved : goal.loop-i-preserved
loop-i-preserved c =
    let a = c.args in
    let b = c.read16-b.result in
    let l = c.loop-i in
    (omega arith, tests-next (other_block b a.s.now) 28 a.j 8 l.ok l.i l.invariant.1 (omega arith) (ap (λ (k : ℕ). not (eqb b k)) c.read16.ensures.0))

pub returns : goal.returns
unfolding fresh_fine
returns c =
    let a = c.args in
    let l = c.loop-i in
    tests-end (other_block c.read16-b.result a.s.now) 28 a.j 8 l.ok l.i l.invariant.1 (omega arith)
    ∙ ap (λ (b : ℕ). all (records (other_block b a.s.now) 28 a.j 8)) c.read16-b.ensures.0
