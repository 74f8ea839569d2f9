-- `build::shape_of` meets its contract. The loop's invariant: the shape sought is the first that serves among those from i on.
use native.Mathlib.Omega.{arith}
use Rattle.build.proofs.Shapes.{rows, count_small, sought-first, sought-inside, sought-next, sought-found}
use Rattle.build.proofs.shape_of.Goals as goal

pub overflow_mul-i : goal.overflow_mul-i
unfolding rows
overflow_mul-i c =
    let l = c.loop-i in
    record { fits = omega (arith, count_small l.i l.invariant.inside) }

pub loop-i-smaller : goal.loop-i-smaller
unfolding rows
loop-i-smaller c = let m = sought-inside _ _ c.requires c.loop-i.invariant c.loop-i-test.true in omega arith

pub loop-i-preserved : goal.loop-i-preserved
unfolding rows
loop-i-preserved c = sought-next _ _ c.requires c.loop-i.invariant c.loop-i-test.true

pub returns : goal.returns
unfolding rows
returns c = sought-found _ _ c.requires c.loop-i.invariant c.loop-i-test.false

pub loop-i-init : goal.loop-i-init
loop-i-init c = sought-first _

pub overflow_add-i : goal.overflow_add-i
overflow_add-i c = let m = c.loop-i.invariant.inside in omega arith
