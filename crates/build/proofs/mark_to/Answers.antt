-- `build::mark_to` meets its contract. The loop's invariant: the blocks below i are marked besides those that were.
use Rattle.build.proofs.Head.{marked-none, marked_more, marked_all}
use native.Mathlib.Omega.{arith}
use Rattle.build.proofs.mark_to.Goals as goal

pub set_bit-requires : goal.set_bit-requires
set_bit-requires c = let l = c.loop-i.invariant in omega (arith, l.sized, c.requires)

pub loop-i-preserved : goal.loop-i-preserved
loop-i-preserved c = marked_more _ c.loop-i.invariant (omega (arith, c.requires)) c.set_bit.ensures

pub returns : goal.returns
returns c = marked_all _ c.loop-i.invariant (omega arith)

pub loop-i-init : goal.loop-i-init
loop-i-init c = marked-none _

pub shape_of-map : goal.shape_of-map
shape_of-map c = c.loop-i.invariant.sized

pub returns-2 : goal.returns-2
returns-2 c = marked_all _ (marked_more _ c.loop-i.invariant (omega (arith, c.requires)) c.set_bit.ensures) (omega arith)
