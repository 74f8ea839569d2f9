-- `spare::find_clear` meets its contract. The loop's invariant: the blocks found so far, and the map with them marked.
use Rattle.spare.proofs.Finding.{found_none, found-more}
use mathlib.Core.Path.{refl}
use native.Mathlib.Omega.{arith}
use Rattle.spare.proofs.find_clear.Goals as goal

pub loop-init : goal.loop-init
loop-init c = (refl, found_none _ _ _ refl)

pub first_clear-b-requires : goal.first_clear-b-requires
first_clear-b-requires c = omega (arith, c.loop.invariant.1.sized, c.requires.0)

pub shape_of-map-then-blocks-b : goal.shape_of-map-then-blocks-b
shape_of-map-then-blocks-b c = c.loop.invariant.1.sized

pub returns-then-blocks-b : goal.returns-then-blocks-b
returns-then-blocks-b c = c.loop.invariant.1.clear

pub set_bit-requires : goal.set_bit-requires
set_bit-requires c = omega (arith, c.loop.invariant.1.sized, c.requires.0, c.requires.1, c.if-blocks-b.false)

pub loop-preserved : goal.loop-preserved
loop-preserved c =
    (omega arith, found-more _ _ _ _ _ _ _ c.loop.invariant.1 c.first_clear-b.ensures c.if-blocks-b.false c.requires.1 c.requires.0 (omega (arith, c.loop.invariant.0, c.loop-test.true)) c.set_bit.ensures c.one_more-found.ensures.0 c.one_more-found.ensures.1)

pub shape_of-map : goal.shape_of-map
shape_of-map c = c.loop.invariant.1.sized

pub returns : goal.returns
returns c = c.loop.invariant.1.clear
