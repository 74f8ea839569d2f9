-- `spare::mark_taken` meets its contract. The loop's invariant: the blocks from `left` up to i are marked besides those that were.
use Rattle.spare.proofs.Marking.{to_start, to_below, to-next, to_end}
use lib.ListN.{length}
use mathlib.Core.Path.{◌≡◌}
use borrow.Author.Rules.{rules}
use native.Mathlib.Omega.{arith}
use Rattle.spare.proofs.mark_taken.Goals as goal
use Rattle.spare.proofs.mark_taken.Goals.{Start}

long : (c : Start) → length c.args.s.blocks ≡ 8
long c = search rules

pub loop-i-init : goal.loop-i-init
loop-i-init c = to_start _ _ _ c.requires.1 (long (goal.at.loop-i-init c).Start)

pub offset_bounds-s-i : goal.offset_bounds-s-i
offset_bounds-s-i c = let i = c.loop-i.invariant in omega (arith, i.most, c.requires.1.few, c.loop-i-test.true)

pub set_bit-requires : goal.set_bit-requires
set_bit-requires c =
    let n = to_below _ _ c.args.map.now c.requires.1 (long (goal.at.set_bit-requires c).Start) c.loop-i.i c.loop-i.invariant.from c.loop-i-test.true in
    omega (arith, n, c.loop-i.invariant.marks.sized, c.requires.0)

pub loop-i-preserved : goal.loop-i-preserved
loop-i-preserved c =
    to-next _ _ _ c.requires.1 (long ((goal.at.loop-i-preserved c).Start)) c.loop-i.invariant c.loop-i-test.true c.requires.0 c.set_bit.ensures

pub shape_of-map : goal.shape_of-map
shape_of-map c = c.loop-i.invariant.marks.sized

pub returns : goal.returns
returns c = to_end _ _ _ c.requires.1 (long (goal.at.returns c).Start) c.loop-i.invariant c.loop-i-test.false
