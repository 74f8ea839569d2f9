-- `press::write_tiles` meets its contract. The loop's invariant: the blocks so far stand one behind the other.
use mathlib.Core.Path.{◌∙◌}
use Prim.Native.Nat.{◌+◌, ◌*◌}
use native.Mathlib.Nat.{add-sub_cancel_left}
use borrow.Rule.Slice.PartMut.{mid_len}
use native.Mathlib.Omega.{arith}
use Rattle.press.specs.Press.{spots_given}
use Rattle.plan.specs.Plans.{no_piece}
use Rattle.press.proofs.Tiles.{blocks-none, blocks_more, blocks-all, fits-at}
use Rattle.press.proofs.write_tiles.Goals as goal

pub loop-i-init : goal.loop-i-init
loop-i-init c =
    blocks-none (spots_given c.args.spots.now) c.args.p c.requires.0.planned c.args.tour.now

pub slice_bounds-write_tile-end : goal.slice_bounds-write_tile-end
slice_bounds-write_tile-end c = omega (arith, c.requires.0.planned.few, c.requires.1, c.loop-i.invariant.long)

pub write_tile-requires : goal.write_tile-requires
write_tile-requires c =
    let ss = spots_given c.args.spots.now in
    let from = 2048 * (c.loop-i.i + 1) in (
      record { ready = c.requires.0.ready; fits = fits-at ss c.args.p c.requires.0.planned c.loop-i.i no_piece c.loop-i-test.true },
      mid_len from (from + 2048) c.loop-i.tour (omega (arith, c.requires.0.planned.few, c.requires.1, c.loop-i.invariant.long)) ∙ add-sub_cancel_left from 2048,
    )

pub loop-i-preserved : goal.loop-i-preserved
loop-i-preserved c =
    blocks_more (spots_given c.args.spots.now) c.args.p c.requires.0.planned c.args.tour.now c.loop-i.i no_piece c.loop-i-test.true
    c.requires.1 c.loop-i.invariant c.write_tile.ensures

pub shape_of-tour : goal.shape_of-tour
shape_of-tour c = c.loop-i.invariant.long

pub returns : goal.returns
returns c =
    blocks-all (spots_given c.args.spots.now) c.args.p c.requires.0.planned c.loop-i.invariant c.loop-i-test.false
