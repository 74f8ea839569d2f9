-- `build::take_band` meets its contract. The loop's invariant: what is taken and what is left of the band make the whole band.
use Rattle.build.proofs.Bands.{taken_none, taken-room, taken_in, taken_out, taken-all}
use Rattle.build.proofs.Segments.{segment-limited}
use Rattle.build.specs.Building.{limit_of}
use Prim.Native.Nat.{◌<◌}
use Rattle.buffer.proofs.Lists.{length-image}
use borrow.Author.Rules.{rules}
use native.Mathlib.Omega.{arith}
use Rattle.build.proofs.take_band.Goals as goal
use Rattle.build.proofs.take_band.Goals.{Then-in_band, then-in_band, else-in_band}

pub loop-i-init : goal.loop-i-init
loop-i-init c = taken_none _ _ _ _ _ (search (rules, length-image)) c.empty-out.ensures.0 c.empty-out.ensures.1

pub read_spot-s-requires : goal.read_spot-s-requires
read_spot-s-requires c =
    (omega arith, segment-limited c.args.list.now c.args.from c.args.n c.loop-i.i c.requires.0 (omega arith))

-- there is room for one more
room : (c : Then-in_band) → c.loop-i.out.n < 64
room c =
    let a = c.args in
    taken-room a.list.now a.from a.n a.cut (limit_of a.limit) c.loop-i.invariant (omega arith) c.read_spot-s.ensures.0 c.in_band.ensures c.if-in_band.true c.requires.1

pub bounds-out-at : goal.bounds-out-at
bounds-out-at c = let m = room (goal.at.bounds-out-at c).Then-in_band in omega (arith, c.loop-i.invariant.long)

pub loop-i-preserved : goal.loop-i-preserved
loop-i-preserved c =
    let a = c.args in
    let r = c.loop-i.invariant in
    let l : c.loop-i.i < c.args.n = omega arith in
    elim c.if-in_band.branch [
      | then-in_band w ↦ taken_in a.list.now a.from a.n a.cut (limit_of a.limit) r l c.read_spot-s.ensures.0 c.in_band.ensures w.if-in_band.true c.requires.1 w.out-is
      | else-in_band w ↦ taken_out a.list.now a.from a.n a.cut (limit_of a.limit) r l c.read_spot-s.ensures.0 c.in_band.ensures w.if-in_band.false w.out-is
    ]

pub returns : goal.returns
returns c = taken-all _ _ _ _ _ c.requires.0.rises c.requires.1 c.loop-i.invariant (omega arith)

pub offset_bounds-out-at : goal.offset_bounds-out-at
offset_bounds-out-at c = let m = room (goal.at.offset_bounds-out-at c).Then-in_band in omega arith

pub overflow_add-out : goal.overflow_add-out
overflow_add-out c = let m = room (goal.at.overflow_add-out c).Then-in_band in omega arith
