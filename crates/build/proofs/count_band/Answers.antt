-- `build::count_band` meets its contract. The loop's invariant: the sum and the count of what is left make the whole count.
use Prim.Native.Nat.{◌<◌}
use Rattle.build.specs.Building.{limit_of}
use Rattle.build.proofs.Bands.{counted_none, counted-in, counted-out, counted-all}
use Rattle.build.proofs.Segments.{segment-limited}
use native.Mathlib.Omega.{arith}
use Rattle.build.proofs.count_band.Goals as goal
use Rattle.build.proofs.count_band.Goals.{then-in_band, else-in_band}

pub read_key-k-requires : goal.read_key-k-requires
read_key-k-requires c =
    (omega arith, segment-limited c.args.list.now c.args.from c.args.n c.loop-i.i c.requires (omega arith))

pub loop-i-preserved : goal.loop-i-preserved
loop-i-preserved c =
    let a = c.args in
    let l = c.loop-i in
    let h : c.loop-i.i < c.args.n = omega arith in
    elim c.if-in_band.branch [
      | then-in_band w ↦ counted-in a.list.now a.from a.n a.cut (limit_of a.limit) l.invariant h c.read_key-k.ensures.0 c.in_band.ensures w.if-in_band.true w.sum-is
      | else-in_band w ↦ counted-out a.list.now a.from a.n a.cut (limit_of a.limit) l.invariant h c.read_key-k.ensures.0 c.in_band.ensures w.if-in_band.false w.sum-is
    ]

pub returns : goal.returns
returns c = counted-all _ _ _ _ _ c.loop-i.invariant (omega arith)

pub loop-i-init : goal.loop-i-init
loop-i-init c = counted_none _ _ _ _ _
