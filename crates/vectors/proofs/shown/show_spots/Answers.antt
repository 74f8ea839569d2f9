-- `vectors::shown::show_spots` is safe and ends.
use Rattle.std.proofs.Common.{arith}
use Rattle.sort.proofs.Limits.{limits-at}
use Rattle.vectors.proofs.shown.show_spots.Goals as goal

pub overflow_mul-i : goal.overflow_mul-i
overflow_mul-i g c =
    omega (arith, (c.requires c.if-a-ne0.false).0)

pub show_spot-requires : goal.show_spot-requires
show_spot-requires g c =
    let h = c.requires c.if-a-ne0.false in
    (omega (arith, h.0), limits-at c.args.output.now c.args.a.detail h.1 c.loop-i.i c.loop-i-test.true)
