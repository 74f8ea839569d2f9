-- `vectors::tours::show_some` is safe: the spots that it reads were given.
use Rattle.std.proofs.Common.{◌-◌, arith}
use Rattle.sort.proofs.Limits.{limits-at}
use Rattle.vectors.proofs.tours.show_some.Goals as goal

pub show_spot-requires : goal.show_spot-requires
show_spot-requires g c =
    let h = c.requires c.if-a-ne0.false in
    (omega (arith, h.0), limits-at c.args.output.now c.args.a.detail h.1 0 (omega arith))

pub show_spot-requires-2 : goal.show_spot-requires-2
show_spot-requires-2 g c =
    let h = c.requires c.if-a-ne0.false in
    let n = c.args.a.detail in
    (omega (arith, h.0), limits-at c.args.output.now n h.1 (n - 1) (omega arith))
