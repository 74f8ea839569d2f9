-- `spot::bias` meets its contract: the sum at 64 bits is the number moved up.
use Rattle.std.proofs.Common.{refl, arith, w32}
use mir.ValLaws.{to_z-of_z}
use Rattle.spot.proofs.Signed.{wide64, back64, end64, biased-lt}
use Rattle.spot.proofs.bias.Goals as goal

pub overflow_cast-result : goal.overflow_cast-result
overflow_cast-result c = rw (to_z-of_z w32 c.args.x c.ranges.x) (wide64 c.args.x c.ranges.x)

pub overflow_add-result : goal.overflow_add-result
overflow_add-result c = rw (back64 c.args.x c.ranges.x) (record { sfits = omega (arith, biased-lt c.args.x c.ranges.x) })

pub overflow_cast-result-2 : goal.overflow_cast-result-2
overflow_cast-result-2 c = rw (end64 c.args.x c.ranges.x) (tt, record { fits = omega (arith, biased-lt c.args.x c.ranges.x) })

pub returns : goal.returns
returns c = rw (end64 c.args.x c.ranges.x) (refl, biased-lt c.args.x c.ranges.x)
