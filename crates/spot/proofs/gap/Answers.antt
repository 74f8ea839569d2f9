-- `spot::gap` meets its contract: the difference of two places fits 32 bits.
use Rattle.std.proofs.Common.{◌-ℤ◌, w32}
use mir.ValLaws.{to_z-of_z}
use Rattle.spot.proofs.Limits.{gap-fits}
use Rattle.spot.proofs.gap.Goals as goal

pub overflow_sub-result : goal.overflow_sub-result
overflow_sub-result c =
    rw (to_z-of_z w32 c.args.a c.ranges.a, to_z-of_z w32 c.args.b c.ranges.b) (gap-fits c.args.a c.args.b c.requires.0 c.requires.1)

pub returns : goal.returns
returns c =
    rw (to_z-of_z w32 c.args.a c.ranges.a, to_z-of_z w32 c.args.b c.ranges.b)
    (to_z-of_z w32 (c.args.a -ℤ c.args.b) (gap-fits c.args.a c.args.b c.requires.0 c.requires.1))
