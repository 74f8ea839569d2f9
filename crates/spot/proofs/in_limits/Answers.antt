-- `spot::in_limits` meets its contract.
use Rattle.std.proofs.Common.{refl, w32}
use mir.ValLaws.{to_z-of_z}
use Rattle.spot.specs.Keys.{in_limits}
use Rattle.spot.proofs.in_limits.Goals as goal

pub returns : goal.returns
unfolding in_limits
returns c = rw (to_z-of_z w32 c.args.place c.ranges.place) refl
