-- `spot::unbias` meets its contract: the difference at 64 bits is the number moved back.
use Rattle.std.proofs.Common.{w32}
use mir.ValLaws.{to_z-of_z}
use Rattle.spot.specs.Keys.{unbiased}
use Rattle.spot.proofs.Signed.{wide64, unbiased-fits, less64, low64}
use Rattle.spot.proofs.unbias.Goals as goal

pub overflow_sub-result : goal.overflow_sub-result
overflow_sub-result c = rw (less64 c.args.u c.requires) (wide64 (unbiased c.args.u) (unbiased-fits c.args.u c.requires))

pub overflow_cast-result-2 : goal.overflow_cast-result-2
overflow_cast-result-2 c = rw (low64 c.args.u c.requires) (unbiased-fits c.args.u c.requires)

pub returns : goal.returns
returns c = rw (low64 c.args.u c.requires) (to_z-of_z w32 (unbiased c.args.u) (unbiased-fits c.args.u c.requires))
