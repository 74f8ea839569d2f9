-- `build::in_band` meets its contract: the tests of cut and limit are those of the band.
use mathlib.Core.Path.{ap, ◌∙◌}
use Rattle.spot.specs.Keys.{within}
use Rattle.build.specs.Building.{limit_of}
use Rattle.build.proofs.Bands.{test-some, test-none}
use Rattle.std.specs.Prelude.{Some}
use Rattle.build.proofs.in_band.Goals as goal

pub returns-in-None : goal.returns-in-None
returns-in-None c = rw c.in-None.is (test-none c.args.cut _)

pub returns-in-Some : goal.returns-in-Some
returns-in-Some c =
    rw c.in-Some.is
    (test-some c.args.cut c.in-Some.last _ ∙ ap (within c.args.cut (limit_of (Some c.in-Some.last))) c.rank_key-r.ensures)
