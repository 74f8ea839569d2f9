-- `build::take_band` meets its contract. The loop's invariant: what is taken and what is left of the band make the whole band.
use Rattle.build.proofs.Bands.{Taken}
use Rattle.build.specs.Building.{limit_of}
use Rattle.build.proofs.take_band.Given as goal

abbrev pub invariant-loop-i : goal.invariant-loop-i
invariant-loop-i l = Taken l.list l.from l.n l.cut (limit_of l.limit) l.out l.i
