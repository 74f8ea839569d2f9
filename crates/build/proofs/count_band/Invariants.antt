-- `build::count_band` meets its contract. The loop's invariant: the sum and the count of what is left make the whole count.
use Rattle.build.specs.Building.{limit_of}
use Rattle.build.proofs.Bands.{Counted}
use Rattle.build.proofs.count_band.Given as goal

abbrev pub invariant-loop-i : goal.invariant-loop-i
invariant-loop-i l = Counted l.list l.from l.n l.cut (limit_of l.limit) l.sum l.i
