-- `table::top_told` meets its contract: what is told was counted.
use Rattle.table.proofs.Sizing.{none_told}
use Rattle.visit.proofs.Roots.{sized-long}
use Rattle.table.proofs.top_told.Goals as goal

pub bound_of-requires : goal.bound_of-requires
bound_of-requires c = sized-long c.args.table.now c.requires.0

pub returns-then-k-bound_of : goal.returns-then-k-bound_of
returns-then-k-bound_of c = none_told _ c.requires.1
