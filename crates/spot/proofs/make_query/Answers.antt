-- `spot::make_query` meets its contract.
use Rattle.std.proofs.Common.{rules}
use Rattle.spot.specs.Query.{query}
use Rattle.spot.proofs.make_query.Goals as goal

pub returns : goal.returns
unfolding query
returns c = search rules
