-- `spot::top_query` meets its contract.
use Rattle.std.proofs.Common.{◌∙◌, w32}
use mir.ValLaws.{to_z-of_z}
use Rattle.spot.specs.Query.{top_query}
use Rattle.spot.proofs.Places.{query-eq}
use Rattle.spot.proofs.top_query.Goals as goal

pub returns : goal.returns
unfolding top_query
returns c =
    query-eq _ _ (to_z-of_z w32 c.args.x1 c.ranges.x1) (to_z-of_z w32 c.args.x2 c.ranges.x2)
    (to_z-of_z w32 c.unbias-y.result (record { sfits = c.unbias-y.type_inv }) ∙ c.unbias-y.ensures)
