-- `spot::least_of` meets its contract.
use Rattle.spot.specs.Query.{least_of}
use Rattle.spot.proofs.Signed.{Fits, biased-back}
use Rattle.spot.proofs.least_of.Goals as goal

pub returns : goal.returns
unfolding least_of
returns c =
    let fits : Fits c.args.q.y = record { sfits = c.struct_told-1.given.1.1.0.1 } in
    biased-back c.args.q.y fits c.bias.ensures.0
