-- `spot::from_key` meets its contract.
use Rattle.std.proofs.Common.{ℕ, ◌*◌, ap}
use Rattle.spot.specs.Keys.{word}
use Rattle.spot.specs.Query.{from_of}
use Rattle.spot.proofs.Signed.{Fits, biased-back}
use Rattle.spot.proofs.from_key.Goals as goal

pub returns : goal.returns
unfolding from_of
returns c =
    let fits : Fits c.args.q.x1 = record { sfits = c.struct_told-1.given.0.1 } in
    ap (λ (x : ℕ). x * word) (biased-back c.args.q.x1 fits c.bias.ensures.0)
