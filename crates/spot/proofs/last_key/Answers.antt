-- `spot::last_key` meets its contract.
use Rattle.std.proofs.Common.{ℕ, ◌+◌, ◌*◌, ap}
use Rattle.spot.specs.Keys.{word}
use Rattle.spot.specs.Query.{last_of}
use Rattle.spot.proofs.Signed.{Fits, biased-back}
use Rattle.spot.proofs.last_key.Goals as goal

pub returns : goal.returns
unfolding last_of
returns c =
    let fits : Fits c.args.q.x2 = record { sfits = c.struct_told-1.given.1.0.1 } in
    ap (λ (x : ℕ). x * word + 4294967295) (biased-back c.args.q.x2 fits c.bias.ensures.0)
