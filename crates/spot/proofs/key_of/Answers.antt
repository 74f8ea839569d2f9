-- `spot::key_of` meets its contract.
use Rattle.std.proofs.Common.{ℕ, ◌+◌, ◌*◌, ap₂}
use Rattle.spot.specs.Keys.{word}
use Rattle.spot.proofs.Signed.{biased-back}
use Rattle.spot.proofs.key_of.Goals as goal

pub returns : goal.returns
returns c =
    ap₂ (λ (x y : ℕ). x * word + y) (biased-back c.args.place c.ranges.place c.bias.ensures.0)
    (biased-back c.args.rank c.ranges.rank c.bias-2.ensures.0)
