-- `spot::wants` meets its contract: of a key of 64 bits, the rank is the lower half.
use Rattle.std.proofs.Common.{ℕ, ◌%◌, Bool, ◌&&◌, leb, sym, ◌∙◌, ap₂}
use Rattle.spot.specs.Keys.{word}
use Rattle.spot.proofs.Places.{wants-low}
use Rattle.spot.proofs.wants.Goals as goal

pub returns : goal.returns
returns c =
    ap₂ (λ (b : Bool) (y : ℕ). b && leb y (c.args.k % word)) c.placed.ensures c.least_of.ensures
    ∙ sym (wants-low c.args.q c.args.k c.ranges.k.fits)
