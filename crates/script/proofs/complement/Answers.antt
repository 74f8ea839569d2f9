-- `script::complement` meets its contract: a number moved up by 2 ^ 31, turned.
use mathlib.Core.Path.{sym, ap, ◌∙◌}
use Rattle.spot.specs.Keys.{turned}
use Rattle.spot.proofs.Signed.{biased-back}
use Rattle.demands.proofs.Orders.{turned-biased}
use Rattle.script.proofs.complement.Goals as goal

pub returns : goal.returns
returns c =
    let z = c.args.z in
    let fits = c.ranges.z in
    ap turned (biased-back z fits c.bias.ensures.0) ∙ sym (turned-biased z fits)
