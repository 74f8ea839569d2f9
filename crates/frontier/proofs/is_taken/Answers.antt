-- `frontier::is_taken` meets its contract: turned away by one of the first two questions, or as wanted.
use mathlib.Core.Path.{◌∙◌}
use Rattle.frontier.proofs.Fews.{taken-wanted}
use native.Mathlib.Omega.{arith}
use Rattle.frontier.proofs.is_taken.Goals as goal

pub returns : goal.returns
returns c =
    let a = c.args in
    let e = c.top_key-key.ensures in
    c.wants.ensures ∙ taken-wanted a.q a.k a.most a.floor (omega (arith, e, c.if-key-floor.false)) (omega (arith, e, c.if-most-key.false))
