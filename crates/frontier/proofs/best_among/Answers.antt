-- `frontier::best_among` meets its contract: a pass with N rows.
use mathlib.Core.Path.{◌∙◌}
use Prim.Native.Nat.{ℕ}
use lib.ListN.{replicate, length-replicate}
use Rattle.frontier.proofs.Ladders.{few-packable, few-picked}
use native.Mathlib.Omega.{arith}
use Rattle.frontier.proofs.best_among.Goals as goal

pub pick_of-requires : goal.pick_of-requires
pick_of-requires g c =
    let l = c.node_few-n.auto.few ∙ length-replicate g.row.N (replicate {A = ℕ} 2 0) in
    few-packable c.requires.0 c.node_few-n.ensures (omega (arith, l, c.requires.2))

pub returns : goal.returns
returns g c =
    let l = c.node_few-n.auto.few ∙ length-replicate g.row.N (replicate {A = ℕ} 2 0) in
    few-picked c.requires.0 c.node_few-n.ensures (omega (arith, l, c.requires.1)) (omega (arith, l, c.requires.2)) c.pick_of.ensures
