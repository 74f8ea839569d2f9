-- `frontier::first_pick` meets its contract: the best wanted, held against what waits.
use mathlib.Core.Path.{sym, subst}
use Prim.Native.Nat.{ℕ}
use Rattle.spot.specs.Keys.{all_keys}
use Rattle.block.specs.NodeRules.{ValidBlock}
use Rattle.frontier.specs.Frontier.{slot_by}
use Rattle.frontier.specs.Picks.{wanted_in, PickedUnder}
use Rattle.frontier.proofs.Chains.{hangs-block, hangs-valid}
use Rattle.frontier.proofs.first_pick.Goals as goal
use Rattle.frontier.proofs.first_pick.Goals.{After-best_wanted-first}

-- what is wanted of the row's block is that of the slot
wanted : (c : After-best_wanted-first) → let a = c.args in let b = (slot_by a.t.now a.rows.now a.i).block in
    PickedUnder a.t.now b a.q all_keys (wanted_in a.t.now a.q b) c.best_wanted-first.result
wanted c =
    let a = c.args in
    subst (λ (b : ℕ). PickedUnder a.t.now b a.q all_keys (wanted_in a.t.now a.q b) c.best_wanted-first.result) (hangs-block c.requires) c.best_wanted-first.ensures

pub best_wanted-first-requires : goal.best_wanted-first-requires
best_wanted-first-requires c =
    let h = c.requires in
    subst (λ (b : ℕ). ValidBlock c.args.t.now b) (sym (hangs-block h)) (hangs-valid h)

pub returns : goal.returns
returns c = c.unwaited.ensures.on all_keys (wanted (goal.at.returns c).After-best_wanted-first)
