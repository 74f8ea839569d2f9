-- `frontier::next_pick` meets its contract: the next wanted, held against what waits.
use mathlib.Core.Path.{sym, subst}
use Prim.Native.Nat.{ℕ}
use Rattle.block.specs.NodeRules.{ValidBlock}
use Rattle.frontier.specs.Frontier.{slot_by}
use Rattle.frontier.specs.Picks.{wanted_in, Laddered, PickedUnder}
use Rattle.frontier.proofs.Chains.{hangs-block, hangs-valid}
use Rattle.frontier.proofs.next_pick.Goals as goal
use Rattle.frontier.proofs.next_pick.Goals.{After-next_wanted-first}

-- what is wanted of the row's block is that of the slot
wanted : (c : After-next_wanted-first) → let a = c.args in let b = (slot_by a.t.now a.rows.now a.i).block in
    PickedUnder a.t.now b a.q a.r (wanted_in a.t.now a.q b) c.next_wanted-first.result
wanted c =
    let a = c.args in
    subst (λ (b : ℕ). PickedUnder a.t.now b a.q a.r (wanted_in a.t.now a.q b) c.next_wanted-first.result) (hangs-block c.requires.0) c.next_wanted-first.ensures

pub next_wanted-first-requires : goal.next_wanted-first-requires
next_wanted-first-requires c =
    let h = c.requires.0 in
    let a = c.args in
    (subst (λ (b : ℕ). ValidBlock c.args.t.now b) (sym (hangs-block h)) (hangs-valid h), subst (λ (b : ℕ). Laddered a.t.now b a.q a.r a.more) (sym (hangs-block h)) c.requires.1)

pub returns : goal.returns
returns c = c.unwaited.ensures.on c.args.r (wanted (goal.at.returns c).After-next_wanted-first)
