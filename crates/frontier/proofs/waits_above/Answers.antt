-- `frontier::waits_above` meets its contract: from parent to parent.
use Rattle.frontier.proofs.Chains.{hangs-block, hangs-lower, hangs-up, hangs-valid}
use Rattle.frontier.proofs.Waits.{over_root, over_yes, over_no}
use Rattle.frontier.specs.Frontier.{parent_by, slot_by, Hangs}
use Rattle.visit.specs.Visit.{waiting_above}
use Rattle.block.specs.NodeRules.{ValidBlock}
use Rattle.octets.specs.Lists.{has}
use Prim.Native.Nat.{ℕ}
use mathlib.Core.Path.{◌≡◌, ap, sym, subst, ◌∙◌}
use native.Mathlib.Omega.{arith}
use Rattle.frontier.proofs.waits_above.Goals as goal
use Rattle.frontier.proofs.waits_above.Goals.{After-row-1}

-- the parent is a slot
up : (c : After-row-1) → let a = c.args in Hangs a.t.now a.rows.now (parent_by a.rows.now c.loop-j.j)
up c = hangs-up c.loop-j.invariant.0 c.loop-j-test.true

pub waits_in-requires : goal.waits_in-requires
waits_in-requires c =
    let a = c.args in
    let h = up (goal.at.waits_in-requires c).After-row-1 in
    subst (λ (b : ℕ). ValidBlock a.t.now b) (sym (hangs-block h)) (hangs-valid h)

pub returns-then-waits_in : goal.returns-then-waits_in
returns-then-waits_in c =
    let a = c.args in
    let v = c.loop-j.invariant in
    sym (v.1 ∙ over_yes a.t.now a.rows.now a.k v.0 c.loop-j-test.true c.waits_in.ensures c.if-waits_in.true)

pub loop-j-smaller : goal.loop-j-smaller
loop-j-smaller c =
    hangs-lower c.loop-j.invariant.0 c.loop-j-test.true

pub loop-j-preserved : goal.loop-j-preserved
loop-j-preserved c =
    let a = c.args in
    let v = c.loop-j.invariant in
    (up (goal.at.loop-j-preserved c).After-row-1, v.1 ∙ over_no a.t.now a.rows.now a.k v.0 c.loop-j-test.true c.waits_in.ensures c.if-waits_in.false)

pub returns : goal.returns
returns c =
    let l = c.loop-j in
    let a = c.args in
    let e : l.j ≡ 0 = omega (arith, c.loop-j-test.false) in
    sym (l.invariant.1 ∙ ap (λ (j : ℕ). has a.k (waiting_above a.t.now (slot_by a.t.now a.rows.now j).path)) e ∙ over_root a.t.now a.rows.now a.k)
