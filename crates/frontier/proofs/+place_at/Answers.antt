-- `frontier::place_at` meets its contract. The measure is the slot: its parent's comes before it.
use Rattle.frontier.proofs.Chains.{slot-first, child-inside, hangs-up, hangs-child, hangs-valid}
use Rattle.frontier.specs.Frontier.{kid_count, slot_place, kid_place, parent_by, index_by, slot_by}
use Rattle.frontier.specs.declared.Place.{Place}
use Rattle.block.specs.NodeRules.{ValidBlock}
use mathlib.Core.Path.{ap, sym, subst, ◌∙◌}
use native.Mathlib.Omega.{arith}
use Prim.Native.Nat.{ℕ, ◌≤◌, ◌<◌}
use Rattle.frontier.proofs.+place_at.Goals as goal
use Rattle.frontier.proofs.+place_at.Goals.{After-row-1}

-- the slot is not the root's
some : (t : ℕ) (c : After-row-1 t) → 0 < c.args.i
some t c = omega (arith, c.if-i-eq0.false)

pub returns-then-i-eq0 : goal.returns-then-i-eq0
returns-then-i-eq0 t c =
    let a = c.args in
    c.root_place.ensures ∙ ap slot_place (sym (ap (slot_by a.t.now a.rows.now) c.if-i-eq0.true ∙ slot-first a.t.now a.rows.now))

pub kid_place-requires : goal.kid_place-requires
kid_place-requires t c =
    let a = c.args in
    let h = c.requires in
    let up = hangs-up h (some t (goal.at.kid_place-requires t c).After-row-1) in
    let e = c.place_at-parent.ensures in
    let below = h.chain.index a.i (some t (goal.at.kid_place-requires t c).After-row-1) h.inside in (
      subst (λ (p : Place). ValidBlock a.t.now p.block) (sym e) (hangs-valid up),
      subst (λ (p : Place). index_by a.rows.now a.i < kid_count a.t.now p.block) (sym e) below,
      subst (λ (p : Place). 1 ≤ p.level) (sym e)
          (child-inside a.t.now (slot_by a.t.now a.rows.now (parent_by a.rows.now a.i)) (up.chain.stands (parent_by a.rows.now a.i) up.inside) (index_by a.rows.now a.i) below).1,
    )

pub returns : goal.returns
returns t c =
    let a = c.args in
    c.kid_place.ensures
    ∙ ap (λ (p : Place). kid_place a.t.now p (index_by a.rows.now a.i)) c.place_at-parent.ensures
    ∙ ap slot_place (sym (hangs-child c.requires (some t (goal.at.returns t c).After-row-1)))
