-- `top::take_kid` meets its contract: the child of the first row, and the next of its parent in its place.
use mathlib.Core.Path.{refl, ap, ap₂, sym, subst, ◌∙◌}
use Prim.Native.Nat.{◌-◌, ◌%◌, ◌≤◌, ◌<◌}
use Rattle.block.specs.NodeRules.{ValidBlock}
use Rattle.block.specs.declared.Entry.{Entry}
use Rattle.visit.specs.declared.Span.{Span}
use Rattle.frontier.proofs.Chains.{hangs-valid}
use Rattle.frontier.specs.Picks.{KidBest}
use Rattle.frontier.specs.Frontier.{kid_count, kid_entry, kid_place}
use Rattle.frontier.specs.declared.Place.{Place}
use Rattle.top.specs.Rows.{first_key, first_value}
use Rattle.top.proofs.Heaps.{lowered-as}
use Rattle.top.proofs.take_kid.Goals as goal

pub best_kid-next-requires : goal.best_kid-next-requires
best_kid-next-requires c =
    let a = c.args in
    let at_place = c.place_at-parent in
    subst (λ (p : Place). ValidBlock a.t.now p.block) (sym at_place.ensures) (hangs-valid c.requires.hangs)

pub kid_of-kid-requires : goal.kid_of-kid-requires
kid_of-kid-requires c =
    let a = c.args in
    let p = c.requires in
    let at_place = c.place_at-parent in
    subst (λ (x : Place). ValidBlock a.t.now x.block × (first_value a.kids.now % 8 < kid_count a.t.now x.block)) (sym at_place.ensures) (hangs-valid p.hangs, p.below)

pub overflow_sub-place : goal.overflow_sub-place
overflow_sub-place c =
    let p = c.requires in
    let at_place = c.place_at-parent in
    subst (λ (x : Place). 1 ≤ x.level) (sym at_place.ensures) p.level

pub returns : goal.returns
returns c =
    let a = c.args in
    let at_place = c.place_at-parent in
    let at_next = c.best_kid-next in
    let at-lower = c.lower-left in
    let kid = c.kid_of-kid.ensures in
    let i = first_value a.kids.now % 8 in
    record {
      place =
          ap₂ (λ (e : Entry) (s : Span). record { block = e.block; level = at_place.result.level - 1; span = s }) kid.entry kid.span
          ∙ ap (λ (p : Place). kid_place a.t.now p i) at_place.ensures;
      entry = kid.entry ∙ ap (λ (p : Place). kid_entry a.t.now p.block i) at_place.ensures;
      up = refl;
      next = at_next.result;
      best = subst (λ (p : Place). KidBest a.t.now p.block p.span a.q (first_key a.kids.now - 1) at_next.result) at_place.ensures at_next.ensures;
      lowered = lowered-as c.kid_row-lower_row.ensures at-lower.ensures;
    }
