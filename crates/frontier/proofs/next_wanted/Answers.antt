-- `frontier::next_wanted` meets its contract: the first of those that are known, or a pass.
use mathlib.Core.Path.{◌≡◌, refl, ap, subst, ◌∙◌}
use Prim.Native.Nat.{ℕ, ◌+◌, ◌-◌}
use Rattle.spot.specs.Keys.{top_key}
use Rattle.spot.specs.declared.Spot.{Spot}
use Rattle.frontier.specs.Picks.{wanted_in, PickedUnder}
use Rattle.frontier.proofs.Ladders.{Leading, ladder-leads, leading-picked}
use native.Mathlib.Omega.{arith}
use Rattle.frontier.proofs.next_wanted.Goals as goal
use Rattle.frontier.proofs.next_wanted.Goals.{Then-more-ne1}

-- the first of those that are known
leading : (c : Then-more-ne1) → let a = c.args in Leading a.t.now a.b a.q a.r a.more
leading c = let p = c.requires in ladder-leads p.0 p.1 c.if-more-ne1.true

pub spot_by-s-requires : goal.spot_by-s-requires
spot_by-s-requires c = (c.requires.0, (leading (goal.at.spot_by-s-requires c).Then-more-ne1).rung.index)

pub returns-then-more-ne1 : goal.returns-then-more-ne1
returns-then-more-ne1 c =
    leading-picked (leading (goal.at.returns-then-more-ne1 c).Then-more-ne1) refl (c.top_key.ensures ∙ ap (λ (s : Spot). top_key s.key) c.spot_by-s.ensures) refl refl

pub returns : goal.returns
returns c =
    let a = c.args in
    let e : a.r - 1 + 1 ≡ a.r = omega (arith, c.if-r-eq0.false) in
    subst (λ (r : ℕ). PickedUnder a.t.now a.b a.q r (wanted_in a.t.now a.q a.b) c.best_under.result) e c.best_under.ensures
