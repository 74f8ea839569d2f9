-- `revise::put_within` meets its contract: one insert in the tree, or where that has no room all laid out anew with it.
use Rattle.octets.specs.Lists.{every}
use Rattle.spot.specs.Keys.{limited}
use Rattle.spot.specs.Spots.{keys}
use Rattle.spot.specs.declared.Spot.{Spot}
use mathlib.Core.Path.{ap, ◌∙◌, ◌≡◌, sym}
use mathlib.Core.List.{List, [], ◌∷◌, ◌++◌}
use Rattle.revise.proofs.Ends.{lent_again, within-answered, plain-answered, step-anew, within-anew, within-broken, with_spot, with_fits, with-fits}
use Rattle.revise.proofs.Counts.{planned-put, says-put, one-limited}
use borrow.Author.Rules.{rules}
use Rattle.std.specs.Prelude.{Err}
use Rattle.fill.specs.declared.Failure.TheVariants.{NoRoom}
use Rattle.revise.proofs.put_within.Goals as goal
use Rattle.revise.proofs.put_within.Goals.{After-with_spot}

pub change-requires : goal.change-requires
change-requires c =
    let inserts = c.push-one.ensures.1 ∙ ap (λ (l : List Spot). l ++ (c.args.s ∷ [])) c.empty.ensures.1 in
    (search rules, one-limited c.args.s.key (ap keys inserts) c.requires.1, ap (every limited) c.empty-none.ensures.1)

pub with_spot-requires : goal.with_spot-requires
with_spot-requires c =
    let again = lent_again c.requires.0 c.change.ensures in
    (again.0, again.1, c.requires.1)

-- the tree has no room
full : (c : After-with_spot) → c.change.result ≡ Err NoRoom
full c = step-anew c.change.result (sym c.step_after.ensures ∙ c.in-None.is)

pub returns-in-Some-clause-number : goal.returns-in-Some-clause-number
returns-in-Some-clause-number c =
    let inserts = c.push-one.ensures.1 ∙ ap (λ (l : List Spot). l ++ (c.args.s ∷ [])) c.empty.ensures.1 in
    within-answered c.change.result c.change.ensures (planned-put _ c.args.s) (sym c.step_after.ensures ∙ c.in-Some.is) (says-put c.args.s _ inserts c.empty-none.ensures.1)

pub returns-then-with_spot-clause-number : goal.returns-then-with_spot-clause-number
returns-then-with_spot-clause-number c =
    within-anew (rw (full (goal.at.returns-then-with_spot-clause-number c).After-with_spot) at c.change.ensures) (with_spot c.args.s) (with_fits c.args.s) (planned-put _ c.args.s) c.with_spot.ensures c.if-with_spot.true

pub returns-else-with_spot-clause-number : goal.returns-else-with_spot-clause-number
returns-else-with_spot-clause-number c =
    within-broken (rw (full (goal.at.returns-else-with_spot-clause-number c).After-with_spot) at c.change.ensures) (with_spot c.args.s) (with_fits c.args.s) (planned-put _ c.args.s) c.with_spot.ensures (with-fits c.args.s _ c.requires.3) c.if-with_spot.false

pub returns-in-Some-clause-plain : goal.returns-in-Some-clause-plain
returns-in-Some-clause-plain c = plain-answered c.change.result (sym c.step_after.ensures ∙ c.in-Some.is)
