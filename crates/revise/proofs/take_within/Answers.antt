-- `revise::take_within` meets its contract: one delete in the tree, or where that has no room all laid out anew without it.
use Prim.Native.Nat.{ℕ}
use mathlib.Core.Path.{refl, ap, ◌∙◌, ◌≡◌, sym}
use mathlib.Core.Bool.{true}
use mathlib.Core.List.{List, [], ◌∷◌, ◌++◌}
use Rattle.octets.specs.Lists.{every}
use Rattle.spot.specs.Keys.{limited}
use Rattle.spot.specs.Spots.{keys, without}
use Rattle.spot.specs.declared.Spot.{Spot}
use Rattle.tree.specs.Walk.{live_spots}
use Rattle.revise.proofs.Ends.{lent_again, within-answered, plain-answered, step-anew, within-anew, within-broken}
use Rattle.revise.proofs.Counts.{planned-out, says-out, one-limited}
use borrow.Author.Rules.{rules}
use Rattle.std.specs.Prelude.{Err}
use Rattle.fill.specs.declared.Failure.TheVariants.{NoRoom}
use Rattle.revise.proofs.take_within.Goals as goal
use Rattle.revise.proofs.take_within.Goals.{After-without_key}

pub change-requires : goal.change-requires
change-requires c =
    let deletes = c.push-one.ensures.1 ∙ ap (λ (l : List ℕ). l ++ (c.args.k ∷ [])) c.empty.ensures.1 in
    (search rules, ap (λ (l : List Spot). every limited (keys l)) c.empty-none.ensures.1, one-limited c.args.k deletes c.requires.1)

pub without_key-requires : goal.without_key-requires
without_key-requires c =
    lent_again c.requires.0 c.change.ensures

-- the tree has no room
full : (c : After-without_key) → c.change.result ≡ Err NoRoom
full c = step-anew c.change.result (sym c.step_after.ensures ∙ c.in-None.is)

pub returns-in-Some-clause-number : goal.returns-in-Some-clause-number
returns-in-Some-clause-number c =
    let deletes = c.push-one.ensures.1 ∙ ap (λ (l : List ℕ). l ++ (c.args.k ∷ [])) c.empty.ensures.1 in
    within-answered c.change.result c.change.ensures (planned-out _ c.args.k) (sym c.step_after.ensures ∙ c.in-Some.is) (says-out c.args.k _ c.empty-none.ensures.1 deletes)

pub returns-then-without_key-clause-number : goal.returns-then-without_key-clause-number
returns-then-without_key-clause-number c =
    within-anew (rw (full (goal.at.returns-then-without_key-clause-number c).After-without_key) at c.change.ensures) (λ t. without c.args.k (live_spots t)) (λ t. true) (planned-out _ c.args.k) c.without_key.ensures c.if-without_key.true

pub returns-else-without_key-clause-number : goal.returns-else-without_key-clause-number
returns-else-without_key-clause-number c =
    within-broken (rw (full (goal.at.returns-else-without_key-clause-number c).After-without_key) at c.change.ensures) (λ t. without c.args.k (live_spots t)) (λ t. true) (planned-out _ c.args.k) c.without_key.ensures (λ h. refl) c.if-without_key.false

pub returns-in-Some-clause-plain : goal.returns-in-Some-clause-plain
returns-in-Some-clause-plain c = plain-answered c.change.result (sym c.step_after.ensures ∙ c.in-Some.is)
