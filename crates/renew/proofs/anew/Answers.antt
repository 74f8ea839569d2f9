-- `renew::anew` meets its contract: gathered, and built.
use mathlib.Core.Path.{refl}
use mathlib.Core.List.{List}
use borrow.Author.Tests.{not-true, not-false}
use Rattle.spot.specs.declared.Spot.{Spot}
use Rattle.renew.proofs.Renewing.{amended-none, renew-broken, renew-few, renew-segment, renew-built}
use Rattle.renew.proofs.anew.Goals as goal

pub returns-in_default : goal.returns-in_default
returns-in_default c = renew-broken _ _ c.in_default.ensures

pub build_table-requires : goal.build_table-requires
build_table-requires c =
    let few = renew-few c.requires.0 c.requires.1 c.in-Some.ensures in
    (c.requires.0, few, renew-segment c.requires.0 c.requires.1 c.in-Some.ensures (λ (l : List Spot). l) (amended-none _ _) few (λ u. u) (λ u. u))

pub returns : goal.returns
returns c =
    renew-built c.requires.0 c.requires.1 c.in-Some.ensures (λ (l : List Spot). l) (amended-none _ _) refl c.build_table.ensures
