-- `renew::without_key` meets its contract: gathered, the spot taken out, and built.
use mathlib.Core.Path.{refl}
use borrow.Author.Tests.{not-true, not-false}
use Rattle.spot.specs.Spots.{without}
use Rattle.spot.proofs.Canon.{without-rises}
use Rattle.renew.proofs.Inside.{without-limited}
use Rattle.renew.proofs.Renewing.{out-few, renew-broken, renew-amendable, renew-segment, renew-built}
use Rattle.renew.proofs.without_key.Goals as goal

pub returns-in_default : goal.returns-in_default
returns-in_default c = renew-broken _ _ c.in_default.ensures

pub take_out-n-requires : goal.take_out-n-requires
take_out-n-requires c =
    renew-amendable c.requires.0 c.requires.1 c.in-Some.ensures

pub build_table-requires : goal.build_table-requires
build_table-requires c =
    let few = out-few c.requires.0 c.requires.1 c.in-Some.ensures c.args.k c.take_out-n.ensures in
    (c.requires.0, few, renew-segment c.requires.0 c.requires.1 c.in-Some.ensures (without c.args.k) c.take_out-n.ensures few (without-rises 0 c.args.k _) (without-limited c.args.k _))

pub returns : goal.returns
returns c =
    renew-built c.requires.0 c.requires.1 c.in-Some.ensures (without c.args.k) c.take_out-n.ensures refl c.build_table.ensures
