-- `renew::with_spot` meets its contract: gathered, the spot put in, and built.
use Prim.Native.Nat.{◌≤◌, ◌<◌}
use mathlib.Core.List.{List}
use lib.ListN.{length}
use borrow.Author.Tests.{not-true, not-false}
use Rattle.spot.specs.Spots.{put, without}
use Rattle.spot.specs.declared.Spot.{Spot}
use Rattle.block.specs.Table.{capacity}
use Rattle.tree.proofs.Says.{replaced-rises}
use Rattle.renew.proofs.Inside.{replaced-limited}
use Rattle.renew.proofs.Renewing.{renew-broken, renew-amendable, renew-full, renew-segment, renew-fits, renew-built}
use native.Mathlib.Omega.{arith}
use Rattle.renew.proofs.with_spot.Goals as goal

pub returns-in_default : goal.returns-in_default
returns-in_default c = renew-broken _ _ c.in_default.ensures

pub put_in-n-requires : goal.put_in-n-requires
put_in-n-requires c =
    renew-amendable c.requires.0 c.requires.1 c.in-Some.ensures

pub returns-then-capacity_of-n : goal.returns-then-capacity_of-n
returns-then-capacity_of-n c =
    let many : capacity (length c.args.table.now) < c.put_in-n.result = omega (arith, c.capacity_of.ensures) in
    renew-full c.requires.0 c.requires.1 c.in-Some.ensures (λ (l : List Spot). put c.args.s (without c.args.s.key l)) c.put_in-n.ensures many

pub build_table-requires : goal.build_table-requires
build_table-requires c =
    let few : c.put_in-n.result ≤ capacity (length c.args.table.now) = omega (arith, c.capacity_of.ensures) in
    (c.requires.0, few, renew-segment c.requires.0 c.requires.1 c.in-Some.ensures (λ (l : List Spot). put c.args.s (without c.args.s.key l)) c.put_in-n.ensures few (replaced-rises c.args.s _) (replaced-limited c.args.s _ c.requires.2))

pub returns : goal.returns
returns c =
    let got = c.in-Some.ensures in
    let in_place = c.put_in-n.ensures in
    let few : c.put_in-n.result ≤ capacity (length c.args.table.now) = omega (arith, c.capacity_of.ensures) in
    let with_it : List Spot → List Spot = λ (l : List Spot). put c.args.s (without c.args.s.key l) in
    renew-built c.requires.0 c.requires.1 got with_it in_place (renew-fits c.requires.0 c.requires.1 got with_it in_place few) c.build_table.ensures
