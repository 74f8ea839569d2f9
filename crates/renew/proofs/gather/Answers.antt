-- `renew::gather` meets its contract: the live spots are counted, and collected in the scratch.
use mathlib.Core.Path.{refl, sym}
use Prim.Native.Nat.{◌≤◌, ◌<◌}
use lib.ListN.{length}
use borrow.Author.Tests.{not-true}
use Rattle.block.specs.Table.{capacity}
use Rattle.query.proofs.Whole.{counted-as}
use Rattle.renew.proofs.Gathering.{gather-broken, gather-many, got-as, gather-twice, gather-all}
use native.Mathlib.Omega.{arith}
use Rattle.renew.proofs.gather.Goals as goal

pub count_table-requires : goal.count_table-requires
count_table-requires c = (c.requires.0, refl)

pub returns-in_default : goal.returns-in_default
returns-in_default c = gather-broken _ _ (counted-as c.everything-everything.ensures c.in_default.ensures).ok

pub returns-then-capacity_of-all : goal.returns-then-capacity_of-all
returns-then-capacity_of-all c =
    let counted = counted-as c.everything-everything.ensures c.in-Some.ensures in
    let many : capacity (length c.args.table.now) < c.in-Some.all.spots = omega (arith, c.capacity_of.ensures) in
    gather-many _ _ _ counted.spots many

pub collect_table-requires : goal.collect_table-requires
collect_table-requires c =
    let few : c.in-Some.all.spots ≤ capacity (length c.args.table.now) = omega (arith, c.capacity_of.ensures) in
    let counted = c.in-Some.ensures in
    (c.requires.0, not-true _ (sym counted.ok), omega (arith, few, counted.spots, c.requires.1))

pub returns-then-not-rises : goal.returns-then-not-rises
returns-then-not-rises c =
    let few : c.in-Some.all.spots ≤ capacity (length c.args.table.now) = omega (arith, c.capacity_of.ensures) in
    let counted = counted-as c.everything-everything.ensures c.in-Some.ensures in
    gather-twice _ _ _ _ _ few counted.ok counted.spots (got-as _ _ c.everything-everything.ensures c.collect_table.ensures) c.requires.1 _ c.rises.ensures c.if-not-rises.true

pub returns : goal.returns
returns c =
    let few : c.in-Some.all.spots ≤ capacity (length c.args.table.now) = omega (arith, c.capacity_of.ensures) in
    let counted = counted-as c.everything-everything.ensures c.in-Some.ensures in
    gather-all _ _ _ _ _ few counted.ok counted.spots (got-as _ _ c.everything-everything.ensures c.collect_table.ensures) c.requires.1 _ c.rises.ensures c.if-not-rises.false
