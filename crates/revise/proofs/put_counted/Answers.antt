-- `revise::put_counted` meets its contract: 4 exactly where the live spots are as many as there may be.
use Rattle.query.proofs.Whole.{counted-as}
use Rattle.revise.proofs.Calls.{add-uncounted, add_turned, add-counted}
use Rattle.block.specs.Table.{capacity}
use borrow.Author.Tests.{not-true, not-false}
use lib.ListN.{length}
use Prim.Native.Nat.{◌≤◌, ◌<◌}
use mathlib.Core.Path.{refl}
use native.Mathlib.Omega.{arith}
use Rattle.revise.proofs.put_counted.Goals as goal

pub count_table-requires : goal.count_table-requires
count_table-requires c = (c.requires.0.sized, refl)

pub returns-in_default-clause-number : goal.returns-in_default-clause-number
returns-in_default-clause-number c =
    let counted = counted-as c.everything-everything.ensures c.in_default.ensures in
    add-uncounted _ _ c.args.s _ counted.ok refl

pub returns-then-capacity_of-all-clause-number : goal.returns-then-capacity_of-all-clause-number
returns-then-capacity_of-all-clause-number c =
    let full : capacity (length c.args.table.now) ≤ c.in-Some.all.spots = omega (arith, c.capacity_of.ensures) in
    let counted = counted-as c.everything-everything.ensures c.in-Some.ensures in
    add_turned _ _ c.args.s _ counted.ok refl counted.spots full c.requires.3

pub put_within-requires : goal.put_within-requires
put_within-requires c = (c.requires.0, c.requires.1, c.requires.2, omega (arith, c.capacity_of.ensures))

pub returns-clause-number : goal.returns-clause-number
returns-clause-number c =
    let room : c.in-Some.all.spots < capacity (length c.args.table.now) = omega (arith, c.capacity_of.ensures) in
    let counted = counted-as c.everything-everything.ensures c.in-Some.ensures in
    add-counted _ _ c.args.s c.requires.3 counted.spots room c.put_within.ensures.number
