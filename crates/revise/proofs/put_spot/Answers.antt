-- `revise::put_spot` meets its contract: by the lookup and the bound, and by the count where the bound is at capacity.
use Rattle.std.specs.Prelude.{Ok}
use Rattle.revise.proofs.Calls.{lent-long, bound-few, looked-is, add-header, add-lost, add-below, add-replaced}
use Rattle.block.specs.Table.{capacity}
use lib.ListN.{length}
use Prim.Native.Nat.{◌<◌}
use mathlib.Core.Path.{sym, ◌∙◌, ap}
use native.Mathlib.Omega.{arith}
use Rattle.revise.proofs.put_spot.Goals as goal

pub returns-then-not-header_ok-clause-number : goal.returns-then-not-header_ok-clause-number
returns-then-not-header_ok-clause-number c = add-header _ _ c.args.s _ c.header_ok.ensures c.if-not-header_ok.true

pub look_up-requires : goal.look_up-requires
look_up-requires c = c.requires.0.sized

pub put_within-requires : goal.put_within-requires
put_within-requires c =
    let ok = sym c.header_ok.ensures ∙ c.if-not-header_ok.false in
    (c.requires.0, c.requires.1, ok, bound-few c.args.table.now ok c.bound_of-bound.ensures.0)

pub put_within-requires-then-bound-capacity_of : goal.put_within-requires-then-bound-capacity_of
put_within-requires-then-bound-capacity_of c =
    (c.requires.0, c.requires.1, sym c.header_ok.ensures ∙ c.if-not-header_ok.false, omega (arith, c.capacity_of.ensures))

pub returns-then-bound-capacity_of-clause-number : goal.returns-then-bound-capacity_of-clause-number
returns-then-bound-capacity_of-clause-number c =
    let below : c.bound_of-bound.result < capacity (length c.args.table.now) = omega (arith, c.capacity_of.ensures) in
    let found = looked-is c.look_up.ensures (c.in-Ok-None.is ∙ ap Ok c.in-Ok-None.field-0-is) in
    add-below _ _ c.args.s found c.bound_of-bound.ensures.0 below c.put_within-then-bound-capacity_of.ensures.number

pub put_counted-requires : goal.put_counted-requires
put_counted-requires c =
    (c.requires.0, c.requires.1, sym c.header_ok.ensures ∙ c.if-not-header_ok.false, looked-is c.look_up.ensures (c.in-Ok-None.is ∙ ap Ok c.in-Ok-None.field-0-is))

pub returns-in-Err-clause-number : goal.returns-in-Err-clause-number
returns-in-Err-clause-number c = add-lost _ _ c.args.s c.look_up.ensures c.in-Err.is

pub returns-in-Ok-Some-clause-number : goal.returns-in-Ok-Some-clause-number
returns-in-Ok-Some-clause-number c =
    let found = looked-is c.look_up.ensures (c.in-Ok-Some.is ∙ ap Ok c.in-Ok-Some.field-0-is) in
    add-replaced _ _ c.args.s c.bound_of-bound.ensures.0 found c.put_within.ensures.number

pub returns-else-bound-capacity_of-clause-number : goal.returns-else-bound-capacity_of-clause-number
returns-else-bound-capacity_of-clause-number c = c.put_counted.ensures.number

pub header_ok-requires : goal.header_ok-requires
header_ok-requires c = lent-long c.requires.0

pub bound_of-bound-requires : goal.bound_of-bound-requires
bound_of-bound-requires c = lent-long c.requires.0
