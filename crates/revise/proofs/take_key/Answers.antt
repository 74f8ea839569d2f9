-- `revise::take_key` meets its contract: by the lookup.
use Rattle.std.specs.Prelude.{Ok}
use Rattle.revise.proofs.Calls.{lent-long, bound-few, looked-is, drop-header, drop-lost, drop-uncounted, drop-none, drop-live}
use mathlib.Core.Path.{sym, ◌∙◌, ap}
use native.Mathlib.Omega.{arith}
use Rattle.revise.proofs.take_key.Goals as goal

pub returns-then-not-header_ok-clause-number : goal.returns-then-not-header_ok-clause-number
returns-then-not-header_ok-clause-number c = drop-header _ _ c.args.k _ c.header_ok.ensures c.if-not-header_ok.true

pub look_up-requires : goal.look_up-requires
look_up-requires c = c.requires.0.sized

pub returns-then-bound-eq0-clause-number : goal.returns-then-bound-eq0-clause-number
returns-then-bound-eq0-clause-number c =
    drop-uncounted _ _ c.args.k c.bound_of-bound.ensures.0 (looked-is c.look_up.ensures (c.in-Ok-Some.is ∙ ap Ok c.in-Ok-Some.field-0-is)) c.if-bound-eq0.true

pub take_within-requires : goal.take_within-requires
take_within-requires c =
    let ok = sym c.header_ok.ensures ∙ c.if-not-header_ok.false in
    (c.requires.0, c.requires.1, ok, omega (arith, bound-few c.args.table.now ok c.bound_of-bound.ensures.0))

pub returns-in-Err-clause-number : goal.returns-in-Err-clause-number
returns-in-Err-clause-number c = drop-lost _ _ c.args.k c.look_up.ensures c.in-Err.is

pub returns-else-bound-eq0-clause-number : goal.returns-else-bound-eq0-clause-number
returns-else-bound-eq0-clause-number c =
    let found = looked-is c.look_up.ensures (c.in-Ok-Some.is ∙ ap Ok c.in-Ok-Some.field-0-is) in
    drop-live _ _ c.args.k c.bound_of-bound.ensures.0 found c.take_within.ensures.number

pub returns-in-Ok-None-clause-number : goal.returns-in-Ok-None-clause-number
returns-in-Ok-None-clause-number c = drop-none _ _ c.args.k (looked-is c.look_up.ensures (c.in-Ok-None.is ∙ ap Ok c.in-Ok-None.field-0-is))

pub header_ok-requires : goal.header_ok-requires
header_ok-requires c = lent-long c.requires.0

pub bound_of-bound-requires : goal.bound_of-bound-requires
bound_of-bound-requires c = lent-long c.requires.0
