-- `message::message_ok` meets its contract.
use mathlib.Core.Path.{refl, sym, ◌∙◌}
use mathlib.Core.Logic.{inl}
use native.Mathlib.Omega.{arith}
use Rattle.message.proofs.Judging.{head-long, no-message, headed-message}
use Rattle.message.proofs.message_ok.Goals as goal

pub returns-then-not-head_ok : goal.returns-then-not-head_ok
returns-then-not-head_ok c = no-message c.args.m.now (sym c.head_ok.ensures ∙ c.if-not-head_ok.true)

pub read16-requires : goal.read16-requires
read16-requires c =
    omega (arith, head-long c.args.m.now (sym c.head_ok.ensures ∙ c.if-not-head_ok.false))

pub changes_ok-requires : goal.changes_ok-requires
changes_ok-requires c =
    (inl refl, head-long c.args.m.now (sym c.head_ok.ensures ∙ c.if-not-head_ok.false))

pub returns : goal.returns
returns c =
    headed-message c.args.m.now (sym c.head_ok.ensures ∙ c.if-not-head_ok.false)
    c.read16.ensures.0 c.changes_ok.ensures
