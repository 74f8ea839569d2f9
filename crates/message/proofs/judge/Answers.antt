-- `message::judge` meets its contract.
use mathlib.Core.Path.{sym, ap, ◌∙◌}
use mathlib.Core.Option.{Option}
use mathlib.Core.List.{List}
use native.Mathlib.Omega.{arith}
use Rattle.message.specs.declared.Change.{Change}
use Rattle.message.specs.Changes.{changes_of}
use Rattle.message.specs.Messages.{limits_answer}
use Rattle.message.proofs.Cursor.{message-there}
use Rattle.message.proofs.Judging.{message-is, message-readable, message-refused, message-told}
use Rattle.message.proofs.judge.Goals as goal

pub returns-then-not-message_ok : goal.returns-then-not-message_ok
returns-then-not-message_ok c =
    message-refused c.args.m.now (sym c.message_ok.ensures ∙ c.if-not-message_ok.true)

pub read16-requires : goal.read16-requires
read16-requires c =
    omega (arith, (message-there c.args.m.now (sym c.message_ok.ensures ∙ c.if-not-message_ok.false)).head)

pub check_limits-requires : goal.check_limits-requires
check_limits-requires c =
    let m = c.args.m.now in
    let h = sym c.message_ok.ensures ∙ c.if-not-message_ok.false in
    (message-readable m h c.read16.ensures.0, omega (arith, c.read16.ensures.0, (message-there m h).few))

pub returns : goal.returns
returns c =
    let m = c.args.m.now in
    let h = sym c.message_ok.ensures ∙ c.if-not-message_ok.false in
    c.check_limits.ensures
    ∙ ap (λ (o : Option (List Change)). limits_answer (changes_of o)) (message-is m h c.read16.ensures.0)
    ∙ message-told m h
