-- `message::read_message` meets its contract: refusals leave all, else the changes stand at the front.
use mathlib.Core.Path.{refl, sym, ◌∙◌}
use native.Mathlib.Omega.{arith}
use Rattle.std.proofs.lemmas.Result.{err_from_is_err_and}
use Rattle.block.proofs.Answers.{refused-numbered}
use Rattle.message.proofs.Cursor.{message-there}
use Rattle.message.proofs.Posts.{read_none, read-readable, read_short, read-outside, read-recodes, read_done}
use Rattle.message.proofs.read_message.Goals as goal

pub returns-then-not-message_ok : goal.returns-then-not-message_ok
returns-then-not-message_ok c =
    let a = c.args in
    read_none a.message.now a.changes.now (sym c.message_ok.ensures ∙ c.if-not-message_ok.true) refl

pub read16-n-requires : goal.read16-n-requires
read16-n-requires c =
    let a = c.args in
    omega (arith, (message-there a.message.now (sym c.message_ok.ensures ∙ c.if-not-message_ok.false)).head)

pub returns-then-changes-n : goal.returns-then-changes-n
returns-then-changes-n c =
    let a = c.args in
    read_short a.message.now a.changes.now (sym c.message_ok.ensures ∙ c.if-not-message_ok.false) c.read16-n.ensures.0
    c.if-changes-n.true refl

pub check_limits-requires : goal.check_limits-requires
check_limits-requires c =
    let a = c.args in
    read-readable a.message.now a.changes.now (sym c.message_ok.ensures ∙ c.if-not-message_ok.false) c.read16-n.ensures.0

pub returns-in_err-check_limits : goal.returns-in_err-check_limits
returns-in_err-check_limits c =
    let a = c.args in
    let p = err_from_is_err_and c.from_residual.result c.from_residual.ensures.1 in
    rw (p.1, p.2)
    (read-outside a.message.now a.changes.now (sym c.message_ok.ensures ∙ c.if-not-message_ok.false) c.read16-n.ensures.0
    c.if-changes-n.false c.in_err-check_limits.ensures (refused-numbered c.in_err-check_limits.field-0.0))

pub recode-requires : goal.recode-requires
recode-requires c =
    let a = c.args in
    read-recodes a.message.now a.changes.now (sym c.message_ok.ensures ∙ c.if-not-message_ok.false) c.read16-n.ensures.0
    c.if-changes-n.false (c.in_ok-check_limits.ensures) refl

pub returns : goal.returns
returns c =
    let a = c.args in
    read_done a.message.now a.changes.now (sym c.message_ok.ensures ∙ c.if-not-message_ok.false) c.read16-n.ensures.0
    c.if-changes-n.false (c.in_ok-check_limits.ensures) refl c.recode.ensures refl
