-- `message::write_message` meets its contract: refusals leave all, else the first bytes and behind them the changes.
use mathlib.Core.Path.{refl, sym, ◌∙◌}
use Rattle.std.proofs.lemmas.Result.{err_from_is_err_and}
use Rattle.block.proofs.Answers.{refused-numbered}
use Rattle.message.proofs.Posts.{write-none, write-readable, write-short, write-outside, write-recodes, write_done}
use Rattle.message.proofs.write_message.Goals as goal

pub returns-then-not-list_ok : goal.returns-then-not-list_ok
returns-then-not-list_ok c =
    let a = c.args in
    write-none a.changes.now a.message.now (sym c.list_ok.ensures ∙ c.if-not-list_ok.true) refl

pub count_adds-requires : goal.count_adds-requires
count_adds-requires c =
    let a = c.args in
    (write-readable a.changes.now a.message.now (sym c.list_ok.ensures ∙ c.if-not-list_ok.false)).0

pub returns-then-message-bytes : goal.returns-then-message-bytes
returns-then-message-bytes c =
    let a = c.args in
    write-short a.changes.now a.message.now (sym c.list_ok.ensures ∙ c.if-not-list_ok.false) c.count_adds.ensures.0
    c.if-message-bytes.true refl

pub check_limits-requires : goal.check_limits-requires
check_limits-requires c =
    let a = c.args in
    write-readable a.changes.now a.message.now (sym c.list_ok.ensures ∙ c.if-not-list_ok.false)

pub returns-in_err-check_limits : goal.returns-in_err-check_limits
returns-in_err-check_limits c =
    let a = c.args in
    let p = err_from_is_err_and c.from_residual.result c.from_residual.ensures.1 in
    rw (p.1, p.2)
    (write-outside a.changes.now a.message.now (sym c.list_ok.ensures ∙ c.if-not-list_ok.false) c.count_adds.ensures.0
    c.if-message-bytes.false c.in_err-check_limits.ensures (refused-numbered c.in_err-check_limits.field-0.0))

pub recode-requires : goal.recode-requires
recode-requires c =
    let a = c.args in
    write-recodes a.changes.now a.message.now (sym c.list_ok.ensures ∙ c.if-not-list_ok.false) c.count_adds.ensures.0
    c.if-message-bytes.false (c.in_ok-check_limits.ensures) refl c.write_head.new.m c.write_head.auto.m

pub returns : goal.returns
returns c =
    let a = c.args in
    write_done a.changes.now a.message.now (sym c.list_ok.ensures ∙ c.if-not-list_ok.false) c.count_adds.ensures.0
    c.if-message-bytes.false (c.in_ok-check_limits.ensures) refl c.write_head.ensures c.recode.ensures
    refl
