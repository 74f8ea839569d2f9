-- `message::size_at` meets its contract: one law for each way out.
use mathlib.Core.Path.{sym, ◌∙◌}
use native.Mathlib.Omega.{arith}
use Rattle.message.proofs.Cursor.{fill-small}
use Rattle.message.proofs.Judging.{size-short, size-row, size-strange, size-dirty, size-clean}
use Rattle.message.proofs.size_at.Goals as goal

pub overflow_add-fill : goal.overflow_add-fill
overflow_add-fill c = omega (arith, fill-small c.args.fill c.requires.0)

pub returns-then-left-fill : goal.returns-then-left-fill
returns-then-left-fill c =
    let a = c.args in
    size-short a.fill a.s.now a.at c.requires.0 c.requires.1 c.if-left-fill.true

pub returns-then-kind-left : goal.returns-then-kind-left
returns-then-kind-left c =
    let a = c.args in
    size-row a.fill a.s.now a.at c.requires.0 c.requires.1 _ c.count_at-kind.ensures.0 c.if-kind-left.true

pub returns-then-kind-ne2 : goal.returns-then-kind-ne2
returns-then-kind-ne2 c =
    let a = c.args in
    size-strange a.fill a.s.now a.at c.requires.0 c.requires.1 _ c.count_at-kind.ensures.0 c.if-kind-left.false (λ e. omega (arith, c.if-kind-ne2.true, e))

pub returns-then-not-filled : goal.returns-then-not-filled
returns-then-not-filled c =
    let a = c.args in
    size-dirty a.fill a.s.now a.at c.requires.0 c.requires.1 _ c.count_at-kind.ensures.0 c.if-kind-ne2.false
    (sym c.filled.ensures ∙ c.if-not-filled.true)

pub returns : goal.returns
returns c =
    let a = c.args in
    size-clean a.fill a.s.now a.at c.requires.0 c.requires.1 _ c.count_at-kind.ensures.0 c.if-kind-ne2.false c.if-left-fill.false
    (sym c.filled.ensures ∙ c.if-not-filled.false)
