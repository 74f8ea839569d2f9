-- `message::change_at` meets its contract.
use mathlib.Core.Path.{sym, ap, ◌∙◌}
use native.Mathlib.Omega.{arith}
use Rattle.message.specs.declared.Change.TheVariants.{Add, Withdraw}
use Rattle.message.proofs.Cursor.{change-adds, change-withdraws}
use Rattle.message.proofs.change_at.Goals as goal

pub bounds-s-at : goal.bounds-s-at
bounds-s-at c = omega (arith, c.requires.inside)

pub read_spot-requires : goal.read_spot-requires
read_spot-requires c =
    (omega (arith, c.requires.room c.if-s-at-eq1.true), c.requires.limits)

pub returns-then-s-at-eq1 : goal.returns-then-s-at-eq1
returns-then-s-at-eq1 c =
    let a = c.args in
    ap Add c.read_spot.ensures.0 ∙ sym (change-adds a.s.now a.at c.if-s-at-eq1.true)

pub overflow_add-at-2 : goal.overflow_add-at-2
overflow_add-at-2 c = omega (arith, c.requires.inside)

pub read_key-requires : goal.read_key-requires
read_key-requires c =
    (omega (arith, c.requires.inside), c.requires.limits)

pub returns : goal.returns
returns c =
    let a = c.args in
    ap Withdraw c.read_key.ensures.0 ∙ sym (change-withdraws a.s.now a.at c.if-s-at-eq1.false)
