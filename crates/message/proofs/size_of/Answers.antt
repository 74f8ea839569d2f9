-- `message::size_of` meets its contract.
use mathlib.Core.Path.{sym}
use native.Mathlib.Omega.{arith}
use Rattle.message.proofs.Cursor.{size-adds, size-withdraws, fill-small}
use Rattle.message.proofs.size_of.Goals as goal

pub returns-then-s-at-eq1 : goal.returns-then-s-at-eq1
returns-then-s-at-eq1 c = let a = c.args in sym (size-adds a.fill a.s.now a.at c.if-s-at-eq1.true)

pub overflow_add-result : goal.overflow_add-result
overflow_add-result c = omega (arith, fill-small c.args.fill c.requires.0)

pub returns : goal.returns
returns c = let a = c.args in sym (size-withdraws a.fill a.s.now a.at c.if-s-at-eq1.false)
