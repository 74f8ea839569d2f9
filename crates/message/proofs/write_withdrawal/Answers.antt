-- `message::write_withdrawal` meets its contract: a byte, the key behind it, and in a list four zeros behind that.
use native.Mathlib.Omega.{arith}
use lib.ListN.{length-set}
use mathlib.Core.Path.{◌∙◌}
use Rattle.message.proofs.Writing.{withdrawal-written, filled-written}
use Rattle.message.proofs.write_withdrawal.Goals as goal

pub write_key-requires : goal.write_key-requires
write_key-requires c =
    let a = c.args in
    omega (arith, length-set a.s.now a.at 2)

pub write32-requires : goal.write32-requires
write32-requires c =
    let a = c.args in
    omega (arith, length-set a.s.now a.at 2, c.write_key.auto.s, c.requires.1)

pub shape_of-s-then-fill-eq-ROW_FILL : goal.shape_of-s-then-fill-eq-ROW_FILL
shape_of-s-then-fill-eq-ROW_FILL c =
    let a = c.args in
    c.write32.auto.s ∙ c.write_key.auto.s ∙ length-set a.s.now a.at 2

pub returns-then-fill-eq-ROW_FILL : goal.returns-then-fill-eq-ROW_FILL
returns-then-fill-eq-ROW_FILL c =
    let a = c.args in
    filled-written a.s.now a.at a.k a.fill c.if-fill-eq-ROW_FILL.true c.requires.1 c.write_key.ensures c.write32.ensures

pub shape_of-s-else-fill-eq-ROW_FILL : goal.shape_of-s-else-fill-eq-ROW_FILL
shape_of-s-else-fill-eq-ROW_FILL c =
    let a = c.args in
    c.write_key.auto.s ∙ length-set a.s.now a.at 2

pub returns-else-fill-eq-ROW_FILL : goal.returns-else-fill-eq-ROW_FILL
returns-else-fill-eq-ROW_FILL c =
    let a = c.args in
    withdrawal-written a.s.now a.at a.k a.fill c.requires.0 c.if-fill-eq-ROW_FILL.false c.requires.1 c.write_key.ensures
