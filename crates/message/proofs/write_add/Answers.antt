-- `message::write_add` meets its contract: a byte, and the spot behind it.
use native.Mathlib.Omega.{arith}
use lib.ListN.{length-set}
use mathlib.Core.Path.{◌∙◌}
use Rattle.message.proofs.Writing.{add-written}
use Rattle.message.proofs.write_add.Goals as goal

pub write_spot-requires : goal.write_spot-requires
write_spot-requires c =
    let a = c.args in
    omega (arith, length-set a.s.now a.at 1)

pub shape_of-s : goal.shape_of-s
shape_of-s c =
    let a = c.args in
    c.write_spot.auto.s ∙ length-set a.s.now a.at 1

pub returns : goal.returns
returns c =
    let a = c.args in
    add-written a.s.now a.at a.x c.requires c.write_spot.ensures
