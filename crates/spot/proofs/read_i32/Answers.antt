-- `spot::read_i32` meets its contract: a number in two's complement is the one moved up, turned.
use Rattle.std.proofs.Common.{sym, ap, ◌∙◌, arith, w32}
use mir.ValLaws.{to_z-of_z}
use Rattle.octets.specs.Bytes.{be}
use Rattle.spot.specs.Keys.{unbiased, turned}
use Rattle.spot.proofs.Signed.{to_z-turned}
use Rattle.spot.proofs.read_i32.Goals as goal

pub returns : goal.returns
returns c =
    let a = c.args in
    let n = c.read32 in
    to_z-of_z w32 c.unbias.result (record { sfits = c.unbias.type_inv }) ∙ c.unbias.ensures
    ∙ ap unbiased (c.turn.ensures.0 ∙ ap turned n.ensures.0)
    ∙ sym (to_z-turned (be 4 a.s.now a.at) (omega (arith, n.ensures.0, n.ensures.1)))
