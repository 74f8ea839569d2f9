-- `spot::read_rank` meets its contract: the second word of an identity is its rank.
use Rattle.std.proofs.Common.{◌∙◌, w32}
use mir.ValLaws.{to_z-of_z}
use Rattle.spot.proofs.Orders.{rank-word}
use Rattle.spot.proofs.read_rank.Goals as goal

pub returns : goal.returns
returns c =
    to_z-of_z w32 c.read_i32.result (record { sfits = c.read_i32.type_inv }) ∙ c.read_i32.ensures
    ∙ rank-word c.args.s.now c.args.at (λ j. (c.shared_slice_known-1.given j).fits)
