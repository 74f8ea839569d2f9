-- `spot::is_ring` meets its contract: the places compare as the keys of the two ends.
use Rattle.std.proofs.Common.{w32}
use mir.ValLaws.{to_z-of_z}
use Rattle.spot.proofs.Signed.{Fits}
use Rattle.spot.proofs.Orders.{ring-is}
use Rattle.spot.proofs.is_ring.Goals as goal

pub returns : goal.returns
returns c =
    let q = c.args.q in
    let f1 : Fits q.x1 = record { sfits = c.struct_told-1.given.0.1 } in
    let f2 : Fits q.x2 = record { sfits = c.struct_told-1.given.1.0.1 } in
    rw (to_z-of_z w32 q.x1 f1, to_z-of_z w32 q.x2 f2) (ring-is q f1 f2)
