-- `spot::read_place` meets its contract: the first word of an identity is its place, which is inside the limits.
use Rattle.std.proofs.Common.{◌≡◌, ap, ◌∙◌, w32}
use mir.ValLaws.{to_z-of_z}
use Rattle.spot.specs.Keys.{place_of, in_limits, limited}
use Rattle.spot.specs.Spots.{key_at}
use Rattle.spot.proofs.Orders.{place-word}
use Rattle.spot.proofs.read_place.Goals as goal

pub returns : goal.returns
unfolding limited
returns c =
    let r = c.read_i32 in
    let e : r.result ≡ place_of (key_at c.args.s.now c.args.at) =
    r.ensures ∙ place-word c.args.s.now c.args.at (λ j. (c.shared_slice_known-1.given j).fits) in
    rw (to_z-of_z w32 r.result (record { sfits = r.type_inv })) (e, ap in_limits e ∙ c.requires.1)
