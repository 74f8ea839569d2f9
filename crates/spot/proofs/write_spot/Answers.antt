-- `spot::write_spot` meets its contract: its two writes are those of `put_spot`.
use Rattle.std.proofs.Common.{ℕ, ◌+◌, List, ap, ◌∙◌}
use Rattle.octets.specs.Bytes.{put_be}
use Rattle.spot.specs.Spots.{put_spot}
use Rattle.spot.proofs.write_spot.Goals as goal

pub returns : goal.returns
unfolding put_spot
returns c =
    let a = c.args in
    c.write32.ensures ∙ ap (λ (l : List ℕ). put_be 4 l (a.at + 8) a.spot.track) c.write_key.ensures
