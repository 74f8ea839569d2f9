-- `spot::write_key` meets its contract: its two writes are those of `put_key`.
use Rattle.std.proofs.Common.{ℕ, ◌+◌, List, ap, ◌∙◌, ap₂}
use Rattle.octets.specs.Bytes.{put_be}
use Rattle.spot.specs.Spots.{put_key}
use Rattle.spot.proofs.write_key.Goals as goal

pub returns : goal.returns
unfolding put_key
returns c =
    let a = c.args in
    c.write32-2.ensures
    ∙ ap₂ (λ (l : List ℕ) (v : ℕ). put_be 4 l (a.at + 4) v) (c.write32.ensures ∙ ap (put_be 4 a.s.now a.at) c.turn.ensures.0)
    c.turn-2.ensures.0
