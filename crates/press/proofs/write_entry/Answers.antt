-- `press::write_entry` meets its contract: what the fields hold is what the entry says.
use Rattle.press.specs.Press.{spots_given}
use Rattle.press.proofs.Pieces.{entry-written}
use Rattle.press.proofs.write_entry.Goals as goal

pub returns : goal.returns
returns c =
    let a = c.args in
    entry-written a.s.now a.at (spots_given a.spots.now) a.p c.extent_of.ensures c.made_key.ensures c.write_fields.ensures
