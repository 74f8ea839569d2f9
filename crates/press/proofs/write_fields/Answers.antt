-- `press::write_fields` meets its contract: its parts stand one behind the other.
use Rattle.press.proofs.PutBytes.{fields-written}
use Rattle.press.proofs.write_fields.Goals as goal

pub returns : goal.returns
returns c =
    let a = c.args in
    fields-written a.s.now a.at a.e a.made a.ended c.requires c.write32.ensures c.write_key.ensures c.write_key-2.ensures
    c.write_key-3.ensures c.write_key-4.ensures
