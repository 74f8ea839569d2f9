-- `catalogue::makers_rise` meets its contract: it reads the two entries.
use native.Mathlib.Numerals.{add-one}
use Rattle.catalogue.specs.Catalogue.{makers_rise}
use Rattle.catalogue.proofs.makers_rise.Goals as goal

pub returns : goal.returns
unfolding makers_rise
returns c =
    rw (c.rank_key.ensures, c.rank_key-2.ensures, c.entry_at.ensures, c.entry_at-2.ensures, add-one)
