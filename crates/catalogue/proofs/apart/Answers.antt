-- `catalogue::apart` meets its contract: it reads the two entries.
use native.Mathlib.Numerals.{add-one}
use Rattle.catalogue.specs.Catalogue.{apart}
use Rattle.catalogue.proofs.apart.Goals as goal

pub returns : goal.returns
unfolding apart
returns c =
    let a = c.args in
    rw (c.entry_at.ensures, c.entry_at-2.ensures, add-one)
