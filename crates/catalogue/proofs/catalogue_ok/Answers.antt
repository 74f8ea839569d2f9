-- `catalogue::catalogue_ok` meets its contract: its calls make up `catalogue_fine`.
use native.Mathlib.Omega.{arith}
use Rattle.catalogue.proofs.Lengths.{Lengths, sized-lengths}
use Rattle.catalogue.proofs.Making.{catalogue-made}
use Rattle.catalogue.proofs.catalogue_ok.Goals as goal
use Rattle.catalogue.proofs.catalogue_ok.Goals.{Start}

lengths : (c : Start) → Lengths c.args.bytes
lengths c = sized-lengths c.args.bytes c.requires.0

pub overflow_sub-m : goal.overflow_sub-m
overflow_sub-m c = (lengths (goal.at.overflow_sub-m c).Start).some

pub zeros-tail-requires : goal.zeros-tail-requires
zeros-tail-requires c = omega (arith, (lengths (goal.at.zeros-tail-requires c).Start).few, c.requires.1)

pub entries_ok-requires : goal.entries_ok-requires
entries_ok-requires c = ((lengths (goal.at.entries_ok-requires c).Start).some, (lengths (goal.at.entries_ok-requires c).Start).few, c.requires.1)

pub entries_agree-requires : goal.entries_agree-requires
entries_agree-requires c = ((lengths (goal.at.entries_agree-requires c).Start).few, c.requires.1)

pub returns : goal.returns
returns c =
    let a = c.args in
    catalogue-made a.bytes a.s.now c.read32.ensures.0 c.read32-version.ensures.0 c.entries_ok.ensures c.zeros-tail.ensures
    c.entries_agree.ensures
