-- `fill::carry_out` meets its contract.
use Rattle.fill.proofs.Turns.{replaced-ready}
use Rattle.fill.proofs.carry_out.Goals as goal

pub from_inserts-requires : goal.from_inserts-requires
from_inserts-requires c = let w = c.requires in replaced-ready w.0 w.1 c.with_child.ensures

pub returns-in-Some-Some : goal.returns-in-Some-Some
returns-in-Some-Some c =
    rw (c.in-Some-Some.is-0, c.in-Some-Some.is-1)
    (record { next = c.with_child.result; replaced = c.with_child.ensures; up = c.from_inserts.ensures })

pub from_top-requires : goal.from_top-requires
from_top-requires c = let w = c.requires in replaced-ready w.0 w.1 c.with_child-in-Some-None.ensures

pub returns-in-Some-None : goal.returns-in-Some-None
returns-in-Some-None c =
    rw (c.in-Some-None.is-0, c.in-Some-None.is-1)
    (record { next = c.with_child-in-Some-None.result; replaced = c.with_child-in-Some-None.ensures; up = c.from_top.ensures })
