-- `visit::strike_key` meets its contract: a key of a run that rises stands at one place.
use Rattle.visit.proofs.Search.{key_reads}
use Rattle.visit.proofs.Marking.{struck-hit, struck-miss}
use Rattle.visit.proofs.strike_key.Goals as goal

pub onward-i-requires : goal.onward-i-requires
onward-i-requires c = (c.requires.0, c.requires.2)

pub read_key-requires : goal.read_key-requires
read_key-requires c = key_reads c.requires.0 c.onward-i.result c.if-i-n.true

pub returns-then-i-n : goal.returns-then-i-n
returns-then-i-n c =
    let s = c.args in
    let p = c.requires in
    let e = c.onward-i.ensures in
    (e, struck-hit s.t.now s.at s.n p.0.rise s.k e s.m.now p.1 c.if-i-n.true c.read_key.ensures.0)

pub returns-else-i-n : goal.returns-else-i-n
returns-else-i-n c =
    let s = c.args in
    let e = c.onward-i.ensures in
    (e, struck-miss s.t.now s.at s.n c.requires.0.rise s.k e s.m.now c.if-i-n.false)
