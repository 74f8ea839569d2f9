-- `frontier::waits_in` meets its contract: the inserts, then the deletes.
use Rattle.frontier.proofs.Spots.{part-sizes}
use Rattle.frontier.proofs.Waits.{waits-first, waits-second}
use Rattle.visit.proofs.Runs.{Runs, inserts-ready, deletes-ready}
use mathlib.Core.Path.{sym, ◌∙◌}
use native.Mathlib.Omega.{arith}
use Rattle.frontier.proofs.waits_in.Goals as goal
use Rattle.frontier.proofs.waits_in.Goals.{After-front_of-h}

-- the node's buffers
known : (c : After-front_of-h) → let a = c.args in Runs a.t.now a.b c.front_of-h.result
known c = (part-sizes c.args.t.now c.args.b c.requires c.front_of-h.ensures.0).runs

pub inserts_from-requires : goal.inserts_from-requires
inserts_from-requires c = omega (arith, (known (goal.at.inserts_from-requires c).After-front_of-h).used)

pub has_key-requires : goal.has_key-requires
has_key-requires c =
    inserts-ready c.args.t.now c.args.b c.front_of-h.result (known (goal.at.has_key-requires c).After-front_of-h) c.requires.inside c.inserts_from.ensures

pub returns-then-has_key : goal.returns-then-has_key
returns-then-has_key c =
    let a = c.args in
    let y = waits-first a.t.now a.b c.front_of-h.result (known (goal.at.returns-then-has_key c).After-front_of-h) c.requires.inside a.k c.inserts_from.ensures (sym c.has_key.ensures ∙ c.if-has_key.true) in
    sym y

pub deletes_from-requires : goal.deletes_from-requires
deletes_from-requires c = omega (arith, (known (goal.at.deletes_from-requires c).After-front_of-h).used)

pub has_key-requires-2 : goal.has_key-requires-2
has_key-requires-2 c =
    deletes-ready c.args.t.now c.args.b c.front_of-h.result (known (goal.at.has_key-requires-2 c).After-front_of-h) c.requires.inside c.deletes_from.ensures

pub returns : goal.returns
returns c =
    let a = c.args in
    let y = waits-second a.t.now a.b c.front_of-h.result (known (goal.at.returns c).After-front_of-h) c.requires.inside a.k c.inserts_from.ensures c.deletes_from.ensures
    (sym c.has_key.ensures ∙ c.if-has_key.false) in
    c.has_key-2.ensures ∙ sym y
