-- `visit::strike_node` meets its contract: the inserts and the deletes are runs of keys in the table.
use native.Mathlib.Omega.{arith}
use mathlib.Core.List.{List}
use mathlib.Core.Path.{refl, sym, ap, subst, ◌∙◌}
use Prim.Native.Nat.{ℕ}
use Rattle.visit.proofs.Marking.{struck-none, struck-then, blank-struck}
use Rattle.visit.proofs.Runs.{Runs, runs_of, inserts-ready, deletes-ready, waiting-is, waiting_none}
use Rattle.visit.specs.Visit.{Struck}
use Rattle.block.proofs.Frames.{part-is}
use Rattle.block.specs.Access.{front_of}
use Rattle.visit.proofs.strike_node.Goals as goal
use Rattle.visit.proofs.strike_node.Goals.{After-front_of-h}

-- the buffers of the node
runs : (c : After-front_of-h) → Runs c.args.t.now c.args.b c.front_of-h.result
runs c =
    let a = c.args in
    runs_of a.t.now a.b c.requires.1 (c.front_of-h.ensures.0 ∙ ap front_of (part-is a.t.now a.b))

pub returns-then-h : goal.returns-then-h
returns-then-h c =
    let a = c.args in
    subst (λ (ks : List ℕ). Struck a.t.now a.at a.n ks a.m.now a.m.now)
    (sym (waiting_none a.t.now a.b c.front_of-h.result (runs (goal.at.returns-then-h c).After-front_of-h) c.requires.1.inside c.if-h.true))
    (struck-none a.m.now (λ i l. refl))

pub inserts_from-requires : goal.inserts_from-requires
inserts_from-requires c = omega (arith, (runs (goal.at.inserts_from-requires c).After-front_of-h).used)

pub deletes_from-requires : goal.deletes_from-requires
deletes_from-requires c = omega (arith, (runs (goal.at.deletes_from-requires c).After-front_of-h).used)

pub strike-requires : goal.strike-requires
strike-requires c =
    let a = c.args in
    let p = c.requires in
    (p.0, inserts-ready a.t.now a.b c.front_of-h.result (runs (goal.at.strike-requires c).After-front_of-h) p.1.inside c.inserts_from.ensures, p.2, p.3)

pub strike-requires-2 : goal.strike-requires-2
strike-requires-2 c =
    let a = c.args in
    let p = c.requires in
    (p.0, deletes-ready a.t.now a.b c.front_of-h.result (runs (goal.at.strike-requires-2 c).After-front_of-h) p.1.inside c.deletes_from.ensures, omega (arith, p.2, c.strike.ensures.sized), blank-struck a.lo a.hi c.strike.ensures p.3)

pub returns : goal.returns
returns c =
    let a = c.args in
    subst (λ (ks : List ℕ). Struck a.t.now a.at a.n ks a.m.now c.strike-2.new.m)
    (waiting-is a.t.now a.b c.front_of-h.result (runs (goal.at.returns c).After-front_of-h) c.requires.1.inside c.inserts_from.ensures c.deletes_from.ensures)
    (struck-then c.strike.ensures c.strike-2.ensures)
