-- `lookup::node_says` meets its contract: P, then I, then D, each a run in the table.
use native.Mathlib.Omega.{arith}
use mathlib.Core.Path.{ap, ◌∙◌}
use Rattle.block.specs.Node.{store_of}
use Rattle.block.specs.Access.{front_of}
use Rattle.block.proofs.Frames.{part-is}
use Rattle.visit.proofs.Runs.{Runs, runs_of, points-ready, inserts-ready, deletes-ready}
use Rattle.lookup.proofs.Finds.{points-find, inserts-find, deletes-has, word-point, word-insert, word-change}
use Rattle.lookup.proofs.node_says.Goals as goal
use Rattle.lookup.proofs.node_says.Goals.{After-front_of-h}

-- the buffers of the node
runs : (c : After-front_of-h) → Runs c.args.t.now c.args.b c.front_of-h.result
runs c =
    let a = c.args in
    runs_of a.t.now a.b c.requires (c.front_of-h.ensures.0 ∙ ap front_of (part-is a.t.now a.b))

pub points_from-requires : goal.points_from-requires
points_from-requires c = omega (arith, (runs (goal.at.points_from-requires c).After-front_of-h).used)

pub inserts_from-requires : goal.inserts_from-requires
inserts_from-requires c = omega (arith, (runs (goal.at.inserts_from-requires c).After-front_of-h).used)

pub deletes_from-requires : goal.deletes_from-requires
deletes_from-requires c = omega (arith, (runs (goal.at.deletes_from-requires c).After-front_of-h).used)

pub find_run-requires : goal.find_run-requires
find_run-requires c =
    points-ready c.args.t.now c.args.b c.front_of-h.result (runs (goal.at.find_run-requires c).After-front_of-h) c.requires.inside c.points_from.ensures

pub returns-in-Some : goal.returns-in-Some
returns-in-Some c =
    let t = c.args.t.now in
    let r = runs (goal.at.returns-in-Some c).After-front_of-h in
    record { word = λ below. word-point (store_of t c.args.b) c.args.k below (points-find t c.args.b c.front_of-h.result r c.args.k c.points_from.ensures c.in-Some.ensures) }

pub find_run-requires-2 : goal.find_run-requires-2
find_run-requires-2 c =
    inserts-ready c.args.t.now c.args.b c.front_of-h.result (runs (goal.at.find_run-requires-2 c).After-front_of-h) c.requires.inside c.inserts_from.ensures

pub has_key-requires : goal.has_key-requires
has_key-requires c =
    deletes-ready c.args.t.now c.args.b c.front_of-h.result (runs (goal.at.has_key-requires c).After-front_of-h) c.requires.inside c.deletes_from.ensures

pub returns-in-Some-find_run : goal.returns-in-Some-find_run
returns-in-Some-find_run c =
    let t = c.args.t.now in
    let r = runs (goal.at.returns-in-Some-find_run c).After-front_of-h in
    record {
      word = λ below. word-insert (store_of t c.args.b) c.args.k below
          (points-find t c.args.b c.front_of-h.result r c.args.k c.points_from.ensures c.in_default.ensures)
          (inserts-find t c.args.b c.front_of-h.result r c.args.k c.inserts_from.ensures c.in-Some-find_run.ensures);
    }

pub returns-then-has_key : goal.returns-then-has_key
returns-then-has_key c =
    let t = c.args.t.now in
    let r = runs (goal.at.returns-then-has_key c).After-front_of-h in
    record {
      word = λ below. word-change (store_of t c.args.b) c.args.k below
          (points-find t c.args.b c.front_of-h.result r c.args.k c.points_from.ensures c.in_default.ensures)
          (inserts-find t c.args.b c.front_of-h.result r c.args.k c.inserts_from.ensures c.in_default-find_run.ensures)
          (deletes-has t c.args.b c.front_of-h.result r c.args.k c.deletes_from.ensures c.if-has_key.ensures);
    }

pub returns : goal.returns
returns c =
    let t = c.args.t.now in
    let r = runs (goal.at.returns c).After-front_of-h in
    record {
      word = λ below. word-change (store_of t c.args.b) c.args.k below
          (points-find t c.args.b c.front_of-h.result r c.args.k c.points_from.ensures c.in_default.ensures)
          (inserts-find t c.args.b c.front_of-h.result r c.args.k c.inserts_from.ensures c.in_default-find_run.ensures)
          (deletes-has t c.args.b c.front_of-h.result r c.args.k c.deletes_from.ensures c.if-has_key.ensures);
    }
