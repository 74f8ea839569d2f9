-- `visit::strike_path` meets its contract: what waits in the nodes above is struck, node after node.
use mathlib.Core.Path.{◌≡◌}
use native.Mathlib.Omega.{arith}
use lib.ListN.{length, get_or}
use borrow.Author.Rules.{rules}
use Rattle.visit.proofs.Marking.{blank-struck, path-start, path-more, path-all}
use Rattle.visit.specs.Visit.{above}
use Rattle.visit.proofs.Paths.{path-length, path-at}
use Rattle.visit.proofs.strike_path.Goals as goal
use Rattle.visit.proofs.strike_path.Goals.{Start}

long : (c : Start) → length c.args.p.blocks ≡ 8
long c = search rules

pub loop-b-init : goal.loop-b-init
loop-b-init c =
    let a = c.args in
    path-start a.t.now a.at a.n a.p (long (goal.at.loop-b-init c).Start) c.requires.1.few a.m.now

pub strike_node-requires : goal.strike_node-requires
strike_node-requires c =
    let l = c.loop-b in
    let a = c.args in
    let p = c.requires in
    let some = path-length a.p (long (goal.at.strike_node-requires c).Start) p.1.few in (
      p.0,
      p.1.valid (get_or (above a.p) l.b-index 0) (path-at a.p (long (goal.at.strike_node-requires c).Start) p.1.few l.b-index (omega (arith, some))),
      omega (arith, p.2, l.invariant.sized),
      blank-struck a.lo a.hi l.invariant p.3,
    )

pub loop-b-preserved : goal.loop-b-preserved
loop-b-preserved c =
    let l = c.loop-b in
    let a = c.args in
    let some = path-length a.p (long (goal.at.loop-b-preserved c).Start) c.requires.1.few in
    path-more a.t.now a.at a.n a.p (long (goal.at.loop-b-preserved c).Start) c.requires.1.few l.b-index (omega (arith, some)) l.invariant c.strike_node.ensures

pub shape_of-m : goal.shape_of-m
shape_of-m c = c.loop-b.invariant.sized

pub returns : goal.returns
returns c =
    let l = c.loop-b in
    let a = c.args in
    let some = path-length a.p (long (goal.at.returns c).Start) c.requires.1.few in
    path-all a.t.now a.at a.n a.p (long (goal.at.returns c).Start) c.requires.1.few l.b-index (omega (arith, some)) l.invariant
