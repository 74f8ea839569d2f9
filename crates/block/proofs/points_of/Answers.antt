-- `block::points_of` meets its contract: the loop's invariant is `PointsInv`: what is done and what is left make up the whole.
use mathlib.Core.Path.{refl}
use native.Mathlib.Omega.{arith}
use Rattle.spot.specs.Keys.{end_key}
use Rattle.block.proofs.Passes.{points_none, points-start, points-next, points-in, points-out}
use Rattle.block.proofs.points_of.Goals as goal

pub returns-then-n-eq0 : goal.returns-then-n-eq0
returns-then-n-eq0 c = let a = c.args in points_none a.s.now a.n a.at a.floor c.if-n-eq0.true refl refl

pub loop-i-init : goal.loop-i-init
loop-i-init c =
    let a = c.args in
    (omega arith, omega arith, points-start a.s.now a.n a.at a.floor (omega arith) c.raw_key-prev.ensures c.rank_key-low.ensures)

pub loop-i-preserved : goal.loop-i-preserved
loop-i-preserved c =
    let a = c.args in
    let l = c.loop-i in (
      omega arith,
      omega arith,
      points-next a.s.now a.n a.at a.floor l.ok l.prev l.low l.high l.i l.invariant.2 (omega arith) c.raw_key-k.ensures c.rank_key-r.ensures c.min-low.ensures c.max-high.ensures,
    )

pub returns-then-ok-prev : goal.returns-then-ok-prev
unfolding end_key
returns-then-ok-prev c =
    let a = c.args in
    let l = c.loop-i in
    points-in a.s.now a.n a.at a.floor l.ok l.prev l.low l.high l.i l.invariant.2 (omega arith) c.if-ok-prev.true refl refl

pub returns : goal.returns
unfolding end_key
returns c =
    let a = c.args in
    let l = c.loop-i in
    points-out a.s.now a.n a.at a.floor l.ok l.prev l.low l.high l.i l.invariant.2 (omega arith) c.if-ok-prev.false
