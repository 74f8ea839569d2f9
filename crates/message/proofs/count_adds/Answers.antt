-- `message::count_adds` meets its contract; the loop's invariant is `AddsInv`.
use native.Mathlib.Omega.{arith}
use lib.Dec.{eqb}
use lib.ListN.{get_or}
use Rattle.message.proofs.Cursor.{walk_here, walk_inside}
use Rattle.message.proofs.Judging.{bit-small, adds-start, adds-next, adds-end}
use Rattle.message.proofs.count_adds.Goals as goal

pub loop-i-init : goal.loop-i-init
loop-i-init c =
    let a = c.args in
    adds-start a.fill a.n a.s.now a.at c.requires

pub bounds-s-next : goal.bounds-s-next
bounds-s-next c =
    let l = c.loop-i in
    let a = c.args in
    omega (arith, walk_here a.fill a.n a.s.now l.next l.i l.invariant.walk c.loop-i-test.true)

pub overflow_add-adds : goal.overflow_add-adds
overflow_add-adds c =
    let l = c.loop-i in
    let a = c.args in
    omega (arith, l.invariant.few, bit-small (eqb (get_or a.s.now l.next 0) 1))

pub size_of-next-requires : goal.size_of-next-requires
size_of-next-requires c =
    let l = c.loop-i in
    let a = c.args in
    (c.requires.fills, omega (arith, walk_here a.fill a.n a.s.now l.next l.i l.invariant.walk c.loop-i-test.true))

pub overflow_add-next : goal.overflow_add-next
overflow_add-next c =
    let l = c.loop-i in
    let a = c.args in
    omega (arith, walk_inside a.fill a.n a.s.now l.next l.i l.invariant.walk c.loop-i-test.true c.size_of-next.ensures)

pub loop-i-preserved : goal.loop-i-preserved
loop-i-preserved c =
    let l = c.loop-i in
    let a = c.args in
    adds-next a.fill a.n a.s.now a.at l.adds l.next l.i l.invariant c.loop-i-test.true c.size_of-next.ensures

pub returns : goal.returns
returns c =
    let l = c.loop-i in
    let a = c.args in
    adds-end a.fill a.n a.s.now a.at l.adds l.next l.i l.invariant c.loop-i-test.false
