-- `message::first_outside` meets its contract; the loop's invariant is `OutsideInv`.
use mathlib.Core.Path.{sym, ◌∙◌}
use Prim.Native.Nat.{◌+◌}
use mir.ValLaws.{to_z-of_z}
use mir.Syntax.{w32}
use native.Mathlib.Omega.{arith}
use borrow.Author.Rules.{rules}
use Rattle.message.proofs.Cursor.{walk_here, walk_inside}
use Rattle.message.proofs.Judging.{place-tested, outside-start, outside-stop, outside-next, outside-end}
use Rattle.message.proofs.first_outside.Goals as goal

pub loop-i-init : goal.loop-i-init
loop-i-init c =
    let a = c.args in
    outside-start a.fill a.n a.s.now a.at c.requires

pub overflow_add-next : goal.overflow_add-next
overflow_add-next c =
    let l = c.loop-i in
    let a = c.args in
    omega (arith, walk_here a.fill a.n a.s.now l.next l.i l.invariant.walk c.loop-i-test.true)

pub raw_key-key-requires : goal.raw_key-key-requires
raw_key-key-requires c =
    let l = c.loop-i in
    let a = c.args in
    omega (arith, walk_here a.fill a.n a.s.now l.next l.i l.invariant.walk c.loop-i-test.true)

pub returns-then-not-in_limits : goal.returns-then-not-in_limits
returns-then-not-in_limits c =
    let l = c.loop-i in
    let a = c.args in
    let b = place-tested a.s.now (l.next + 1) _ _ c.raw_key-key.ensures c.place_of.ensures (to_z-of_z w32 _ (search rules)) c.in_limits.ensures in
    outside-stop a.fill a.n a.s.now a.at l.next l.i l.invariant c.loop-i-test.true (sym c.if-not-in_limits.true ∙ b)

pub size_of-next-requires : goal.size_of-next-requires
size_of-next-requires c =
    let l = c.loop-i in
    let a = c.args in
    (c.requires.fills, omega (arith, walk_here a.fill a.n a.s.now l.next l.i l.invariant.walk c.loop-i-test.true))

pub overflow_add-next-in-loop-i : goal.overflow_add-next-in-loop-i
overflow_add-next-in-loop-i c =
    let l = c.loop-i in
    let a = c.args in
    omega (arith, walk_inside a.fill a.n a.s.now l.next l.i l.invariant.walk c.loop-i-test.true c.size_of-next.ensures)

pub loop-i-preserved : goal.loop-i-preserved
loop-i-preserved c =
    let l = c.loop-i in
    let a = c.args in
    let b = place-tested a.s.now (l.next + 1) _ _ c.raw_key-key.ensures c.place_of.ensures (to_z-of_z w32 _ (search rules)) c.in_limits.ensures in
    outside-next a.fill a.n a.s.now a.at l.next l.i l.invariant c.loop-i-test.true (sym c.if-not-in_limits.false ∙ b) c.size_of-next.ensures

pub returns : goal.returns
returns c =
    let l = c.loop-i in
    let a = c.args in
    outside-end a.fill a.n a.s.now a.at l.next l.i l.invariant c.loop-i-test.false
