-- `message::changes_ok` meets its contract; the loop's invariant is `ThereInv`.
use native.Mathlib.Omega.{arith}
use mathlib.Core.Path.{sym, ◌∙◌}
use Rattle.message.proofs.Judging.{there-start, there-stop, there-inside, there-next, there-end}
use Rattle.message.proofs.changes_ok.Goals as goal

pub loop-i-init : goal.loop-i-init
loop-i-init c =
    let a = c.args in
    there-start a.fill a.n a.s.now a.at c.requires.1

pub size_at-requires : goal.size_at-requires
size_at-requires c = (c.requires.0, c.loop-i.invariant.inside)

pub returns-in-None : goal.returns-in-None
returns-in-None c =
    let l = c.loop-i in
    let a = c.args in
    there-stop a.fill a.n a.s.now a.at l.next l.i l.invariant c.loop-i-test.true (sym c.in-None.is ∙ c.size_at.ensures)

pub overflow_add-next : goal.overflow_add-next
overflow_add-next c =
    let l = c.loop-i in
    let a = c.args in
    omega (arith, there-inside a.fill a.n a.s.now a.at l.next l.i l.invariant c.loop-i-test.true (sym c.in-Some.is ∙ c.size_at.ensures))

pub loop-i-preserved : goal.loop-i-preserved
loop-i-preserved c =
    let l = c.loop-i in
    let a = c.args in
    there-next a.fill a.n a.s.now a.at l.next l.i l.invariant c.loop-i-test.true (sym c.in-Some.is ∙ c.size_at.ensures)

pub returns : goal.returns
returns c =
    let l = c.loop-i in
    let a = c.args in
    there-end a.fill a.n a.s.now a.at l.next l.i l.invariant c.loop-i-test.false
