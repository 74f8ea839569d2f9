-- `message::recode` meets its contract. The loop's invariant: the changes so far with the others behind them make the whole.
use mathlib.Core.Path.{ap, ◌∙◌}
use native.Mathlib.Omega.{arith}
use Rattle.octets.specs.Bytes.{put_bytes}
use Rattle.message.specs.Changes.{change_bytes}
use Rattle.message.proofs.Writing.{recoding-none, recoding-more, recoding-all, turn-given}
use Rattle.message.proofs.recode.Goals as goal

pub loop-i-init : goal.loop-i-init
loop-i-init c =
    let a = c.args in
    recoding-none a.fill a.n a.s.now a.at a.other a.out.now a.to c.requires

pub change_at-requires : goal.change_at-requires
change_at-requires c =
    let a = c.args in
    let turn = turn-given a.fill a.n a.s.now a.at a.other a.out.now a.to c.loop-i.invariant c.loop-i-test.true in
    turn.there

pub write_change-requires : goal.write_change-requires
write_change-requires c =
    let a = c.args in
    let turn = turn-given a.fill a.n a.s.now a.at a.other a.out.now a.to c.loop-i.invariant c.loop-i-test.true in
    (turn.others, rw c.change_at.ensures turn.writes)

pub size_of-next-requires : goal.size_of-next-requires
size_of-next-requires c =
    let a = c.args in
    let turn = turn-given a.fill a.n a.s.now a.at a.other a.out.now a.to c.loop-i.invariant c.loop-i-test.true in
    (turn.others, turn.before)

pub overflow_add-next : goal.overflow_add-next
overflow_add-next c =
    let a = c.args in
    let turn = turn-given a.fill a.n a.s.now a.at a.other a.out.now a.to c.loop-i.invariant c.loop-i-test.true in
    omega (arith, turn.writes, c.loop-i.invariant.long, c.size_of-next.ensures)

pub size_of-from-requires : goal.size_of-from-requires
size_of-from-requires c =
    let a = c.args in
    let turn = turn-given a.fill a.n a.s.now a.at a.other a.out.now a.to c.loop-i.invariant c.loop-i-test.true in
    (turn.fills, turn.before)

pub overflow_add-from : goal.overflow_add-from
overflow_add-from c =
    let a = c.args in
    let turn = turn-given a.fill a.n a.s.now a.at a.other a.out.now a.to c.loop-i.invariant c.loop-i-test.true in
    omega (arith, turn.reads, c.size_of-from.ensures)

pub loop-i-preserved : goal.loop-i-preserved
loop-i-preserved c =
    let a = c.args in
    rw (c.size_of-from.ensures, c.size_of-next.ensures)
    (recoding-more a.fill a.n a.s.now a.at a.other a.out.now a.to c.loop-i.invariant c.loop-i-test.true
    (c.write_change.ensures ∙ ap (λ x. put_bytes c.loop-i.out c.loop-i.next (change_bytes a.other x)) c.change_at.ensures))

pub shape_of-out : goal.shape_of-out
shape_of-out c = c.loop-i.invariant.long

pub returns : goal.returns
returns c =
    let a = c.args in
    recoding-all a.fill a.n a.s.now a.at a.other a.out.now a.to c.loop-i.invariant c.loop-i-test.false
