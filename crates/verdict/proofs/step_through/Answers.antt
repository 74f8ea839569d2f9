-- `verdict::step_through` meets its contract: the loop keeps `Turn`.
use Prim.Native.Nat.{ℕ, ◌+◌}
use mathlib.Core.Logic.{inl}
use mathlib.Core.Path.{refl, ap, ◌∙◌}
use Rattle.message.proofs.Cursor.{accepted-message}
use Rattle.rows.specs.Rows.{row_of}
use Rattle.verdict.proofs.Turns.{turn-start, turn-next, turn-change, turn-fits, turn-stops, turn-goes, turn-ends}
use native.Mathlib.Omega.{arith}
use Rattle.verdict.proofs.step_through.Goals as goal

pub count_of-n-requires : goal.count_of-n-requires
count_of-n-requires c = (accepted-message c.args.m.now c.requires.0.message).0

pub loop-i-init : goal.loop-i-init
loop-i-init c =
    turn-start c.args.table.now c.args.m.now c.args.rows.now c.requires.0.message c.requires.2 c.count_of-n.ensures.0

pub change_at-requires : goal.change_at-requires
change_at-requires c = turn-change c.loop-i.invariant c.loop-i-test.true

pub next_of-requires : goal.next_of-requires
next_of-requires c =
    (c.requires.0.sized, c.loop-i.invariant.rows)

pub refused_at-requires : goal.refused_at-requires
refused_at-requires c =
    omega (arith, c.count_of-n.ensures.1, c.loop-i-test.true)

pub returns-in-Err : goal.returns-in-Err
returns-in-Err c =
    turn-stops c.loop-i.invariant c.loop-i-test.true c.requires.1 (c.row_of-x.ensures.0 ∙ ap row_of c.change_at.ensures) c.in-Err.ensures c.refused_at.ensures

pub put_row-r-requires : goal.put_row-r-requires
put_row-r-requires c =
    let v = c.loop-i.invariant in (
      v.rows,
      omega (arith, v.count, v.sized, c.count_of-n.ensures.1, c.loop-i-test.true, c.requires.0.room),
      turn-fits v c.loop-i-test.true c.row_of-x.result (c.row_of-x.ensures.0 ∙ ap row_of c.change_at.ensures) c.row_of-x.ensures.1,
    )

pub size_of-at-requires : goal.size_of-at-requires
size_of-at-requires c =
    (inl refl, omega (arith, (turn-next c.loop-i.invariant c.loop-i-test.true).nine))

pub overflow_add-at : goal.overflow_add-at
overflow_add-at c =
    omega (arith, (turn-next c.loop-i.invariant c.loop-i-test.true).inside, c.size_of-at.ensures)

pub loop-i-preserved : goal.loop-i-preserved
loop-i-preserved c =
    turn-goes c.loop-i.invariant c.loop-i-test.true c.requires.1 (c.row_of-x.ensures.0 ∙ ap row_of c.change_at.ensures) c.in-Ok.ensures c.put_row-r.ensures
    (ap (λ (j : ℕ). c.loop-i.at + j) c.size_of-at.ensures) (omega arith)

pub shape_of-rows : goal.shape_of-rows
shape_of-rows c = c.loop-i.invariant.sized

pub returns : goal.returns
returns c = turn-ends c.loop-i.invariant c.loop-i-test.false
