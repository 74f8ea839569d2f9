-- `script::call` meets its contract, by that of the call which the number stands for.
use mathlib.Core.Path.{◌≡◌, ap, ◌∙◌}
use mir.Syntax.{w32}
use mir.Val.{to_z, of_z}
use borrow.Author.Rules.{rules}
use Rattle.script.specs.Run.{plainly}
use Rattle.script.proofs.Cases.{Row, made-report, made-top, made-within, made-many, made-apply, made-alone}
use Rattle.script.proofs.call.Goals as goal
use Rattle.script.proofs.call.Goals.{After-read32-c}

row : (c : After-read32-c)
    → let a = c.args in
    Row a.script.now a.at c.read32-op.result c.read_i32-a.result c.read_i32-b.result c.read32-c.result
row c =
    record {
      bytes = λ i. (c.shared_slice_known-1.given i).fits;
      number = c.read32-op.ensures.0;
      first = c.read_i32-a.ensures;
      second = c.read_i32-b.ensures;
      third = c.read32-c.ensures.0;
    }

pub returns-then-op-eq3 : goal.returns-then-op-eq3
returns-then-op-eq3 c =
    let z = c.read_i32-y in
    made-report (row (goal.at.returns-then-op-eq3 c).After-read32-c) _ _ _ _ _ _ _ _ (c.plain.ensures ∙ ap plainly c.answer_of.ensures) z.result _ _ c.if-op-eq3.true z.ensures c.report.ensures

pub returns-then-op-eq4 : goal.returns-then-op-eq4
returns-then-op-eq4 c =
    made-top (row (goal.at.returns-then-op-eq4 c).After-read32-c) _ _ _ _ _ _ _ _ (c.plain-then-op-eq4.ensures ∙ ap plainly c.answer_of-then-op-eq4.ensures) _ _ c.if-op-eq4.true c.top.ensures

pub returns-then-op-eq8 : goal.returns-then-op-eq8
returns-then-op-eq8 c =
    let n = c.read32-n in
    let from = c.read32-from in
    made-many (row (goal.at.returns-then-op-eq8 c).After-read32-c) c.args.handed.now _ _ _ _ _ _ _ (c.plain-then-op-eq8.ensures ∙ ap plainly c.answer_of-then-op-eq8.ensures) from.result n.result c.ranges_from-batch.result _ _ _
    (λ i. (c.shared_slice_known-2-1.given i).fits) c.if-op-eq8.true from.ensures.0 n.ensures.0 c.ranges_from-batch.ensures c.report_batch.ensures

pub returns-then-op-eq9 : goal.returns-then-op-eq9
returns-then-op-eq9 c =
    let ceiling = c.say-said.result.ceiling in
    let same : to_z w32 (of_z w32 ceiling) ≡ ceiling = search rules in
    rw (c.answer_of-then-op-eq9.ensures, same)
    (made-within (row (goal.at.returns-then-op-eq9 c).After-read32-c) _ _ _ _ _ _ _ c.read32-d.result _ _ c.if-op-eq9.true c.read32-d.ensures.0 c.say-said.ensures)

pub returns-then-op-gt9 : goal.returns-then-op-gt9
returns-then-op-gt9 c =
    made-apply (row (goal.at.returns-then-op-gt9 c).After-read32-c) c.args.handed.now _ _ _ _ _ _ _ c.plain-then-op-gt9.ensures _ _ (λ i. (c.shared_slice_known-2-1.given i).fits) c.if-op-gt9.true c.apply_at.ensures

pub returns : goal.returns
returns c = made-alone _ _ _ _ _ _ _ _ _ _ c.plain-2.ensures _ _ c.call_alone.ensures
