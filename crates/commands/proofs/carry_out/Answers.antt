-- `commands::carry_out` meets its contract, by that of the call which the command names.
use mathlib.Core.Path.{◌≡◌}
use mir.Syntax.{w32}
use mir.Val.{to_z, of_z}
use borrow.Author.Rules.{rules}
use Rattle.block.specs.Answers.{told, answer_of}
use Rattle.table.proofs.Given.{report-inside, top-inside}
use Rattle.commands.proofs.Telling.{inside-shown, told_add, told-withdraw, told-report, told-top}
use Rattle.commands.proofs.carry_out.Goals as goal

pub returns-in-Add : goal.returns-in-Add
returns-in-Add c =
    let add = c.add-done in
    let g = c.in-Add in
    let x = g.place in
    let y = g.rank in
    let ex : to_z w32 (of_z w32 x) ≡ x = search rules in
    let ey : to_z w32 (of_z w32 y) ≡ y = search rules in
    told_add _ _ _ _ _ _ _ _ (told add.result) x y _ _ _ _ _ g.is ex ey c.requires.refusal add.ensures c.tell.ensures

pub returns-in-Withdraw : goal.returns-in-Withdraw
returns-in-Withdraw c =
    let withdraw = c.withdraw-done in
    let g = c.in-Withdraw in
    let x = g.place in
    let y = g.rank in
    let ex : to_z w32 (of_z w32 x) ≡ x = search rules in
    let ey : to_z w32 (of_z w32 y) ≡ y = search rules in
    told-withdraw _ _ _ _ _ _ _ _ (told withdraw.result) x y _ _ _ _ g.is ex ey c.requires.refusal withdraw.ensures c.tell-in-Withdraw.ensures

pub show-requires : goal.show-requires
show-requires c =
    let inside = report-inside _ _ _ _ _ _ (answer_of c.report-done.result) _ _ c.report-done.ensures in
    (inside-shown _ _ _ (answer_of c.report-done.result) c.requires c.report-done.auto.output inside, inside)

pub returns-in-Report : goal.returns-in-Report
returns-in-Report c =
    let report = c.report-done in
    let g = c.in-Report in
    let x = g.x1 in
    let y = g.x2 in
    let z = g.y in
    let ex : to_z w32 (of_z w32 x) ≡ x = search rules in
    let ey : to_z w32 (of_z w32 y) ≡ y = search rules in
    let ez : to_z w32 (of_z w32 z) ≡ z = search rules in
    told-report _ _ _ _ _ _ _ _ (answer_of report.result) x y z _ _ _ _ _ g.is ex ey ez report.ensures c.show.ensures

pub show-requires-in-Top : goal.show-requires-in-Top
show-requires-in-Top c =
    let inside = top-inside _ _ _ _ _ _ (answer_of c.top-done.result) _ _ c.top-done.ensures in
    (inside-shown _ _ _ (answer_of c.top-done.result) c.requires c.top-done.auto.output inside, inside)

pub returns-in-Top : goal.returns-in-Top
returns-in-Top c =
    let top = c.top-done in
    let g = c.in-Top in
    let x = g.x1 in
    let y = g.x2 in
    let ex : to_z w32 (of_z w32 x) ≡ x = search rules in
    let ey : to_z w32 (of_z w32 y) ≡ y = search rules in
    told-top _ _ _ _ _ _ _ _ (answer_of top.result) x y _ _ _ _ _ g.is ex ey top.ensures c.show-in-Top.ensures
