-- `text::write_command` meets its contract. Each arm is given the command it matched, and that its fields fit.
use mathlib.Core.Path.{◌≡◌, refl, sym, ap, ◌∙◌}
use native.Mathlib.Omega.{arith}
use mir.Syntax.{w32}
use mir.Val.{to_z, of_z}
use borrow.Author.Rules.{rules}
use Rattle.text.specs.Commands.{command_text}
use Rattle.text.specs.Text.{decimal, signed}
use Rattle.text.proofs.Printed.{third-text, joined_as}
use Rattle.text.proofs.Written.{wrote_then, wrote-within}
use Rattle.text.proofs.write_command.Goals as goal

pub returns-in-Add : goal.returns-in-Add
returns-in-Add c =
    let g = c.in-Add in
    let x = g.place in
    let y = g.rank in
    let n = g.track in
    let ex : to_z w32 (of_z w32 x) ≡ x = search rules in
    let ey : to_z w32 (of_z w32 y) ≡ y = search rules in
    wrote-within 37 (command_text c.args.c) (omega arith)
    (third-text 43 x y (decimal n) ex ey refl ∙ sym (ap command_text g.is))
    (wrote_then c.write_two-p.ensures c.more_number.ensures)

pub returns-in-Withdraw : goal.returns-in-Withdraw
returns-in-Withdraw c =
    let g = c.in-Withdraw in
    let x = g.place in
    let y = g.rank in
    let ex : to_z w32 (of_z w32 x) ≡ x = search rules in
    let ey : to_z w32 (of_z w32 y) ≡ y = search rules in
    wrote-within 37 (command_text c.args.c) (omega arith)
    (joined_as 45 x y ex ey ∙ sym (ap command_text g.is)) c.write_two.ensures

pub returns-in-Report : goal.returns-in-Report
returns-in-Report c =
    let g = c.in-Report in
    let x = g.x1 in
    let y = g.x2 in
    let z = g.y in
    let ex : to_z w32 (of_z w32 x) ≡ x = search rules in
    let ey : to_z w32 (of_z w32 y) ≡ y = search rules in
    let ez : to_z w32 (of_z w32 z) ≡ z = search rules in
    wrote-within 37 (command_text c.args.c) (omega arith)
    (third-text 63 x y (signed z) ex ey (ap signed ez) ∙ sym (ap command_text g.is))
    (wrote_then c.write_two-p-in-Report.ensures c.more_signed.ensures)

pub returns-in-Top : goal.returns-in-Top
returns-in-Top c =
    let g = c.in-Top in
    let x = g.x1 in
    let y = g.x2 in
    let n = g.k in
    let ex : to_z w32 (of_z w32 x) ≡ x = search rules in
    let ey : to_z w32 (of_z w32 y) ≡ y = search rules in
    wrote-within 37 (command_text c.args.c) (omega arith)
    (third-text 94 x y (decimal n) ex ey refl ∙ sym (ap command_text g.is))
    (wrote_then c.write_two-p-in-Top.ensures c.more_number-in-Top.ensures)
