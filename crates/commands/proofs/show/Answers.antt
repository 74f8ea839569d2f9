-- `commands::show` meets its contract: the spots, or the line of the refusal.
use mathlib.Core.Path.{refl, ap, subst, ◌∙◌}
use native.Mathlib.Omega.{arith}
use lib.ListN.{length}
use Rattle.text.proofs.Written.{wrote-within}
use Rattle.text.specs.Text.{refusal_line}
use Rattle.block.specs.declared.Answer.{Answer}
use Rattle.block.specs.Answers.{answer, refused, answer_of}
use Rattle.block.proofs.Answers.{refused-numbered}
use Rattle.commands.specs.Obeyed.{Shown, spots_text}
use Rattle.table.specs.Queries.{GivenInside}
use Rattle.commands.proofs.Telling.{lists-spots, lists-none}
use Rattle.commands.proofs.show.Goals as goal

pub write_spots-requires : goal.write_spots-requires
write_spots-requires c =
    let s = c.args in
    let e = ap answer_of c.in-Ok.is in
    let shown = subst (λ (a : Answer). Shown a (length s.out.now)) e c.requires.0 in
    let inside = subst (λ (a : Answer). GivenInside a s.output.now) e c.requires.1 in
    (omega arith, (inside refl).0, (inside refl).1, shown.room refl)

pub returns-in-Ok : goal.returns-in-Ok
returns-in-Ok c =
    let s = c.args in
    let e = ap answer_of c.in-Ok.is in
    let a = answer 0 c.in-Ok.spots in
    let shown = subst (λ (x : Answer). Shown x (length s.out.now)) e c.requires.0 in
    rw c.in-Ok.is (wrote-within (length s.out.now) (spots_text a s.output.now) (shown.room refl) (lists-spots a s.output.now refl) c.write_spots.ensures)

pub returns-in-Err : goal.returns-in-Err
returns-in-Err c =
    let s = c.args in
    let a = refused c.in-Err.r in
    rw c.in-Err.is
    (wrote-within (length s.out.now) (spots_text a s.output.now) c.requires.0.refusal
    (ap (λ (x : Answer). refusal_line x.number) c.from.ensures ∙ lists-none a s.output.now (refused-numbered c.in-Err.r))
    c.write_refusal_line.ensures)
