-- `commands::tell` meets its contract: nothing, or the line of the refusal.
use mathlib.Core.Path.{refl, ap, ◌∙◌}
use native.Mathlib.Omega.{arith}
use Rattle.text.proofs.Written.{wrote-within, wrote_none}
use Rattle.text.specs.Text.{refusal_line}
use Rattle.block.specs.declared.Answer.{Answer}
use Rattle.block.specs.Answers.{answer, refused}
use Rattle.block.proofs.Answers.{refused-numbered}
use Rattle.commands.specs.Obeyed.{change_text}
use Rattle.commands.proofs.Telling.{says_nothing, says-refusal}
use Rattle.commands.proofs.tell.Goals as goal

pub returns-in-Ok : goal.returns-in-Ok
returns-in-Ok c =
    rw c.in-Ok.is (wrote-within 13 (change_text (answer 0 0)) (omega arith) (says_nothing (answer 0 0) refl) (wrote_none c.args.out.now 13))

pub returns-in-Err : goal.returns-in-Err
returns-in-Err c =
    let a = refused c.in-Err.r in
    rw c.in-Err.is
    (wrote-within 13 (change_text a) (omega arith)
    (ap (λ (x : Answer). refusal_line x.number) c.from.ensures ∙ says-refusal a (refused-numbered c.in-Err.r))
    c.write_refusal_line.ensures)
