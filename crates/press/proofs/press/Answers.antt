-- `press::press` meets its contract: a refusal leaves all, else the tour is written.
use mathlib.Core.Path.{refl, sym, ap}
use lib.ListN.{length}
use Rattle.std.proofs.lemmas.Result.{err_from_is_err_and}
use Rattle.block.specs.declared.Answer.{Answer}
use Rattle.block.proofs.Answers.{refused-numbered}
use Rattle.press.proofs.Accepting.{accepted, left-alone, tour-pressed}
use Rattle.press.proofs.press.Goals as goal

pub returns-in_err-judge : goal.returns-in_err-judge
returns-in_err-judge c =
    let a = c.args in
    let p = err_from_is_err_and c.from_residual.result c.from_residual.ensures.1 in
    rw (p.1, p.2) (left-alone a.spots.now a.tour.now c.in_err-judge.ensures (refused-numbered c.in_err-judge.field-0.0))

pub write_tour-requires : goal.write_tour-requires
write_tour-requires c =
    let a = c.args in
    let h = accepted (length a.tour.now) a.spots.now (sym (ap (λ (x : Answer). x.number) c.in_ok-judge.ensures)) in
    (h.1, h.0)

pub returns : goal.returns
returns c =
    let a = c.args in
    tour-pressed a.spots.now a.tour.now c.in_ok-judge.ensures refl c.write_tour.ensures
