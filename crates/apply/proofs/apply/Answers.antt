-- `apply::apply` meets its contract, by that of `carry::carry`; then the work area is cleared, but not after 4.
use native.Mathlib.Omega.{arith}
use Prim.Native.Nat.{◌<◌}
use mathlib.Core.Path.{refl, sym, ◌∙◌}
use lib.ListN.{length}
use borrow.Author.Tests.{eqb-true, eqb-false}
use Rattle.std.proofs.lemmas.Result.{err_from_is_err_and}
use Rattle.block.proofs.Answers.{refused-numbered}
use Rattle.revise.specs.Revising.{Lent}
use Rattle.apply.proofs.Applied.{apply-short, apply-lent, apply-refused, apply-turned, apply-ends}
use Rattle.apply.proofs.apply.Goals as goal

pub returns-then-not-sized : goal.returns-then-not-sized
returns-then-not-sized c =
    apply-short _ _ _ _ (sym c.sized.ensures ∙ c.if-not-sized.true) refl

pub returns-then-scratch-bytes : goal.returns-then-scratch-bytes
returns-then-scratch-bytes c =
    let args = c.args in
    let short : length args.scratch.now < length args.table.now = omega (arith, c.if-scratch-bytes.true) in
    apply-lent _ _ _ _ (sym c.sized.ensures ∙ c.if-not-sized.false) short refl

pub returns-in_err-judge : goal.returns-in_err-judge
returns-in_err-judge c =
    let args = c.args in
    let lent : Lent args.table.now args.scratch.now = record { sized = sym c.sized.ensures ∙ c.if-not-sized.false; room = omega (arith, c.if-scratch-bytes.false) } in
    let p = err_from_is_err_and c.from_residual.result c.from_residual.ensures.1 in
    rw (p.1, p.2) (apply-refused _ _ _ _ lent c.in_err-judge.ensures (refused-numbered c.in_err-judge.field-0.0))

pub carry-done-requires : goal.carry-done-requires
carry-done-requires c =
    let args = c.args in
    let lent : Lent args.table.now args.scratch.now = record { sized = sym c.sized.ensures ∙ c.if-not-sized.false; room = omega (arith, c.if-scratch-bytes.false) } in
    (lent, sym c.in_ok-judge.ensures)

pub returns-then-is_full : goal.returns-then-is_full
returns-then-is_full c =
    let args = c.args in
    let lent : Lent args.table.now args.scratch.now = record { sized = sym c.sized.ensures ∙ c.if-not-sized.false; room = omega (arith, c.if-scratch-bytes.false) } in
    apply-turned _ _ _ _ lent (sym c.in_ok-judge.ensures) c.carry-done.ensures (eqb-true _ 4 (sym c.is_full.ensures ∙ c.if-is_full.true))

pub returns : goal.returns
returns c =
    let args = c.args in
    let lent : Lent args.table.now args.scratch.now = record { sized = sym c.sized.ensures ∙ c.if-not-sized.false; room = omega (arith, c.if-scratch-bytes.false) } in
    apply-ends _ _ _ _ lent (sym c.in_ok-judge.ensures) c.carry-done.ensures (eqb-false _ 4 (sym c.is_full.ensures ∙ c.if-is_full.false)) c.zero.ensures
