-- `table::report` meets its contract: counted, then written; the map of the blocks seen is handed out.
use mathlib.Core.Path.{◌≡◌, refl, sym, ◌∙◌}
use mathlib.Core.Bool.{true}
use lib.ListN.{length}
use mir.Syntax.{w32}
use mir.ValLaws.{to_z-of_z}
use borrow.Author.Tests.{not-true, not-false, ne_eqb}
use native.Mathlib.Omega.{arith}
use Rattle.query.proofs.Whole.{counted-as}
use Rattle.report.proofs.Reporting.{query-same}
use Rattle.table.specs.Calls.{report}
use Rattle.table.specs.Answers.{with_output}
use Rattle.table.proofs.Answering.{number_short, number-lent, walk-early, told-whole, report-broken, report-many, report-given, map_is}
use Rattle.table.proofs.report.Goals as goal

pub returns-then-not-sized : goal.returns-then-not-sized
returns-then-not-sized c =
    let args = c.args in
    walk-early _ _ _ 0 _
    (number_short (with_output args.table.now args.output.now args.read_map.now) (report args.x1 args.x2 args.y)
    (sym c.sized.ensures ∙ c.if-not-sized.true))
    refl

pub returns-then-read_map-ne512 : goal.returns-then-read_map-ne512
returns-then-read_map-ne512 c =
    let args = c.args in
    walk-early _ _ _ 1 _
    (number-lent (with_output args.table.now args.output.now args.read_map.now) (report args.x1 args.x2 args.y)
    (sym c.sized.ensures ∙ c.if-not-sized.false)
    (ne_eqb (length args.read_map.now) 512 (λ h. omega arith)))
    refl

pub size-requires : goal.size-requires
size-requires c =
    (sym c.sized.ensures ∙ c.if-not-sized.false, refl)

pub returns-in_default : goal.returns-in_default
returns-in_default c =
    let fits = c.ranges in
    report-broken _ _ _ _ _ _ (sym c.sized.ensures ∙ c.if-not-sized.false) (omega (arith, c.if-read_map-ne512.false)) _
    (counted-as (query-same _ _ _ _ _ _ _ (to_z-of_z w32 _ fits.x1) (to_z-of_z w32 _ fits.x2) (to_z-of_z w32 _ fits.y) refl) c.in_default.ensures.0) refl

pub overflow_cast-found : goal.overflow_cast-found
overflow_cast-found c = omega (arith, c.in-Some.ensures.0.few)

pub returns-then-output-all : goal.returns-then-output-all
returns-then-output-all c =
    let fits = c.ranges in
    report-many _ _ _ _ _ _ (sym c.sized.ensures ∙ c.if-not-sized.false) (omega (arith, c.if-read_map-ne512.false)) _
    (counted-as (query-same _ _ _ _ _ _ _ (to_z-of_z w32 _ fits.x1) (to_z-of_z w32 _ fits.x2) (to_z-of_z w32 _ fits.y) refl) c.in-Some.ensures.0) (omega (arith, c.if-output-all.true)) refl

pub give-requires : goal.give-requires
give-requires c =
    let counted = c.in-Some.ensures.0 in
    record {
      walk =
          record {
            sized = sym c.sized.ensures ∙ c.if-not-sized.false;
            whole = told-whole _ _ _ counted.ok refl;
            room = omega (arith, c.if-output-all.false, counted.spots);
          };
      count = counted.spots;
      held = λ h. c.in-Some.ensures.1.spots (omega (arith, h, c.in-Some.ensures.1.sized));
    }

pub returns : goal.returns
returns c =
    let fits = c.ranges in
    let mapped : length c.args.read_map.now ≡ 512 = omega (arith, c.if-read_map-ne512.false) in
    let counted = c.in-Some.ensures.0 in
    report-given _ _ _ _ _ _ (sym c.sized.ensures ∙ c.if-not-sized.false) mapped _
    (counted-as (query-same _ _ _ _ _ _ _ (to_z-of_z w32 _ fits.x1) (to_z-of_z w32 _ fits.x2) (to_z-of_z w32 _ fits.y) refl) counted) _ _ (omega (arith, c.if-output-all.false)) refl
    (rw (to_z-of_z w32 _ fits.x1, to_z-of_z w32 _ fits.x2, to_z-of_z w32 _ fits.y) at c.give.ensures)
    (map_is _ c.args.read_map.now _ counted.sized mapped c.copy.ensures)
