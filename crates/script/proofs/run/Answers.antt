-- `script::run` meets its contract: refused before anything is written, or all calls made on a formatted table.
use mathlib.Core.Path.{sym, ◌∙◌}
use native.Mathlib.Omega.{arith}
use Rattle.script.proofs.Whole.{parts-fit, says-unsized, says-short, says-run}
use Rattle.script.proofs.run.Goals as goal

pub returns-then-not-sized : goal.returns-then-not-sized
returns-then-not-sized c = says-unsized _ _ _ _ _ _ _ (sym c.sized.ensures ∙ c.if-not-sized.true)

pub returns-then-part-lt12 : goal.returns-then-part-lt12
returns-then-part-lt12 c =
    let part = c.part_of-part in
    says-short _ _ _ _ _ _ _ part.result part.ensures c.if-part-lt12.true (sym c.sized.ensures ∙ c.if-not-sized.false)

pub make_calls-requires : goal.make_calls-requires
make_calls-requires c =
    (omega arith, omega (arith, c.if-part-lt12.false), parts-fit _ _ _ c.part_of-part.ensures)

pub returns : goal.returns
returns c =
    let part = c.part_of-part in
    let format = c.format in
    let made = c.make_calls in
    let sized = sym c.sized.ensures ∙ c.if-not-sized.false in
    says-run _ _ _ _ _ _ _ _ _ _ _ _ sized part.result format.new.table part.ensures (omega (arith, c.if-part-lt12.false)) format.ensures.written made.ensures
    (record { table = made.auto.table ∙ format.auto.table; scratch = made.auto.scratch; read_map = made.auto.read_map; counts = made.auto.counts; log = made.auto.log })
