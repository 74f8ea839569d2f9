-- `table::count` meets its contract: the walk of the whole table is counted.
use mathlib.Core.Path.{refl, sym, ap, ◌∙◌}
use borrow.Author.Tests.{not-true, not-false}
use Rattle.block.specs.Answers.{answer}
use Rattle.query.proofs.Whole.{counted-as}
use Rattle.table.proofs.Answering.{count-short, count-broken, count-whole, told-broken, told-whole}
use Rattle.table.proofs.count.Goals as goal

pub returns-then-not-sized : goal.returns-then-not-sized
returns-then-not-sized c = count-short _ _ (sym c.sized.ensures ∙ c.if-not-sized.true) refl

pub count_table-requires : goal.count_table-requires
count_table-requires c =
    (sym c.sized.ensures ∙ c.if-not-sized.false, refl)

pub returns-in_default : goal.returns-in_default
returns-in_default c =
    let counted = counted-as c.everything-everything.ensures c.in_default.ensures in
    count-broken _ _ (sym c.sized.ensures ∙ c.if-not-sized.false) (told-broken _ _ _ counted.ok refl) refl

pub returns : goal.returns
returns c =
    let counted = counted-as c.everything-everything.ensures c.in-Some.ensures in
    count-whole _ _ (sym c.sized.ensures ∙ c.if-not-sized.false) (told-whole _ _ _ counted.ok refl) (ap (answer 0) counted.spots)
