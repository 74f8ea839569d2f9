-- `many::count_one` meets its contract: counted with a map of its own, which is joined then.
use mathlib.Core.Path.{refl}
use mir.Syntax.{w32}
use mir.ValLaws.{to_z-of_z}
use Rattle.query.proofs.Whole.{counted-as}
use Rattle.query.proofs.Gathered.{held-as}
use Rattle.report.proofs.Reporting.{query-same}
use Rattle.many.proofs.Counting.{one-counted}
use Rattle.many.proofs.count_one.Goals as goal

pub returns : goal.returns
returns c =
    let told = c.struct_told-3-1.given in
    let r = c.args.r in
    let same = query-same r.x1 r.x2 r.y _ _ _ _ (to_z-of_z w32 _ (record { sfits = told.0.1 })) (to_z-of_z w32 _ (record { sfits = told.1.0.1 })) (to_z-of_z w32 _ (record { sfits = told.1.1.0.1 })) refl in
    (one-counted r (counted-as same c.size_known-one.ensures.0) (held-as same c.size_known-one.ensures.1) c.join_marks.ensures, c.size_known-one.ensures.2)
