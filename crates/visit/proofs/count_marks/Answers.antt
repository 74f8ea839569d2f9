-- `visit::count_marks` meets its contract: the sum is the number of marks among the first i.
use borrow.Author.Rules.{rules}
use native.Mathlib.Omega.{arith}
use mathlib.Core.Path.{◌≡◌, ap, ◌∙◌}
use Prim.Native.Nat.{◌<◌}
use lib.Seq.{take_all, length-take-le}
use lib.ListN.{length, take}
use Rattle.visit.proofs.Marking.{count-mark, count-blank}
use Rattle.visit.specs.Visit.{marks_in}
use Rattle.visit.proofs.count_marks.Goals as goal
use Rattle.visit.proofs.count_marks.Goals.{then-marked, else-marked}

pub loop-marked-preserved : goal.loop-marked-preserved
loop-marked-preserved c =
    let l = c.loop-marked in
    let m = take c.args.n c.args.m in
    let h : l.marked-index < length m = omega arith in
    elim c.if-marked.branch [
      | then-marked w ↦ (omega arith, w.sum-is ∙ count-mark m l.marked-index h l.invariant.1 w.if-marked.true)
      | else-marked w ↦ (omega arith, w.sum-is ∙ count-blank m l.marked-index h l.invariant.1 w.if-marked.false)
    ]

pub returns : goal.returns
returns c =
    let l = c.loop-marked in
    let m = take c.args.n c.args.m in
    let long : length c.args.m ≡ 64 = search rules in
    (l.invariant.1 ∙ ap marks_in (take_all l.marked-index m (omega arith)), omega (arith, length-take-le c.args.n c.args.m (omega arith)))
