-- `build::admit` meets its contract: it writes inside the 48.
use mathlib.Core.Path.{sym, ◌∙◌}
use lib.ListN.{length-set}
use Rattle.build.proofs.admit.Goals as goal

pub shape_of-top-then-r-next : goal.shape_of-top-then-r-next
shape_of-top-then-r-next c =
    let l = c.loop-j in
    length-set l.top l.j c.args.r ∙ l.invariant ∙ sym c.requires

pub returns-then-r-next : goal.returns-then-r-next
returns-then-r-next c = simp length-set c.loop-j.invariant

pub loop-j-preserved : goal.loop-j-preserved
loop-j-preserved c = simp length-set c.loop-j.invariant

pub shape_of-top : goal.shape_of-top
shape_of-top c =
    let l = c.loop-j in
    length-set l.top 47 c.args.r ∙ l.invariant ∙ sym c.requires

pub returns : goal.returns
returns c = simp length-set c.loop-j.invariant
