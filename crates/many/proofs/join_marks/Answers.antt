-- `many::join_marks` meets its contract: the first i bytes are joined.
use native.Mathlib.Omega.{arith}
use Rattle.many.proofs.Unions.{joining-start, joining-next, joining-all}
use Rattle.many.proofs.join_marks.Goals as goal

pub loop-i-init : goal.loop-i-init
loop-i-init c = joining-start _ c.requires.0

pub loop-i-preserved : goal.loop-i-preserved
loop-i-preserved c = joining-next c.loop-i.invariant (omega arith)

pub returns : goal.returns
returns c = joining-all c.loop-i.invariant (omega arith)
