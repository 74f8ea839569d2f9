-- `many::answer_in` meets its contract: nothing is known at first.
use native.Mathlib.Omega.{arith}
use Rattle.memo.proofs.Remembering.{known-blank}
use Rattle.many.proofs.answer_in.Goals as goal

pub answer_with-requires : goal.answer_with-requires
answer_with-requires g c = (c.requires.0, omega (arith, c.requires.0.many), known-blank _ g.row.KNOWN)
