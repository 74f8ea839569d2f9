-- `many::copy_counts` meets its contract: the first i numbers are those of `each`, and the others as they were.
use mathlib.Core.Path.{◌≡◌}
use lib.ListN.{length}
use lib.Seq.{paste}
use Rattle.many.proofs.copy_counts.Given as goal

abbrev pub invariant-loop-i : goal.invariant-loop-i
invariant-loop-i l = (length l.counts ≡ length l.initial.counts) × (l.counts ≡ paste l.initial.counts 0 l.each l.i)
