-- `many::count_all` meets its contract: the first i reports are counted.
use lib.ListN.{length}
use Rattle.std.proofs.Common.{◌≡◌}
use Rattle.memo.specs.Known.{StillKnown}
use Rattle.many.proofs.Counting.{Counting}
use Rattle.many.proofs.count_all.Given as goal

abbrev pub invariant-loop-i : goal.invariant-loop-i
invariant-loop-i l =
    (length l.few ≡ length l.initial.few) × (length l.each ≡ length l.initial.each) × Counting l.all l.table l.seen l.few l.each l.spots l.i × StillKnown l.table l.initial.known l.known
