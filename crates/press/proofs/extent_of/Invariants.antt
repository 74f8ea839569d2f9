-- `press::extent_of` meets its contract. The loop's invariant: the spots kept so far, and what the catalogue says of them.
use Rattle.press.proofs.Pieces.{Shown}
use Rattle.press.proofs.extent_of.Given as goal

abbrev pub invariant-loop-i : goal.invariant-loop-i
invariant-loop-i l = Shown l.spots l.p l.e l.i
