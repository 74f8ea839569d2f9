-- `press::write_tile` meets its contract. The loop's invariant: the spots kept so far stand at the front of the block.
use Rattle.press.proofs.Pieces.{Laid}
use Rattle.press.proofs.write_tile.Given as goal

abbrev pub invariant-loop-i : goal.invariant-loop-i
invariant-loop-i l = Laid l.spots l.p 2048 l.s l.at l.i
