-- `press::write_tiles` meets its contract. The loop's invariant: the blocks so far stand one behind the other.
use Rattle.press.specs.Press.{spots_given}
use Rattle.press.proofs.Tiles.{Blocks}
use Rattle.press.proofs.write_tiles.Given as goal

abbrev pub invariant-loop-i : goal.invariant-loop-i
invariant-loop-i l = Blocks (spots_given l.spots) l.p l.initial.tour l.tour l.i
