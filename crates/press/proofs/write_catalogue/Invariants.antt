-- `press::write_catalogue` meets its contract. The loop's invariant: the front and the entries so far.
use Rattle.press.specs.Press.{spots_given}
use Rattle.press.proofs.Tiles.{Entries}
use Rattle.press.proofs.write_catalogue.Given as goal

abbrev pub invariant-loop-i : goal.invariant-loop-i
invariant-loop-i l = Entries (spots_given l.spots) l.p 2048 l.s l.i
