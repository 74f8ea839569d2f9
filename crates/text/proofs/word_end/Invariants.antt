-- `text::word_end` meets its contract. The invariant: the bytes passed and the word that is left are the word.
use mathlib.Core.Path.{◌≡◌}
use Prim.Native.Nat.{◌+◌}
use lib.ListN.{length, drop}
use Rattle.text.specs.Reading.{front}
use Rattle.text.proofs.word_end.Given as goal

abbrev pub invariant-loop-i : goal.invariant-loop-i
invariant-loop-i l = l.i + length (front (drop l.i l.line)) ≡ l.at + length (front (drop l.at l.line))
