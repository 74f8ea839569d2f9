-- `text::number` meets its contract. The invariant: the number so far, with the digits that are left, is the number of all.
use mathlib.Core.Path.{◌≡◌}
use Prim.Native.Nat.{◌<◌}
use lib.ListN.{drop}
use Rattle.text.specs.Reading.{value}
use Rattle.text.proofs.number.Given as goal

abbrev pub invariant-loop-b : goal.invariant-loop-b
invariant-loop-b l = (l.n < 4294967296) × (value l.n (drop l.b-index l.w) ≡ value 0 l.w)
