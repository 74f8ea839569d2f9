-- `octets::ones` meets its contract. The loop's invariant: n is the number of ones in the bytes so far.
use Prim.Native.Nat.{◌*◌, ◌≤◌}
use mathlib.Core.Path.{◌≡◌}
use Rattle.octets.specs.Bitmap.{ones_below}
use Rattle.octets.proofs.ones.Given as goal

abbrev pub invariant-loop-byte : goal.invariant-loop-byte
invariant-loop-byte l = (l.n ≤ 8 * l.byte-index) × (l.n ≡ ones_below l.map (8 * l.byte-index))
