-- `plan::count_left` meets its contract. The loop's invariant: what is counted, and what is still to be counted, is the whole.
use mathlib.Core.Path.{◌≡◌}
use Prim.Native.Nat.{◌+◌}
use Rattle.plan.proofs.Reading.{counted}
use Rattle.plan.proofs.count_left.Given as goal

abbrev pub invariant-loop-i : goal.invariant-loop-i
invariant-loop-i l = l.c + counted l.spots l.floor l.fn.p.to l.i ≡ counted l.spots l.floor l.fn.p.to l.initial.i
