-- `top::give_above` meets its contract: each turn gives the spot of the first row, or no spot reaches the floor.
use mathlib.Core.Path.{◌≡◌}
use Prim.Native.Nat.{◌-◌}
use lib.ListN.{length}
use Rattle.top.specs.Runs.{Passes}
use Rattle.top.proofs.give_above.Given as goal

abbrev pub invariant-loop-j : goal.invariant-loop-j
invariant-loop-j l =
    (length l.heads ≡ length l.initial.heads) × (length l.out ≡ length l.initial.out) × Passes l.t l.q l.k l.room l.rows l.initial.heads l.heads l.m l.left l.floor l.initial.out l.out l.given l.j

abbrev pub decreases-loop-j : goal.decreases-loop-j
decreases-loop-j l = l.k - l.j
