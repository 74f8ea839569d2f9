-- `plan::ripe_at` meets its contract. The loop's invariant: none before the i-th is ripe.
use mathlib.Core.Path.{◌≡◌}
use Prim.Native.Nat.{ℕ, ◌+◌, ◌<◌}
use Rattle.plan.specs.Plans.{left_at}
use Rattle.plan.proofs.ripe_at.Given as goal

abbrev pub invariant-loop-i : goal.invariant-loop-i
invariant-loop-i l = (j : ℕ) → j < l.i → j + 1 < l.fn.plan.stands → left_at l.spots l.plan l.floor j ≡ 64 → ⊥
