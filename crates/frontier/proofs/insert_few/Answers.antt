-- `frontier::insert_few` meets its contract: the rows under the new one move down, the last first.
use mathlib.Core.Path.{◌≡◌, subst}
use mathlib.Core.List.{[], ◌∷◌}
use Prim.Native.Nat.{ℕ, ◌+◌, ◌-◌}
use lib.Dec.{ltb}
use lib.ListN.{length, set}
use mir.Val.{bool_byte}
use Rattle.frontier.specs.Picks.{Inserted}
use Rattle.frontier.proofs.Fews.{opened-taken}
use native.Mathlib.Omega.{arith}
use Rattle.frontier.proofs.insert_few.Goals as goal

pub returns : goal.returns
returns c =
    let a = c.args in
    let l = c.loop-i in
    let e : l.i - 1 ≡ 0 = omega (arith, c.loop-i-test.false) in
    subst (λ (x : ℕ). Inserted a.few.now a.n a.key a.at (set l.few x (a.key ∷ a.at ∷ [])) (a.n + bool_byte (ltb a.n (length a.few.now)))) e
    (opened-taken l.invariant.0 a.at (λ y. let z : ⊥ = omega (arith, e) in absurd z))
