-- `plan::ripe_at` meets its contract. The loop's invariant: none before the i-th is ripe.
use mathlib.Core.Path.{◌≡◌, ap, ap₂, sym, subst, ◌∙◌}
use mathlib.Core.Logic.{⊎_elim}
use Prim.Native.Nat.{ℕ, ◌+◌}
use native.Mathlib.Omega.{arith}
use Rattle.octets.proofs.Order.{same_or_not}
use Rattle.plan.specs.declared.Piece.{Piece}
use Rattle.plan.specs.Plans.{left_at, piece_left, SpotsReadable}
use Rattle.plan.proofs.ripe_at.Goals as goal
use Rattle.plan.proofs.ripe_at.Goals.{After-count_left-next, After-piece_at, After-piece_at-in-loop-i}

-- what the pieces that are read have
readable : (c : After-piece_at) → SpotsReadable c.args.spots.now c.piece_at.result.to
readable c =
    subst (λ (p : Piece). SpotsReadable c.args.spots.now p.to) (sym c.piece_at.ensures) (c.requires.read c.loop-i.i (omega arith))

readable-2 : (c : After-piece_at-in-loop-i) → SpotsReadable c.args.spots.now c.piece_at-in-loop-i.result.to
readable-2 c =
    subst (λ (p : Piece). SpotsReadable c.args.spots.now p.to) (sym c.piece_at-in-loop-i.ensures)
    (c.requires.read (c.loop-i.i + 1) (omega arith))

-- the sum is what the contract counts
sum_is : (c : After-count_left-next) → c.count_left-here.result + c.count_left-next.result
    ≡ left_at c.args.spots.now c.args.plan
    c.args.floor c.loop-i.i
sum_is c =
    let s = c.args in
    ap₂ (λ (x y : ℕ). x + y)
    (c.count_left-here.ensures.0 ∙ ap (λ (p : Piece). piece_left s.spots.now p s.floor) c.piece_at.ensures)
    (c.count_left-next.ensures.0 ∙ ap (λ (p : Piece). piece_left s.spots.now p s.floor) c.piece_at-in-loop-i.ensures)

pub count_left-here-requires : goal.count_left-here-requires
count_left-here-requires c = readable (goal.at.count_left-here-requires c).After-piece_at

pub count_left-next-requires : goal.count_left-next-requires
count_left-next-requires c = readable-2 (goal.at.count_left-next-requires c).After-piece_at-in-loop-i

pub overflow_add-here : goal.overflow_add-here
overflow_add-here c =
    let a = readable (goal.at.overflow_add-here c).After-piece_at in
    let b = readable-2 (goal.at.overflow_add-here c).After-piece_at-in-loop-i in
    omega (arith, a.inside, b.inside, c.count_left-here.ensures.1, c.count_left-next.ensures.1)

pub loop-i-preserved : goal.loop-i-preserved
loop-i-preserved c =
    let s = c.args in
    let l = c.loop-i in
    λ j h k e.
    ⊎_elim (λ (d : j ≡ l.i). c.if-here-next-eq64.false (sum_is (goal.at.loop-i-preserved c).After-count_left-next ∙ ap (left_at s.spots.now s.plan s.floor) (sym d) ∙ e))
    (λ (d : j ≡ l.i → ⊥). l.invariant j (omega arith) k e)
    (same_or_not j l.i)

pub returns : goal.returns
returns c =
    record { before = λ j h k e. c.loop-i.invariant j (omega arith) k e; here = λ h. let z : ⊥ = omega arith in absurd z }
