-- `press::judge` meets its contract: one test after the other.
use mathlib.Core.Path.{sym, ap, ◌∙◌}
use mathlib.Core.Bool.{true, false}
use Prim.Native.Nat.{ℕ}
use native.Mathlib.Omega.{arith}
use Rattle.block.specs.Answers.{answer}
use Rattle.press.proofs.Accepting.{too_short, not-pressable, number-limits, keys-rise}
use Rattle.press.proofs.judge.Goals as goal

pub returns-then-bytes-lt-TOUR_BYTES : goal.returns-then-bytes-lt-TOUR_BYTES
returns-then-bytes-lt-TOUR_BYTES c =
    let a = c.args in
    ap (λ (k : ℕ). answer k 0) (too_short a.bytes a.spots.now c.if-bytes-lt-TOUR_BYTES.true)

pub returns-then-not-pressable : goal.returns-then-not-pressable
returns-then-not-pressable c =
    let a = c.args in
    ap (λ (k : ℕ). answer k 0) (not-pressable a.bytes a.spots.now c.if-bytes-lt-TOUR_BYTES.false (sym c.pressable.ensures ∙ c.if-not-pressable.true))

pub inside-requires : goal.inside-requires
inside-requires c =
    let a = c.args in
    (omega arith, keys-rise a.spots.now (sym c.pressable.ensures ∙ c.if-not-pressable.false))

pub returns-then-not-inside : goal.returns-then-not-inside
returns-then-not-inside c =
    let a = c.args in
    ap (λ (k : ℕ). answer k 0)
    (number-limits a.bytes a.spots.now c.if-bytes-lt-TOUR_BYTES.false (sym c.pressable.ensures ∙ c.if-not-pressable.false) false
    (sym c.inside.ensures ∙ c.if-not-inside.true))

pub returns : goal.returns
returns c =
    let a = c.args in
    ap (λ (k : ℕ). answer k 0)
    (number-limits a.bytes a.spots.now c.if-bytes-lt-TOUR_BYTES.false (sym c.pressable.ensures ∙ c.if-not-pressable.false) true
    (sym c.inside.ensures ∙ c.if-not-inside.false))
