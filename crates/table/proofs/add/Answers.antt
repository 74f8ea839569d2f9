-- `table::add` meets its contract, by that of `revise::put_spot`; then the scratch is cleared, but not after 4.
use Rattle.block.specs.Answers.{answer, told}
use Rattle.table.proofs.Changes.{key-is, inside_is, key-limited, add-short, add-lent, add-outside, add-full, add-ends}
use mir.ValLaws.{to_z-of_z}
use mir.Syntax.{w32}
use lib.ListN.{length}
use Prim.Native.Nat.{◌≤◌, ◌<◌}
use mathlib.Core.Path.{◌≡◌, ap, refl, sym, ◌∙◌}
use native.Mathlib.Omega.{arith}
use mathlib.Core.Bool.{true≢false}
use Prim.Native.Nat.{ℕ}
use borrow.Author.Tests.{eq-eqb, eqb-true}
use Rattle.table.proofs.add.Goals as goal
use Rattle.table.proofs.add.Goals.{Then-is_full}

pub returns-then-not-sized : goal.returns-then-not-sized
returns-then-not-sized c =
    let args = c.args in
    add-short args.place args.rank args.track _ _ _ (sym c.sized.ensures ∙ c.if-not-sized.true) refl

pub returns-then-scratch-bytes : goal.returns-then-scratch-bytes
returns-then-scratch-bytes c =
    let args = c.args in
    let short : length args.scratch.now < length args.table.now = omega (arith, c.if-scratch-bytes.true) in
    add-lent args.place args.rank args.track _ _ _ (sym c.sized.ensures ∙ c.if-not-sized.false) short refl

pub returns-then-not-in_limits : goal.returns-then-not-in_limits
returns-then-not-in_limits c =
    let args = c.args in
    let long : length args.table.now ≤ length args.scratch.now = omega (arith, c.if-scratch-bytes.false) in
    add-outside args.place args.rank args.track _ _ _
    (record { sized = sym c.sized.ensures ∙ c.if-not-sized.false; room = long })
    (inside_is _ _ (to_z-of_z w32 _ c.ranges.place) c.in_limits.ensures ∙ c.if-not-in_limits.true)
    refl

pub put_spot-done-requires : goal.put_spot-done-requires
put_spot-done-requires c =
    let place_is = to_z-of_z w32 _ c.ranges.place in (
      record { sized = sym c.sized.ensures ∙ c.if-not-sized.false; room = omega (arith, c.if-scratch-bytes.false) },
      key-limited _ _ _ _ c.ranges.place c.ranges.rank place_is (to_z-of_z w32 _ c.ranges.rank) c.key_of-key.ensures
          (inside_is _ _ place_is c.in_limits.ensures ∙ c.if-not-in_limits.false),
    )

full : (c : Then-is_full) → (told c.put_spot-done.result).number ≡ 4
full c = eqb-true _ 4 (sym c.is_full.ensures ∙ c.if-is_full.true)

pub returns-then-is_full : goal.returns-then-is_full
returns-then-is_full c =
    let args = c.args in
    let long : length args.table.now ≤ length args.scratch.now = omega (arith, c.if-scratch-bytes.false) in
    let place_is = to_z-of_z w32 _ c.ranges.place in
    add-full args.place args.rank args.track _ _ _
    (record { sized = sym c.sized.ensures ∙ c.if-not-sized.false; room = long })
    (inside_is _ _ place_is c.in_limits.ensures ∙ c.if-not-in_limits.false)
    (key-is _ _ _ _ place_is (to_z-of_z w32 _ c.ranges.rank) c.key_of-key.ensures)
    c.put_spot-done.ensures.number
    (full (goal.at.returns-then-is_full c).Then-is_full)
    (ap (λ (n : ℕ). answer n (told c.put_spot-done.result).detail) (full (goal.at.returns-then-is_full c).Then-is_full) ∙ ap (answer 4) c.put_spot-done.ensures.plain)

pub zero-requires : goal.zero-requires
zero-requires c = omega (arith, c.put_spot-done.ensures.number.leaves.lent_length)

pub returns : goal.returns
returns c =
    let args = c.args in
    let long : length args.table.now ≤ length args.scratch.now = omega (arith, c.if-scratch-bytes.false) in
    let place_is = to_z-of_z w32 _ c.ranges.place in
    add-ends args.place args.rank args.track _ _ _
    (record { sized = sym c.sized.ensures ∙ c.if-not-sized.false; room = long })
    (inside_is _ _ place_is c.in_limits.ensures ∙ c.if-not-in_limits.false)
    (key-is _ _ _ _ place_is (to_z-of_z w32 _ c.ranges.rank) c.key_of-key.ensures)
    c.put_spot-done.ensures.number
    (ap (answer (told c.put_spot-done.result).number) c.put_spot-done.ensures.plain)
    (λ h. true≢false (sym (eq-eqb _ 4 h) ∙ sym c.is_full.ensures ∙ c.if-is_full.false))
    c.zero.ensures
