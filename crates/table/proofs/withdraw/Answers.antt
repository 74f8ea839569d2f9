-- `table::withdraw` meets its contract, by that of `revise::take_key`; then the scratch is cleared.
use Rattle.block.specs.Answers.{answer, told}
use Rattle.table.proofs.Changes.{key-is, inside_is, key-limited, withdraw-short, withdraw-lent, withdraw-outside, withdraw-ends}
use mir.ValLaws.{to_z-of_z}
use mir.Syntax.{w32}
use lib.ListN.{length}
use Prim.Native.Nat.{◌≤◌, ◌<◌}
use mathlib.Core.Path.{ap, refl, sym, ◌∙◌}
use native.Mathlib.Omega.{arith}
use Rattle.table.proofs.withdraw.Goals as goal

pub returns-then-not-sized : goal.returns-then-not-sized
returns-then-not-sized c =
    let args = c.args in
    withdraw-short args.place args.rank _ _ _ (sym c.sized.ensures ∙ c.if-not-sized.true) refl

pub returns-then-scratch-size : goal.returns-then-scratch-size
returns-then-scratch-size c =
    let args = c.args in
    let short : length args.scratch.now < length args.table.now = omega (arith, c.if-scratch-size.true) in
    withdraw-lent args.place args.rank _ _ _ (sym c.sized.ensures ∙ c.if-not-sized.false) short refl

pub returns-then-not-in_limits : goal.returns-then-not-in_limits
returns-then-not-in_limits c =
    let args = c.args in
    let long : length args.table.now ≤ length args.scratch.now = omega (arith, c.if-scratch-size.false) in
    withdraw-outside args.place args.rank _ _ _
    (record { sized = sym c.sized.ensures ∙ c.if-not-sized.false; room = long })
    (inside_is _ _ (to_z-of_z w32 _ c.ranges.place) c.in_limits.ensures ∙ c.if-not-in_limits.true)
    refl

pub take_key-done-requires : goal.take_key-done-requires
take_key-done-requires c =
    let place_is = to_z-of_z w32 _ c.ranges.place in (
      record { sized = sym c.sized.ensures ∙ c.if-not-sized.false; room = omega (arith, c.if-scratch-size.false) },
      key-limited _ _ _ _ c.ranges.place c.ranges.rank place_is (to_z-of_z w32 _ c.ranges.rank) c.key_of-key.ensures
          (inside_is _ _ place_is c.in_limits.ensures ∙ c.if-not-in_limits.false),
    )

pub zero-requires : goal.zero-requires
zero-requires c = omega (arith, c.take_key-done.ensures.number.leaves.lent_length)

pub returns : goal.returns
returns c =
    let args = c.args in
    let long : length args.table.now ≤ length args.scratch.now = omega (arith, c.if-scratch-size.false) in
    let place_is = to_z-of_z w32 _ c.ranges.place in
    withdraw-ends args.place args.rank _ _ _
    (record { sized = sym c.sized.ensures ∙ c.if-not-sized.false; room = long })
    (inside_is _ _ place_is c.in_limits.ensures ∙ c.if-not-in_limits.false)
    (key-is _ _ _ _ place_is (to_z-of_z w32 _ c.ranges.rank) c.key_of-key.ensures)
    c.take_key-done.ensures.number
    (ap (answer (told c.take_key-done.result).number) c.take_key-done.ensures.plain)
    c.zero.ensures
