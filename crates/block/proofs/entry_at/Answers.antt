-- `block::entry_at` meets its contract: the fields are those of `entry_of`, and what is used of them is inside the limits.
use mathlib.Core.Path.{ap, sym, ◌∙◌}
use Prim.Native.Nat.{ℕ, ◌+◌, ◌*◌}
use native.Mathlib.Omega.{arith}
use lib.Dec.{eqb}
use borrow.Author.Tests.{eqb-false}
use Rattle.octets.proofs.Bytes.{be-one}
use Rattle.block.specs.Access.{entry_of}
use Rattle.block.proofs.Limits.{entry-fits, low-inside, top-inside, bottom-inside}
use Rattle.block.proofs.entry_at.Goals as goal

pub overflow_mul-at : goal.overflow_mul-at
overflow_mul-at c = omega (arith, entry-fits c.args.s.now c.requires.0 c.args.i c.requires.1)

pub overflow_add-at : goal.overflow_add-at
overflow_add-at c = omega (arith, entry-fits c.args.s.now c.requires.0 c.args.i c.requires.1)

pub read16-block-requires : goal.read16-block-requires
read16-block-requires c = omega (arith, entry-fits c.args.s.now c.requires.0 c.args.i c.requires.1)

pub overflow_add-at-2 : goal.overflow_add-at-2
overflow_add-at-2 c = omega (arith, entry-fits c.args.s.now c.requires.0 c.args.i c.requires.1)

pub count_at-size-requires : goal.count_at-size-requires
count_at-size-requires c = omega (arith, entry-fits c.args.s.now c.requires.0 c.args.i c.requires.1)

pub overflow_add-at-3 : goal.overflow_add-at-3
overflow_add-at-3 c = omega (arith, entry-fits c.args.s.now c.requires.0 c.args.i c.requires.1)

pub key_unless-low-requires : goal.key_unless-low-requires
key_unless-low-requires c =
    let s = c.args.s.now in
    let i = c.args.i in (
      omega (arith, entry-fits s c.requires.0 i c.requires.1),
      λ h. low-inside s c.requires.0 i (let d = eqb-false i 0 h in omega arith) c.requires.1,
    )

pub overflow_add-at-4 : goal.overflow_add-at-4
overflow_add-at-4 c = omega (arith, entry-fits c.args.s.now c.requires.0 c.args.i c.requires.1)

pub key_unless-top-requires : goal.key_unless-top-requires
key_unless-top-requires c =
    let s = c.args.s.now in
    let i = c.args.i in (
      omega (arith, entry-fits s c.requires.0 i c.requires.1),
      λ h. top-inside s c.requires.0 i c.requires.1 (ap (λ (n : ℕ). eqb n 0) (be-one s (8 + 28 * i + 2) ∙ sym c.count_at-size.ensures.0) ∙ h),
    )

pub overflow_add-at-5 : goal.overflow_add-at-5
overflow_add-at-5 c = omega (arith, entry-fits c.args.s.now c.requires.0 c.args.i c.requires.1)

pub key_unless-bottom-requires : goal.key_unless-bottom-requires
key_unless-bottom-requires c =
    let s = c.args.s.now in
    let i = c.args.i in (
      omega (arith, entry-fits s c.requires.0 i c.requires.1),
      λ h. bottom-inside s c.requires.0 i c.requires.1 (ap (λ (n : ℕ). eqb n 0) (be-one s (8 + 28 * i + 2) ∙ sym c.count_at-size.ensures.0) ∙ h),
    )

pub returns : goal.returns
unfolding entry_of
returns c =
    let a = c.args in
    record { same = cc (be-one a.s.now (8 + 28 * a.i + 2)); near = omega arith; small = omega arith }
