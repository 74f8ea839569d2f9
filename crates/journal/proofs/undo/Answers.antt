-- `journal::undo` meets its contract. The loop's invariant: the blocks below b are as they were before, those from b on as at entry.
use mathlib.Core.Path.{◌≡◌, sym, subst, ◌∙◌}
use mathlib.Core.List.{List}
use Prim.Native.Nat.{ℕ, ◌+◌, ◌*◌, ◌/◌, ◌≤◌}
use native.Mathlib.Omega.{arith}
use lib.ListN.{length}
use Rattle.journal.proofs.Kept.{Undoing, undoing-none, undoing-clear, undoing-kept, undoing-all}
use Rattle.journal.proofs.undo.Goals as goal
use Rattle.journal.proofs.undo.Goals.{then-test_bit, else-test_bit}

pub loop-b-init : goal.loop-b-init
loop-b-init c = (omega arith, undoing-none)

pub test_bit-requires : goal.test_bit-requires
test_bit-requires c =
    let u = c.requires in
    omega (arith, u.mapped, u.most)

pub copy_block-requires : goal.copy_block-requires
copy_block-requires c =
    (omega (arith, c.loop-b.invariant.1.sized), omega (arith, c.requires.room))

pub loop-b-preserved : goal.loop-b-preserved
loop-b-preserved c =
    let l = c.loop-b in
    let u = l.invariant.1 in
    let t₀ = c.args.t.now in
    let s = c.args.s.now in
    let m = c.args.map.now in
    let tested = sym c.test_bit.ensures in
    let h : l.b * 2048 + 2048 ≤ length t₀ = omega (arith, c.loop-b-test.true) in (
      omega arith,
      elim c.if-test_bit.branch [
        | then-test_bit w ↦ subst (λ (x : List ℕ). Undoing t₀ s m (l.b + 1) x) (sym (w.t-is ∙ w.copy_block.ensures)) (undoing-kept u (tested ∙ w.if-test_bit.true) (omega (arith, u.sized)) (omega (arith, c.requires.room)))
        | else-test_bit w ↦ subst (λ (x : List ℕ). Undoing t₀ s m (l.b + 1) x) (sym w.t-is) (undoing-clear u (tested ∙ w.if-test_bit.false))
      ],
    )

pub shape_of-t : goal.shape_of-t
shape_of-t c = c.loop-b.invariant.1.sized

pub returns : goal.returns
returns c =
    let a = c.args in
    let l = c.loop-b in
    let t₀ = a.t.now in
    let s = a.s.now in
    let m = a.map.now in
    let e : l.b ≡ length t₀ / 2048 = omega arith in
    undoing-all (subst (λ (n : ℕ). Undoing t₀ s m n l.t) e l.invariant.1)
