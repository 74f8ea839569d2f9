-- `edit::delete_all` meets its contract. The loop's invariant: the keys from index i on are deleted.
use mathlib.Core.Path.{◌≡◌, ap}
use Prim.Native.Nat.{ℕ}
use native.Mathlib.Omega.{arith}
use borrow.Author.Rules.{rules}
use lib.ListN.{length, drop}
use Rattle.update_theory.specs.Held.{delete_all}
use Rattle.buffer.specs.Buffer.{named}
use Rattle.edit.specs.Edits.{held_in}
use Rattle.edit.proofs.Buffered.{deletes-none, deletes-more, edited-none, edited-more, edited-same}
use Rattle.edit.proofs.delete_all.Goals as goal
use Rattle.edit.proofs.delete_all.Goals.{Start}

long : (c : Start) → length c.args.batch.keys ≡ 32
long c = search rules

pub loop-i-init : goal.loop-i-init
loop-i-init c =
    let a = c.args in (
      omega arith,
      edited-none (deletes-none a.r a.batch.keys a.batch.n (omega (arith, long (goal.at.loop-i-init c).Start)) (held_in a.n)) c.requires.0 (omega arith) (omega arith) (omega arith),
    )

pub delete_one-next-requires : goal.delete_one-next-requires
delete_one-next-requires c =
    let l = c.loop-i in
    (l.invariant.1.tidy, omega (arith, l.invariant.1.deletes))

pub loop-i-preserved : goal.loop-i-preserved
loop-i-preserved c =
    let l = c.loop-i in
    let a = c.args in
    let b = l.invariant.1 in
    let x = c.delete_one-next.ensures in (
      omega arith,
      edited-more x (omega (arith, b.points)) (omega (arith, b.inserts)) (omega (arith, b.deletes)) b
          (deletes-more a.r a.batch.keys a.batch.n (omega (arith, long (goal.at.loop-i-preserved c).Start)) (held_in a.n) l.i (omega arith) l.invariant.0 b.holds x.holds),
    )

pub returns : goal.returns
returns c =
    let l = c.loop-i in
    let a = c.args in
    let e : l.i ≡ 0 = omega arith in
    edited-same l.invariant.1 (omega arith) (omega arith) (omega arith) (ap (λ (i : ℕ). delete_all a.r (drop i (named a.batch)) (held_in a.n)) e)
