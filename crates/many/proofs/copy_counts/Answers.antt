-- `many::copy_counts` meets its contract: the first i numbers are those of `each`, and the others as they were.
use mathlib.Core.Path.{◌≡◌, refl, sym, ap, ◌∙◌}
use Prim.Native.Nat.{ℕ, ◌-◌, ◌≤◌}
use native.Mathlib.Nat.{zero-add}
use native.Mathlib.Numerals.{add-one}
use native.Mathlib.Omega.{arith}
use lib.ListN.{length, get_or, set, length-set}
use lib.Seq.{paste, paste-zero, paste-suc}
use Rattle.octets.proofs.Lists.{over-all}
use Rattle.many.proofs.copy_counts.Goals as goal

pub loop-i-init : goal.loop-i-init
loop-i-init c = (refl, paste-zero c.args.counts.now 0 c.args.each.now)

pub loop-i-preserved : goal.loop-i-preserved
loop-i-preserved c =
    let a = c.args in
    let l = c.loop-i in
    let d = a.counts.now in
    let s = a.each.now in
    let v = get_or s l.i 0 in (
      simp length-set (omega arith),
      ap (λ x. set x l.i v) l.invariant.1
          ∙ ap (λ k. set (paste d 0 s l.i) k v) (sym (zero-add l.i))
          ∙ paste-suc d 0 s l.i 0 (omega arith) (omega arith) ∙ ap (λ n. paste d 0 s n) (sym (add-one l.i)),
    )

pub returns : goal.returns
returns c =
    let l = c.loop-i in
    let a = c.args in
    let e : l.i ≡ length a.counts.now = omega arith in
    l.invariant.1 ∙ ap (λ (k : ℕ). paste a.counts.now 0 a.each.now k) e ∙ rw zero-add (over-all _ a.counts.now (length a.counts.now) (omega arith))

pub shape_of-counts : goal.shape_of-counts
shape_of-counts c = c.loop-i.invariant.0
