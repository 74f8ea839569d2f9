-- `octets::copy` meets its contract. The loop's invariant: the first i bytes are those of `from`, and the others as they were.
use native.Mathlib.Omega.{arith}
use mathlib.Core.Path.{◌≡◌, refl, sym, ap, ◌∙◌}
use Prim.Native.Nat.{ℕ, ◌-◌, ◌≤◌}
use native.Mathlib.Nat.{zero-add}
use native.Mathlib.Numerals.{add-one}
use lib.ListN.{length, get_or, set, length-set}
use lib.Seq.{paste, paste-zero, paste-suc}
use Rattle.octets.proofs.copy.Goals as goal

pub loop-i-init : goal.loop-i-init
loop-i-init c = (omega arith, refl, paste-zero c.args.to.now 0 c.args.from.now)

pub loop-i-preserved : goal.loop-i-preserved
loop-i-preserved c =
    let a = c.args in
    let l = c.loop-i in
    let d = a.to.now in
    let s = a.from.now in
    let v = get_or s l.i 0 in (
      omega arith,
      simp length-set (omega arith),
      ap (λ x. set x l.i v) l.invariant.2
          ∙ ap (λ k. set (paste d 0 s l.i) k v) (sym (zero-add l.i))
          ∙ paste-suc d 0 s l.i 0 (omega arith) (omega arith) ∙ ap (λ n. paste d 0 s n) (sym (add-one l.i)),
    )

pub shape_of-to : goal.shape_of-to
shape_of-to c = c.loop-i.invariant.1

pub returns : goal.returns
returns c =
    let l = c.loop-i in
    let a = c.args in
    let e : l.i ≡ a.n = omega arith in
    l.invariant.2 ∙ ap (λ (k : ℕ). paste a.to.now 0 a.from.now k) e ∙ rw zero-add
