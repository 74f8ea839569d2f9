-- `change::finish` meets its contract.
use mathlib.Core.List.{List}
use mathlib.Core.Path.{ap, ◌∙◌, subst, subst⁻¹}
use Prim.Native.Nat.{ℕ}
use borrow.Rule.Slice.PartMut.{put_mid}
use Rattle.journal.proofs.Kept.{copied_is}
use Rattle.spare.specs.Spares.{taken_of, HeadFits, Reheaded}
use Rattle.change.proofs.finish.Goals as goal

pub rehead-requires : goal.rehead-requires
rehead-requires c =
    let a = c.args in
    let p = c.requires in
    subst⁻¹ (λ (x : List ℕ). HeadFits x a.spare a.left a.levels a.root a.bound)
    (ap (put_mid 0 2048 a.t.now) c.copy.ensures ∙ copied_is a.t.now a.w.now 0 p.long p.room) p.head

pub returns : goal.returns
returns c =
    let a = c.args in
    let p = c.requires in
    subst (λ (x : List ℕ). Reheaded x c.rehead.new.t (taken_of a.spare a.left) a.levels a.root a.bound)
    (ap (put_mid 0 2048 a.t.now) c.copy.ensures ∙ copied_is a.t.now a.w.now 0 p.long p.room) c.rehead.ensures
