-- `edit::best_child` meets its contract. The loop's invariant: the best of the first i.
use mathlib.Core.Path.{◌≡◌, ◌∙◌}
use Prim.Native.Nat.{◌<◌}
use native.Mathlib.Omega.{arith}
use borrow.Author.Rules.{rules}
use lib.ListN.{length, get_or}
use Rattle.std.specs.Prelude.{Some}
use Rattle.spot.specs.Keys.{rank_key}
use Rattle.buffer.proofs.Lists.{length-image}
use Rattle.node.proofs.Listed.{blank}
use Rattle.edit.proofs.Picked.{pick_yes, pick_no, seen_none, seen-new, seen-stays, seen_all}
use Rattle.edit.proofs.best_child.Goals as goal
use Rattle.edit.proofs.best_child.Goals.{Start, then-e-is_none, else-e-is_none}

long : (c : Start) → length c.args.es.list ≡ 8
long c = search (rules, length-image)

pub loop-i-init : goal.loop-i-init
loop-i-init c = (omega arith, seen_none c.args.es.list 0)

pub loop-i-preserved : goal.loop-i-preserved
loop-i-preserved c =
    let l = c.loop-i in
    let es = c.args.es in
    let r = c.rank_key-r in
    let e : r.result ≡ rank_key (get_or es.list l.i blank).top = r.ensures in
    let inside : l.i < length es.list = omega (arith, long (goal.at.loop-i-preserved c).Start, c.requires) in
    let x = get_or es.list l.i blank in
    elim c.if-e-is_none.branch [
      | then-e-is_none w ↦
          let t = pick_yes x.size l.high r.result c.is_none.result w.if-e-is_none.true in
          let f : c.if-e-is_none.best ≡ Some l.i = w.best-is in
          let g : c.if-e-is_none.high ≡ rank_key x.top = w.high-is ∙ e in
          (omega arith, rw (f, g) (seen-new es.list l.i inside l.high l.best c.is_none.result c.is_none.ensures t.0 (rw e at t.1) l.invariant.1))
      | else-e-is_none w ↦
          let t = pick_no x.size l.high r.result c.is_none.result w.if-e-is_none.false in
          let f : c.if-e-is_none.best ≡ l.best = w.best-is in
          let g : c.if-e-is_none.high ≡ l.high = w.high-is in
          (omega arith, rw (f, g) (seen-stays es.list l.i inside l.high l.best c.is_none.result c.is_none.ensures (rw e at t) l.invariant.1))
    ]

pub returns : goal.returns
returns c =
    let l = c.loop-i in
    let es = c.args.es in
    let e : l.i ≡ es.n = omega arith in
    seen_all es l.best l.high (omega (arith, long (goal.at.returns c).Start, c.requires)) (rw e at l.invariant.1)
