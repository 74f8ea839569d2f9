-- `choose::fullest` meets its contract. The loop's invariant: the fullest of the first i.
use mathlib.Core.Path.{◌≡◌, ◌∙◌}
use Prim.Native.Nat.{◌≤◌, ◌<◌, ◌-◌, ◌+◌}
use native.Mathlib.Omega.{arith}
use borrow.Author.Rules.{rules}
use lib.ListN.{length}
use lib.Seq.{length-take-le}
use Rattle.buffer.proofs.Lists.{length-image}
use Rattle.node.specs.Memory.{entries_of}
use Rattle.choose.specs.Choices.{end_at}
use Rattle.choose.proofs.Chosen.{seen_none, seen-new, seen-stays, seen_all}
use Rattle.choose.proofs.fullest.Given.{Over}
use Rattle.choose.proofs.fullest.Goals as goal
use Rattle.choose.proofs.fullest.Goals.{Start, then-most-here, else-most-here}

long : (g : Over) (c : Start g) → length c.args.es.list ≡ 8
long g c = search (rules, length-image)

counted : (g : Over) (c : Start g) → length (entries_of c.args.es) ≡ c.args.es.n
counted g c = length-take-le c.args.es.n c.args.es.list (omega (arith, long g c, c.requires.1))

pub loop-i-init : goal.loop-i-init
loop-i-init g c =
    let b = c.args.b in
    (omega arith, seen_none (entries_of c.args.es) (g.B.Item.Element.keyed.named (g.B.Buffer.held b)) (g.B.Buffer.count b) (omega (arith, counted g (goal.at.loop-i-init g c).Start, c.requires.0)))

pub loop-i-preserved : goal.loop-i-preserved
loop-i-preserved g c =
    let l = c.loop-i in
    let es = entries_of c.args.es in
    let b = c.args.b in
    let end = c.end_of-end.result in
    let e : end ≡ end_at es (g.B.Item.Element.keyed.named (g.B.Buffer.held b)) (g.B.Buffer.count b) (l.i + 1) = c.end_of-end.ensures in
    let r : c.share_of-here.result ≡ end - l.start = c.share_of-here.ensures in
    let inside : l.i < length es = omega (arith, counted g (goal.at.loop-i-preserved g c).Start) in
    elim c.if-most-here.branch [
      | then-most-here w ↦
          let f : c.if-most-here.best ≡ l.i = w.best-is in
          let m : c.if-most-here.most ≡ end - l.start = w.most-is ∙ r in
          let t : l.most < c.share_of-here.result = w.if-most-here.true in
          (omega arith, rw (f, m) (seen-new es (g.B.Item.Element.keyed.named (g.B.Buffer.held b)) (g.B.Buffer.count b) l.best l.most l.start l.i end inside e l.invariant.1 (omega arith)))
      | else-most-here w ↦
          let f : c.if-most-here.best ≡ l.best = w.best-is in
          let m : c.if-most-here.most ≡ l.most = w.most-is in
          let t : c.share_of-here.result ≤ l.most = w.if-most-here.false in
          (omega arith, rw (f, m) (seen-stays es (g.B.Item.Element.keyed.named (g.B.Buffer.held b)) (g.B.Buffer.count b) l.best l.most l.start l.i end inside e l.invariant.1 (omega arith)))
    ]

pub returns : goal.returns
returns g c =
    let l = c.loop-i in
    let b = c.args.b in
    seen_all (entries_of c.args.es) (g.B.Item.Element.keyed.named (g.B.Buffer.held b)) (g.B.Buffer.count b) l.best l.most l.start l.i (omega (arith, counted g (goal.at.returns g c).Start)) l.invariant.1
