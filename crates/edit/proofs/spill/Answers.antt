-- `edit::spill` meets its contract. The loop's invariant: `Lowering`, what P has become and what has gathered.
use mathlib.Core.Path.{◌≡◌}
use native.Mathlib.Omega.{arith}
use borrow.Author.Rules.{rules}
use lib.ListN.{length}
use Rattle.buffer.specs.Buffer.{held}
use Rattle.buffer.proofs.Lists.{length-image}
use Rattle.edit.proofs.Lowered.{lowering-none, lowest-new, one_fewer, lowering-more, lowering-all, spilled-none}
use Rattle.edit.proofs.spill.Goals as goal
use Rattle.edit.proofs.spill.Goals.{After-put-gathered, Start}

lengths : (c : Start) → (length c.args.n.points.spots ≡ 80) × (length c.args.n.inserts.spots ≡ 80)
lengths c = (search (rules, length-image), search (rules, length-image))

pub returns-then-size-le64 : goal.returns-then-size-le64
returns-then-size-le64 c = spilled-none c.args.n c.requires.0 (omega arith)

pub loop-points-init : goal.loop-points-init
loop-points-init c =
    let n = c.args.n in
    let g = c.empty-gathered in
    lowering-none n.points n.inserts g.result n.deletes (lengths (goal.at.loop-points-init c).Start).0 c.requires.0.points c.requires.2 (omega arith) g.ensures.0 g.ensures.1

pub put-gathered-requires : goal.put-gathered-requires
put-gathered-requires c =
    let l = c.loop-points in
    let q = c.lowest-low in
    (l.invariant.gathered, omega (arith, c.requires.0.points.fits, l.invariant.total), lowest-new l.points (held l.gathered) q.result q.ensures l.invariant.apart)

long : (c : After-put-gathered)
    → length c.without-points.result.spots ≡ 80
long c = search (rules, length-image)

pub loop-points-smaller : goal.loop-points-smaller
loop-points-smaller c =
    let l = c.loop-points in
    let q = c.lowest-low in
    let p = c.without-points in
    omega (arith, one_fewer l.points p.result q.result q.ensures p.ensures.1 l.invariant.long l.invariant.points (long (goal.at.loop-points-smaller c).After-put-gathered) p.ensures.2)

pub loop-points-preserved : goal.loop-points-preserved
loop-points-preserved c =
    let l = c.loop-points in
    let q = c.lowest-low in
    let p = c.without-points in
    let g = c.put-gathered in
    lowering-more l.points l.gathered p.result g.result q.result l.invariant c.requires.0.inserts q.ensures (omega arith) p.ensures.1 (long (goal.at.loop-points-preserved c).After-put-gathered) p.ensures.2 g.ensures.0
    g.ensures.1 g.ensures.2

pub merge-inserts-requires : goal.merge-inserts-requires
merge-inserts-requires c =
    let l = c.loop-points in
    (l.invariant.gathered, c.requires.0.inserts, omega (arith, c.requires.1, l.invariant.total, l.invariant.full), omega (arith, c.requires.1, l.invariant.total, l.invariant.full))

pub returns : goal.returns
returns c =
    let l = c.loop-points in
    let i = c.merge-inserts in
    lowering-all c.args.n l.points l.gathered i.result l.invariant (omega arith) (omega arith) c.requires.0 (lengths (goal.at.returns c).Start).1 (search (rules, length-image)) i.ensures.1
    i.ensures.2

pub lowest-low-requires : goal.lowest-low-requires
lowest-low-requires c = (c.loop-points.invariant.points, omega arith)

pub without-points-requires : goal.without-points-requires
without-points-requires c = c.loop-points.invariant.points
