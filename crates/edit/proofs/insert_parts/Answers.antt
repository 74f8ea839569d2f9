-- `edit::insert_parts` meets its contract. The loop's invariant: `Gathered`, what the spots from index i on have become.
use mathlib.Core.Path.{◌≡◌, ap, ◌∙◌}
use mathlib.Core.List.{List}
use Prim.Native.Nat.{ℕ, ◌-◌, ◌≤◌, ◌<◌}
use native.Mathlib.Omega.{arith}
use borrow.Author.Rules.{rules}
use lib.ListN.{length, drop, get_or}
use Rattle.octets.specs.Lists.{has}
use Rattle.spot.specs.declared.Spot.{Spot}
use Rattle.spot.specs.Keys.{rank_key}
use Rattle.spot.specs.Spots.{keys}
use Rattle.buffer.specs.Buffer.{held, named, blank}
use Rattle.buffer.proofs.Lists.{length-image}
use Rattle.update_theory.specs.Held.{Held, insert_one, insert_all}
use Rattle.edit.specs.Edits.{held_in}
use Rattle.edit.proofs.Buffered.{buffers, spot-gone, inserts-none, inserts-more, edited-same}
use Rattle.edit.proofs.Gathered.{joined, gathered_none, gathered-high, gathered-low, gathered-all}
use Rattle.edit.proofs.insert_parts.Goals as goal
use Rattle.edit.proofs.insert_parts.Goals.{In-loop-i, Start}

long : (c : Start) → length c.args.batch.spots ≡ 80
long c = search (rules, length-image)

-- the spot of a turn
abbrev spot_of : In-loop-i → Spot
spot_of c = get_or c.args.batch.spots (c.loop-i.i - 1) blank

-- with it one spot more is inserted
turn : (c : In-loop-i) (b : Held)
    → b ≡ insert_one c.args.r (spot_of c) (buffers (joined c.loop-i.high c.loop-i.points) (joined c.loop-i.low c.loop-i.inserts) (named c.loop-i.deletes))
    → b ≡ insert_all c.args.r (drop (c.loop-i.i - 1) (held c.args.batch)) (held_in c.args.n)
turn c b e =
    let a = c.args in
    let l = c.loop-i in
    let fits : length a.batch.spots ≡ 80 = search (rules, length-image) in
    inserts-more a.r a.batch.spots a.batch.n (omega arith) (held_in a.n) l.i (omega arith) l.invariant.0 l.invariant.1.holds e

pub loop-i-init : goal.loop-i-init
loop-i-init c =
    let a = c.args in
    let n = a.n in
    let h = c.empty-high in
    let l = c.empty-low in (
      omega arith,
      gathered_none a.r n.points n.inserts n.deletes (a.batch.n - a.batch.n) h.result l.result c.requires.0.points c.requires.0.inserts c.requires.0.deletes
          h.ensures.0 h.ensures.1 l.ensures.0 l.ensures.1 (inserts-none a.r a.batch.spots a.batch.n (omega (arith, long (goal.at.loop-i-init c).Start)) (held_in n)),
    )

pub put-high-requires : goal.put-high-requires
put-high-requires c =
    let l = c.loop-i in
    let w = c.without-others in
    let k = (spot_of (goal.at.put-high-requires c).In-loop-i).key in
    (w.ensures.2, omega (arith, w.ensures.0, l.invariant.1.high.few, c.requires.1), ap (λ (x : List Spot). has k (keys x)) w.ensures.1 ∙ spot-gone k (held l.high))

pub loop-i-preserved-then-r-rank_key : goal.loop-i-preserved-then-r-rank_key
loop-i-preserved-then-r-rank_key c =
    let l = c.loop-i in
    let g = l.invariant.1 in
    let d = c.without-deletes in
    let i = c.without-inserts in
    let o = c.without-others in
    let h = c.put-high in
    let high : c.args.r ≤ rank_key (spot_of (goal.at.loop-i-preserved-then-r-rank_key c).In-loop-i).key = omega (arith, c.if-r-rank_key.true, c.rank_key.ensures) in (
      omega (arith, l.invariant.0),
      gathered-high l.points l.inserts l.deletes l.high l.low g (spot_of (goal.at.loop-i-preserved-then-r-rank_key c).In-loop-i) (omega (arith, l.invariant.0)) (turn (goal.at.loop-i-preserved-then-r-rank_key c).In-loop-i) d.result d.ensures.0 d.ensures.1 d.ensures.2
          i.result o.result h.result high i.ensures.0 i.ensures.1 i.ensures.2 o.ensures.0 o.ensures.1 h.ensures.0 h.ensures.1 h.ensures.2,
    )

pub put-low-requires : goal.put-low-requires
put-low-requires c =
    let l = c.loop-i in
    let w = c.without-others-else-r-rank_key in
    let k = (spot_of (goal.at.put-low-requires c).In-loop-i).key in
    (w.ensures.2, omega (arith, w.ensures.0, l.invariant.1.low.few, c.requires.1), ap (λ (x : List Spot). has k (keys x)) w.ensures.1 ∙ spot-gone k (held l.low))

pub loop-i-preserved : goal.loop-i-preserved
loop-i-preserved c =
    let l = c.loop-i in
    let g = l.invariant.1 in
    let d = c.without-deletes in
    let p = c.without-points in
    let o = c.without-others-else-r-rank_key in
    let w = c.put-low in
    let low : rank_key (spot_of (goal.at.loop-i-preserved c).In-loop-i).key < c.args.r = omega (arith, c.if-r-rank_key.false, c.rank_key.ensures) in (
      omega (arith, l.invariant.0),
      gathered-low l.points l.inserts l.deletes l.high l.low g (spot_of (goal.at.loop-i-preserved c).In-loop-i) (omega (arith, l.invariant.0)) (turn (goal.at.loop-i-preserved c).In-loop-i) d.result d.ensures.0 d.ensures.1 d.ensures.2
          p.result o.result w.result low p.ensures.0 p.ensures.1 p.ensures.2 o.ensures.0 o.ensures.1 w.ensures.0 w.ensures.1 w.ensures.2,
    )

pub bring_in-points-requires : goal.bring_in-points-requires
bring_in-points-requires c =
    let g = c.loop-i.invariant.1.high in
    (g.new, g.old, omega (arith, g.few, g.fits, c.requires.2))

pub bring_in-inserts-requires : goal.bring_in-inserts-requires
bring_in-inserts-requires c =
    let g = c.loop-i.invariant.1.low in
    (g.new, g.old, omega (arith, g.few, g.fits, c.requires.3))

pub returns : goal.returns
returns c =
    let l = c.loop-i in
    let a = c.args in
    let p = c.bring_in-points in
    let i = c.bring_in-inserts in
    let e : l.i ≡ 0 = omega arith in
    edited-same
    (gathered-all a.r a.n l.points l.inserts l.deletes l.high l.low p.result i.result l.invariant.1 p.ensures.0 p.ensures.1 p.ensures.2 i.ensures.0
    i.ensures.1 i.ensures.2)
    (omega arith) (omega arith) (omega arith) (ap (λ (j : ℕ). insert_all a.r (drop j (held a.batch)) (held_in a.n)) e)

pub offset_bounds-batch-i : goal.offset_bounds-batch-i
offset_bounds-batch-i c = omega (arith, c.loop-i.invariant.0)

pub bounds-batch-i : goal.bounds-batch-i
bounds-batch-i c = omega (arith, c.loop-i.invariant.0)

pub without-deletes-requires : goal.without-deletes-requires
without-deletes-requires c = c.loop-i.invariant.1.deletes

pub without-inserts-requires : goal.without-inserts-requires
without-inserts-requires c = c.loop-i.invariant.1.low.old

pub without-others-requires : goal.without-others-requires
without-others-requires c = c.loop-i.invariant.1.high.new

pub without-points-requires : goal.without-points-requires
without-points-requires c = c.loop-i.invariant.1.high.old

pub without-others-requires-else-r-rank_key : goal.without-others-requires-else-r-rank_key
without-others-requires-else-r-rank_key c = c.loop-i.invariant.1.low.new
