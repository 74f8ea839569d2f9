-- `edit::insert_one` meets its contract.
use mathlib.Core.Path.{refl, ap, ◌∙◌}
use mathlib.Core.List.{List}
use Prim.Native.Nat.{◌≤◌, ◌<◌}
use native.Mathlib.Omega.{arith}
use Rattle.octets.specs.Lists.{has}
use Rattle.spot.specs.declared.Spot.{Spot}
use Rattle.spot.specs.Keys.{rank_key}
use Rattle.spot.specs.Spots.{keys}
use Rattle.buffer.specs.Buffer.{held}
use Rattle.edit.specs.Edits.{held_in}
use Rattle.edit.proofs.Buffered.{spot-gone, inserted-high, inserted-low}
use Rattle.edit.proofs.insert_one.Goals as goal

pub put-points-requires : goal.put-points-requires
put-points-requires c =
    let w = c.without-points in
    let k = c.args.s.key in
    (w.ensures.2, omega arith, ap (λ (l : List Spot). has k (keys l)) w.ensures.1 ∙ spot-gone k (held c.args.n.points))

pub returns-then-r-rank_key : goal.returns-then-r-rank_key
returns-then-r-rank_key c =
    let p = c.without-points.ensures in
    let i = c.without-inserts.ensures in
    let d = c.without-deletes.ensures in
    let q = c.put-points.ensures in
    let h : c.args.r ≤ rank_key c.args.s.key = omega arith in
    record {
      holds = inserted-high c.args.r c.args.s (held_in c.args.n) h p.1 q.1 i.1 d.1;
      tidy = record { points = q.2; inserts = i.2; deletes = d.2 };
      entries = refl;
      level = refl;
      points = omega (arith, q.0, p.0);
      inserts = omega (arith, i.0);
      deletes = d.0;
    }

pub put-inserts-requires : goal.put-inserts-requires
put-inserts-requires c =
    let w = c.without-inserts in
    let k = c.args.s.key in
    (w.ensures.2, omega arith, ap (λ (l : List Spot). has k (keys l)) w.ensures.1 ∙ spot-gone k (held c.args.n.inserts))

pub returns : goal.returns
returns c =
    let p = c.without-points.ensures in
    let i = c.without-inserts.ensures in
    let d = c.without-deletes.ensures in
    let q = c.put-inserts.ensures in
    let h : rank_key c.args.s.key < c.args.r = omega arith in
    record {
      holds = inserted-low c.args.r c.args.s (held_in c.args.n) h p.1 i.1 q.1 d.1;
      tidy = record { points = p.2; inserts = q.2; deletes = d.2 };
      entries = refl;
      level = refl;
      points = omega (arith, p.0);
      inserts = omega (arith, q.0, i.0);
      deletes = d.0;
    }
