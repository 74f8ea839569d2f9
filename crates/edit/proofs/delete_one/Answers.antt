-- `edit::delete_one` meets its contract.
use mathlib.Core.Path.{refl, ap, ◌∙◌}
use Prim.Native.Nat.{◌≤◌, ◌<◌}
use native.Mathlib.Omega.{arith}
use Rattle.octets.specs.Lists.{has}
use Rattle.spot.specs.Keys.{rank_key}
use Rattle.buffer.specs.Buffer.{named}
use Rattle.edit.specs.Edits.{held_in}
use Rattle.edit.proofs.Buffered.{key-gone, deleted-high, deleted-low}
use Rattle.edit.proofs.delete_one.Goals as goal

pub put-deletes-requires : goal.put-deletes-requires
put-deletes-requires c =
    let w = c.without-deletes in
    let k = c.args.k in
    (w.ensures.2, omega arith, ap (has k) w.ensures.1 ∙ key-gone k (named c.args.n.deletes))

pub returns-then-rank_key-r : goal.returns-then-rank_key-r
returns-then-rank_key-r c =
    let p = c.without-points.ensures in
    let i = c.without-inserts.ensures in
    let d = c.without-deletes.ensures in
    let q = c.put-deletes.ensures in
    let h : rank_key c.args.k < c.args.r = omega arith in
    record {
      holds = deleted-low c.args.r c.args.k (held_in c.args.n) h p.1 i.1 d.1 q.1;
      tidy = record { points = p.2; inserts = i.2; deletes = q.2 };
      entries = refl;
      level = refl;
      points = p.0;
      inserts = i.0;
      deletes = omega (arith, q.0, d.0);
    }

pub returns : goal.returns
returns c =
    let p = c.without-points.ensures in
    let i = c.without-inserts.ensures in
    let d = c.without-deletes.ensures in
    let h : c.args.r ≤ rank_key c.args.k = omega arith in
    record {
      holds = deleted-high c.args.r c.args.k (held_in c.args.n) h p.1 i.1 d.1;
      tidy = record { points = p.2; inserts = i.2; deletes = d.2 };
      entries = refl;
      level = refl;
      points = p.0;
      inserts = i.0;
      deletes = omega (arith, d.0);
    }
