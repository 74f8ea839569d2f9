-- `batch::upper_leaf` meets its contract.
use mathlib.Core.Path.{refl}
use Rattle.edit.proofs.Buffered.{same-held}
use Rattle.batch.proofs.Middle.{right-bare, right-count}
use Rattle.batch.proofs.upper_leaf.Goals as goal

pub returns : goal.returns
returns c =
    let es = c.args.n.entries in
    let p = c.from_key-points.ensures in
    let i = c.from_key-inserts.ensures in
    let d = c.from_key-deletes.ensures in
    record {
      holds = same-held p.1 i.1 d.1;
      tidy = record { points = p.2; inserts = i.2; deletes = d.2 };
      entries = right-bare es.list es.n c.requires.1;
      count = right-count es.list es.n c.requires.1;
      level = refl;
      points = p.0;
      inserts = i.0;
      deletes = d.0;
    }
