-- `edit::raise_insert` meets its contract.
use mathlib.Core.Path.{refl}
use native.Mathlib.Omega.{arith}
use Rattle.edit.proofs.Buffered.{same-held}
use Rattle.edit.proofs.raise_insert.Goals as goal

pub returns : goal.returns
returns c =
    let p = c.put-points.ensures in
    let i = c.without-inserts.ensures in
    let d = c.keys_under-deletes.ensures in
    record {
      holds = same-held p.1 i.1 d.1;
      tidy = record { points = p.2; inserts = i.2; deletes = d.2 };
      entries = refl;
      level = refl;
      points = omega (arith, p.0);
      inserts = i.0;
      deletes = d.0;
    }
