-- `edit::raise_child` meets its contract.
use mathlib.Core.Path.{refl}
use native.Mathlib.Omega.{arith}
use Rattle.edit.proofs.Buffered.{same-held}
use Rattle.edit.proofs.raise_child.Goals as goal

pub returns : goal.returns
returns c =
    let p = c.put-points.ensures in
    let d = c.keys_under-deletes.ensures in
    record {
      holds = same-held p.1 refl d.1;
      tidy = record { points = p.2; inserts = c.requires.0.inserts; deletes = d.2 };
      entries = refl;
      level = refl;
      points = omega (arith, p.0);
      inserts = omega arith;
      deletes = d.0;
    }
