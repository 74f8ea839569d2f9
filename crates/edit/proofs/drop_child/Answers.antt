-- `edit::drop_child` meets its contract.
use mathlib.Core.Path.{refl}
use native.Mathlib.Omega.{arith}
use Rattle.edit.proofs.Buffered.{same-held}
use Rattle.edit.proofs.drop_child.Goals as goal

pub returns : goal.returns
returns c =
    let d = c.keys_under-deletes.ensures in
    record {
      holds = same-held refl refl d.1;
      tidy = record { points = c.requires.points; inserts = c.requires.inserts; deletes = d.2 };
      entries = refl;
      level = refl;
      points = omega arith;
      inserts = omega arith;
      deletes = d.0;
    }
