-- `fill::without_point` meets its contract.
use native.Mathlib.Omega.{arith}
use mathlib.Core.Path.{refl}
use Rattle.edit.proofs.Buffered.{same-held}
use Rattle.fill.proofs.without_point.Goals as goal

pub returns : goal.returns
returns c =
    let p = c.without.ensures in
    record {
      holds = same-held p.1 refl refl;
      tidy = record { points = p.2; inserts = c.requires.inserts; deletes = c.requires.deletes };
      entries = refl;
      level = refl;
      points = p.0;
      inserts = omega arith;
      deletes = omega arith;
    }
