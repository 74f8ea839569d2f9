-- `fill::without_deletes` meets its contract.
use native.Mathlib.Omega.{arith}
use mathlib.Core.Path.{refl, ap}
use Rattle.octets.specs.Lists.{rising}
use Rattle.edit.proofs.Buffered.{same-held}
use Rattle.fill.proofs.without_deletes.Goals as goal

pub returns : goal.returns
returns c =
    let d = c.empty.ensures in
    record {
      holds = same-held refl refl d.1;
      tidy = record { points = c.requires.points; inserts = c.requires.inserts; deletes = record { fits = omega (arith, d.0); up = ap rising d.1 } };
      entries = refl;
      level = refl;
      points = omega arith;
      inserts = omega arith;
      deletes = omega (arith, d.0);
    }
