-- `change::over` meets its contract.
use mathlib.Core.Path.{refl, ap}
use mathlib.Core.List.{List}
use native.Mathlib.Omega.{arith}
use Rattle.octets.specs.Lists.{rising}
use Rattle.edit.proofs.Buffered.{same-held}
use Rattle.spot.specs.Spots.{keys}
use Rattle.spot.specs.declared.Spot.{Spot}
use Rattle.change.proofs.over.Goals as goal

pub returns : goal.returns
returns c =
    let p = c.empty-points.ensures in
    let i = c.empty-inserts.ensures in
    let d = c.empty-deletes.ensures in
    record {
      level = refl;
      count = refl;
      entries = refl;
      holds = same-held p.1 i.1 d.1;
      tidy = record {
        points = record { fits = omega (arith, p.0); up = ap (λ (ss : List Spot). rising (keys ss)) p.1 };
        inserts = record { fits = omega (arith, i.0); up = ap (λ (ss : List Spot). rising (keys ss)) i.1 };
        deletes = record { fits = omega (arith, d.0); up = ap rising d.1 };
      };
      points = p.0;
      inserts = i.0;
      deletes = d.0;
    }
