-- What the proofs show of every sweep, together.
-- Assumes nothing.
use mathlib.Core.List.{List}
use Rattle.spot.specs.Query.{least_of}
use Rattle.spot.specs.declared.Spot.{Spot}
use Rattle.sweep.specs.Pressed.{Pressable}
use Rattle.sweep.specs.Laws.{SweepLaws}
use Rattle.sweep.proofs.Covers.{stood}
use Rattle.sweep.proofs.Tiles.{tile-at, inside}
use Rattle.sweep.proofs.Found.{found}
use Rattle.sweep.proofs.Counts.{sizes}
use Rattle.sweep.proofs.Bound.{few}
use Rattle.sweep.proofs.Joined.{fused}

pub swept : (ss : List Spot) → Pressable ss → SweepLaws ss
swept ss g =
    record {
      sizes = sizes ss g;
      tile = tile-at ss g;
      fused = fused ss g;
      inside = inside ss g;
      stood = stood ss g;
      enough = λ q. record { found = found q ss g; few = few q ss g (stood ss g (least_of q)) };
    }
