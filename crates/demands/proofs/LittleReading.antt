-- Request 2026-09 on any sound table, from the promise of Top alone.
-- Assumes nothing.
use mathlib.Core.Bool.{◌&&◌}
use mathlib.Core.Path.{refl}
use Rattle.octets.proofs.Tests.{and_left}
use Rattle.spot.specs.Keys.{signed32, unsigned32}
use Rattle.table.specs.Calls.{top, arguments_fit}
use Rattle.demands.specs.Demands.{LittleReading}
use Rattle.demands.proofs.Plain.{two-fit}
use Rattle.demands.proofs.OnSound.{second-on-sound}
use Rattle.demands.proofs.Demand2.{top-little}

pub little-reading : LittleReading
unfolding arguments_fit
little-reading =
    record {
      marks = λ x1 x2 k t out map r out'' map' h p z given d.
          let f = two-fit x1 x2 (and_left (signed32 x1 && signed32 x2) (unsigned32 k) h.arguments) in
          top-little t h.table x1 x2 f.0 f.1 k out map r out'' map' p z given d;
      second = λ x1 x2 k. second-on-sound (top x1 x2 k) refl;
    }
