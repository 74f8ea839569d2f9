-- `build::likely_cut` meets its contract: it reads and writes inside the list and the 48.
use mathlib.Core.Path.{ap, ◌∙◌}
use lib.ListN.{length}
use native.Mathlib.Omega.{arith}
use Rattle.build.proofs.Segments.{segment-limited}
use Rattle.build.proofs.likely_cut.Goals as goal
use Rattle.build.proofs.likely_cut.Goals.{then-in_band, else-in_band}

pub read_key-k-requires : goal.read_key-k-requires
read_key-k-requires c =
    (omega arith, segment-limited c.args.list.now c.args.from c.args.n c.loop-i.i c.requires (omega arith))

pub loop-i-preserved : goal.loop-i-preserved
loop-i-preserved c = (
  elim c.if-in_band.branch [
    | then-in_band w ↦ omega arith
    | else-in_band w ↦ omega arith
  ],
  elim c.if-in_band.branch [
    | then-in_band w ↦ ap (λ l. length l) w.top-is ∙ w.admit.ensures
    | else-in_band w ↦ ap (λ l. length l) w.top-is ∙ c.loop-i.invariant.1
  ],
)
