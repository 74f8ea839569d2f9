-- `build::cut_fits` meets its contract: where some are taken the cut lies under the limit.
use mathlib.Core.Path.{sym}
use mathlib.Core.Bool.{true≢false}
use borrow.Author.Tests.{leb-true}
use Rattle.build.proofs.Bands.{cut_all, cut-some}
use Rattle.build.proofs.cut_fits.Goals as goal

pub returns-then-cut-eq0 : goal.returns-then-cut-eq0
returns-then-cut-eq0 c = λ e. cut_all _ _ _ _ c.requires c.if-cut-eq0.true c.count_band-taken.ensures.0 c.if-taken-gt-POINTS_MOST.false

pub returns : goal.returns
returns c = λ e. cut-some _ _ _ _ c.requires c.count_band-taken.ensures.0 c.if-taken-gt-POINTS_MOST.false (leb-true 32 c.count_band-taken.result e)

pub returns-then-taken-gt-POINTS_MOST : goal.returns-then-taken-gt-POINTS_MOST
returns-then-taken-gt-POINTS_MOST c = λ e. absurd (true≢false (sym e))
