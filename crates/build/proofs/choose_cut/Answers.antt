-- `build::choose_cut` meets its contract: a cut that fits, or one found by halving.
use Rattle.build.proofs.choose_cut.Goals as goal

pub returns-then-cut_fits : goal.returns-then-cut_fits
returns-then-cut_fits c = c.cut_fits.ensures c.if-cut_fits.true
