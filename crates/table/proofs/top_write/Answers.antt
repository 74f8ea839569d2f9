-- `table::top_write` meets its contract.
use mathlib.Core.Path.{ap}
use Rattle.table.specs.TopSizes.{is_all}
use Rattle.table.proofs.Writing.{run-written}
use Rattle.top.proofs.Sweeps.{zeroed}
use Rattle.table.proofs.top_write.Goals as goal

pub top_all-requires : goal.top_all-requires
top_all-requires c =
    let p = c.requires in
    (p.0, p.1 (ap is_all c.in-All.is))

pub returns-in-All : goal.returns-in-All
returns-in-All c = record { ends = λ x1 x2 a d. c.top_all.ensures.ends x1 x2 a }

pub top_run-requires : goal.top_run-requires
top_run-requires c =
    let p = c.requires.0 in
    record {
      x1 = p.x1;
      x2 = p.x2;
      asks = p.asks;
      sized = p.sized;
      clear = zeroed c.args.read.now p.mapped c.zero.ensures;
      some = p.some;
      fits = p.fits;
    }

pub returns : goal.returns
returns c =
    let a = c.args in
    run-written a.table.now a.q a.k a.n a.output.now _ _ _ c.top_run.ensures
