-- `within::deliver` meets its contract: the spots are copied, or searched for again.
use Rattle.within.proofs.Delivering.{few-delivered, wide-delivered}
use Rattle.top.proofs.Sweeps.{zeroed}
use Rattle.within.proofs.deliver.Goals as goal

pub returns-then-n-le512 : goal.returns-then-n-le512
returns-then-n-le512 c =
    let a = c.args in
    few-delivered a.table.now a.q a.k a.most a.n a.read.now a.few.now a.output.now c.requires c.if-n-le512.true _ c.copy.ensures

pub run_within-requires : goal.run_within-requires
run_within-requires c =
    let p = c.requires in (
      record {
        x1 = p.x1;
        x2 = p.x2;
        asks = p.asks;
        sized = p.sized;
        clear = zeroed c.args.read.now p.mapped c.zero.ensures;
        some = p.some;
        fits = p.fits;
      },
      p.allowed,
    )

pub returns : goal.returns
returns c =
    let a = c.args in
    wide-delivered a.table.now a.q a.k a.most a.n a.read.now a.few.now a.output.now c.requires _ _ _ c.run_within.ensures
