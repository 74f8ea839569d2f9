-- `top::run_in` meets its contract: the search with N slots.
use Rattle.top.proofs.Sweeps.{look-ready}
use Rattle.top.proofs.run_in.Goals as goal

pub look-requires : goal.look-requires
look-requires g c =
    let p = c.requires in
    look-ready g.row.N p.2 p.3 (p.0, p.1)
