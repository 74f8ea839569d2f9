-- `visit::placed_marks` meets its contract: in a run that rises the spots of the query's places stand together.
use Rattle.visit.proofs.Marking.{placed-wanted}
use Rattle.visit.proofs.placed_marks.Goals as goal

pub returns : goal.returns
returns c =
    let a = c.args in
    placed-wanted a.t.now a.at a.n a.q c.requires.0.rise c.requires.1 c.requires.2 c.from_key.ensures c.last_key.ensures c.below-a.ensures.0
    c.through-e.ensures c.range_marks.ensures
