-- `plan::nearer` meets its contract.
use Rattle.plan.proofs.Reading.{nearer-least}
use Rattle.plan.proofs.nearer.Goals as goal

pub returns-then-floor-r : goal.returns-then-floor-r
returns-then-floor-r c =
    let a = c.args in
    rw c.min.ensures (nearer-least a.best a.r a.floor c.if-floor-r.true)
