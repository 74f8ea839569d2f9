-- `catalogue::standing` meets its contract: of a key of 64 bits, the rank is the lower half.
use native.Mathlib.Omega.{arith}
use Rattle.catalogue.proofs.Making.{stands-made}
use Rattle.catalogue.proofs.standing.Goals as goal

pub returns : goal.returns
returns c =
    let a = c.args in
    stands-made a.q a.m a.b a.e c.least_of-least.ensures c.is_last.ensures (omega arith) (omega arith)
