-- `top::top_run` meets its contract: no table has so many blocks.
use native.Mathlib.Omega.{arith}
use Rattle.top.proofs.Sweeps.{run-top}
use Rattle.top.proofs.top_run.Goals as goal

pub returns : goal.returns
returns c = run-top (omega arith) c.run_within.ensures
