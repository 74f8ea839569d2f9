-- `verdict::one_less` meets its contract: by whether there is one.
use Rattle.verdict.proofs.Steps.{less_none, less_one}
use native.Mathlib.Omega.{arith}
use Rattle.verdict.proofs.one_less.Goals as goal

pub returns-then-live-eq0 : goal.returns-then-live-eq0
returns-then-live-eq0 c = less_none _ c.if-live-eq0.true

pub returns : goal.returns
returns c = less_one _ _ (omega (arith, c.if-live-eq0.false))
