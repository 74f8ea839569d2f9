-- `batch::spill_inner` meets its contract.
use mathlib.Core.Path.{refl}
use Rattle.batch.proofs.spill_inner.Goals as goal

pub returns-then-n-eq0 : goal.returns-then-n-eq0
returns-then-n-eq0 c = record { leaf = λ e. refl; inner = λ z. absurd (z c.if-n-eq0.true) }

pub returns : goal.returns
returns c = record { leaf = λ e. absurd (c.if-n-eq0.false e); inner = λ z. c.spill.ensures }
