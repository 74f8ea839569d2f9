-- `visit::restart` meets its contract: from the front, or from where a key that is not above stands.
use mathlib.Core.Path.{refl}
use mathlib.Core.Logic.{inl, inr}
use native.Mathlib.Omega.{arith}
use Rattle.visit.proofs.restart.Goals as goal

pub returns-then-k-prev : goal.returns-then-k-prev
returns-then-k-prev c = inl refl

pub returns : goal.returns
returns c = inr (refl, omega arith)
