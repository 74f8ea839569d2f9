-- `catalogue::span_ok` meets its contract: by the test.
use mathlib.Core.Path.{refl}
use borrow.Author.Tests.{eq-eqb, ne_eqb}
use Rattle.catalogue.specs.Catalogue.{span_fine}
use Rattle.catalogue.proofs.span_ok.Goals as goal

pub returns-then-n-eq1 : goal.returns-then-n-eq1
unfolding span_fine
returns-then-n-eq1 c = let a = c.args in rw (eq-eqb a.n 1 c.if-n-eq1.true) refl

pub returns : goal.returns
unfolding span_fine
returns c = let a = c.args in rw (ne_eqb a.n 1 c.if-n-eq1.false) refl
