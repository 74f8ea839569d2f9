-- `catalogue::size_ok` meets its contract: by the test.
use mathlib.Core.Path.{refl}
use Prim.Native.Nat.{◌/◌}
use borrow.Author.Tests.{eq-eqb, ne_eqb}
use Rattle.catalogue.specs.Catalogue.{size_fine}
use Rattle.catalogue.proofs.size_ok.Goals as goal

pub returns-then-b-m : goal.returns-then-b-m
unfolding size_fine
returns-then-b-m c = let a = c.args in rw (eq-eqb a.b (a.m / 2) c.if-b-m.true) refl

pub returns : goal.returns
unfolding size_fine
returns c = let a = c.args in rw (ne_eqb a.b (a.m / 2) c.if-b-m.false) refl
