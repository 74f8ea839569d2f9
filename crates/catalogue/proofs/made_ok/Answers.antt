-- `catalogue::made_ok` meets its contract: by the test.
use mathlib.Core.Path.{refl}
use Prim.Native.Nat.{◌/◌}
use borrow.Author.Tests.{le-leb, lt-leb}
use Rattle.catalogue.specs.Catalogue.{made_fine}
use Rattle.catalogue.proofs.made_ok.Goals as goal

pub returns-then-b-m : goal.returns-then-b-m
unfolding made_fine
returns-then-b-m c = let a = c.args in rw (le-leb a.b (a.m / 2) c.if-b-m.true) refl

pub returns : goal.returns
unfolding made_fine
returns c = let a = c.args in rw (lt-leb a.b (a.m / 2) c.if-b-m.false) c.limited_key.ensures
