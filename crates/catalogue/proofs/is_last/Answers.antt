-- `catalogue::is_last` meets its contract.
use mathlib.Core.Path.{sym}
use Prim.Native.Nat.{suc, ◌-◌}
use native.Mathlib.Omega.{arith}
use borrow.Author.Tests.{ne_eqb}
use Rattle.octets.proofs.Order.{eqb_same}
use Rattle.catalogue.proofs.is_last.Goals as goal

pub returns-then-m-b : goal.returns-then-m-b
returns-then-m-b c = let a = c.args in sym (ne_eqb (suc a.b) a.m (λ e. omega arith))

pub returns : goal.returns
returns c = let a = c.args in eqb_same (a.m - a.b) 1 (suc a.b) a.m (λ e. omega arith) (λ e. omega arith)
