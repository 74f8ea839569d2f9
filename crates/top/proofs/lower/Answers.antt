-- `top::lower` meets its contract.
use mathlib.Core.List.{[]}
use mathlib.Core.Path.{sym, subst}
use Prim.Native.Nat.{◌-◌}
use Rattle.std.specs.Option.{unwrap_or}
use Rattle.top.specs.Rows.{Lowered}
use Rattle.top.proofs.Heaps.{lowered_none, lowered-some}
use Rattle.top.proofs.lower.Goals as goal

pub returns-in_default : goal.returns-in_default
returns-in_default c =
    let a = c.args in
    subst (λ o. Lowered a.h.now a.m (unwrap_or o []) c.pop_top.new.h (a.m - 1)) (sym c.in_default.is) (lowered_none a.h.now a.m c.requires.0 c.pop_top.ensures)

pub returns : goal.returns
returns c =
    let a = c.args in
    let two = rw c.in-Some.is at c.well_formed.1.1.0 in
    subst (λ o. Lowered a.h.now a.m (unwrap_or o []) c.replace_top.new.h a.m) (sym c.in-Some.is) (lowered-some a.h.now a.m two.1.1.1.1.0.1.0.1 c.requires.0 c.replace_top.ensures)
