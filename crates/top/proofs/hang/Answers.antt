-- `top::hang` meets its contract.
use mathlib.Core.List.{[]}
use mathlib.Core.Path.{sym, subst}
use Prim.Native.Nat.{◌+◌}
use Rattle.std.specs.Option.{unwrap_or}
use Rattle.top.specs.Rows.{Hung}
use Rattle.top.proofs.Heaps.{hung-none, hung-some}
use Rattle.top.proofs.hang.Goals as goal

pub returns-in_default : goal.returns-in_default
returns-in_default c = let a = c.args in subst (λ o. Hung a.h.now a.m (unwrap_or o []) a.h.now a.m) (sym c.in_default.is) (hung-none a.h.now a.m)

pub returns : goal.returns
returns c =
    let a = c.args in
    let two = rw c.in-Some.is at c.well_formed.1.1.0 in
    subst (λ o. Hung a.h.now a.m (unwrap_or o []) c.push.new.h (a.m + 1)) (sym c.in-Some.is) (hung-some a.h.now a.m two.1.1.1.1.0.1.0.1 c.requires.0 c.push.ensures)
