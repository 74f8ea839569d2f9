-- `table::rebuild` meets its contract, by that of `renew::anew`; then the scratch is cleared.
use Rattle.table.proofs.Rebuilding.{rebuild-short, rebuild-lent, rebuild-broken, rebuild-done}
use lib.ListN.{length}
use Prim.Native.Nat.{◌≤◌, ◌<◌}
use mathlib.Core.Path.{refl, sym, ◌∙◌}
use native.Mathlib.Omega.{arith}
use Rattle.table.proofs.rebuild.Goals as goal

pub returns-then-not-sized : goal.returns-then-not-sized
returns-then-not-sized c = rebuild-short _ _ _ (sym c.sized.ensures ∙ c.if-not-sized.true) refl

pub returns-then-scratch-n : goal.returns-then-scratch-n
returns-then-scratch-n c =
    let short : length c.args.scratch.now < length c.args.table.now = omega arith in
    rebuild-lent _ _ _ (sym c.sized.ensures ∙ c.if-not-sized.false) short refl

pub anew-ok-requires : goal.anew-ok-requires
anew-ok-requires c = (sym c.sized.ensures ∙ c.if-not-sized.false, omega arith)

pub zero-requires : goal.zero-requires
zero-requires c = omega (arith, c.anew-ok.ensures.lent)

pub returns-then-not-ok : goal.returns-then-not-ok
returns-then-not-ok c =
    let long : length c.args.table.now ≤ length c.args.scratch.now = omega arith in
    rebuild-broken _ _ _ _ _ _ _ (sym c.sized.ensures ∙ c.if-not-sized.false) long c.anew-ok.ensures c.zero.ensures c.if-not-ok.true refl

pub returns : goal.returns
returns c =
    let long : length c.args.table.now ≤ length c.args.scratch.now = omega arith in
    rebuild-done _ _ _ _ _ _ _ (sym c.sized.ensures ∙ c.if-not-sized.false) long c.anew-ok.ensures c.zero.ensures c.if-not-ok.false refl
