-- `visit::keep_keys` meets its contract, key after key.
use mathlib.Core.Path.{refl, subst}
use Prim.Native.Nat.{ℕ}
use Rattle.std.specs.Prelude.{Some}
use native.Mathlib.Omega.{arith}
use mathlib.Core.List.{List}
use lib.Seq.{take_all}
use lib.ListN.{take}
use Rattle.visit.specs.Visit.{KeysKept}
use Rattle.visit.proofs.Gathering.{kept-none, kept_more, kept_full}
use Rattle.visit.proofs.keep_keys.Goals as goal

pub loop-k-init : goal.loop-k-init
loop-k-init c =
    let a = c.args in
    kept-none a.lo a.last a.c a.list.now (omega (arith, c.requires.1, c.requires.2))

pub returns-then-l-ge64 : goal.returns-then-l-ge64
returns-then-l-ge64 c =
    let a = c.args in
    kept_full (take a.n a.ws.now) a.lo a.last a.c c.loop-k.invariant.sized

pub loop-k-preserved : goal.loop-k-preserved
loop-k-preserved c =
    let a = c.args in
    let l = c.loop-k in
    kept_more (take a.n a.ws.now) a.lo a.last a.c l.k-index (omega arith) refl l.invariant c.keep_key-l.ensures.0

pub returns : goal.returns
returns c =
    let a = c.args in
    let l = c.loop-k in
    subst (λ (ks : List ℕ). KeysKept ks a.lo a.last a.c a.list.now l.list (Some l.l)) (take_all l.k-index (take a.n a.ws.now) (omega arith)) l.invariant
