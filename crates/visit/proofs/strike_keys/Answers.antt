-- `visit::strike_keys` meets its contract, key after key; where the keys rise, no spot passed has a later one.
use mathlib.Core.Logic.{⊎_elim}
use mathlib.Core.Path.{refl, subst}
use Prim.Native.Nat.{ℕ}
use native.Mathlib.Omega.{arith}
use mathlib.Core.List.{List}
use lib.Seq.{take_all}
use lib.ListN.{get_or, take}
use Rattle.visit.specs.Visit.{Struck, keys_from}
use Rattle.visit.proofs.Marking.{struck-more, struck-first}
use Rattle.visit.proofs.Search.{below-rises}
use Rattle.visit.proofs.strike_keys.Goals as goal

pub loop-k-init : goal.loop-k-init
loop-k-init c =
    let a = c.args in
    (struck-first a.t.now a.at a.n (take a.c a.ws.now) a.m.now, omega arith)

pub strike_key-i-requires : goal.strike_key-i-requires
strike_key-i-requires c =
    let a = c.args in
    let p = c.requires in
    let l = c.loop-k in (
      p.0,
      omega (arith, p.1, l.invariant.0.sized),
      ⊎_elim (λ e. omega arith) (λ e. omega (arith, e.0, l.invariant.1, below-rises l.prev (get_or (take a.c a.ws.now) l.k-index 0) (keys_from a.t.now 12 a.n a.at) e.1)) c.restart-a.ensures,
    )

pub loop-k-preserved : goal.loop-k-preserved
loop-k-preserved c =
    let a = c.args in
    let l = c.loop-k in
    let v = c.strike_key-i.ensures in
    (struck-more a.t.now a.at a.n (take a.c a.ws.now) l.k-index (omega arith) refl l.invariant.0 v.1, omega (arith, v.0))

pub returns : goal.returns
returns c =
    let a = c.args in
    let l = c.loop-k in
    subst (λ (ks : List ℕ). Struck a.t.now a.at a.n ks a.m.now l.m) (take_all l.k-index (take a.c a.ws.now) (omega arith)) l.invariant.0
