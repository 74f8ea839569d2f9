-- `visit::wanted_each` meets its contract: the first i spots are marked after i turns.
use native.Mathlib.Omega.{arith}
use mathlib.Core.Path.{◌≡◌, subst}
use Prim.Native.Nat.{ℕ, ◌+◌, ◌*◌}
use Rattle.spot.proofs.Signed.{Fits}
use Rattle.spot.specs.Spots.{key_at}
use Rattle.spot.proofs.Card.{key_at-lt}
use Rattle.visit.proofs.Search.{key_reads}
use Rattle.spot.proofs.Orders.{key-wants}
use Rattle.visit.proofs.Marking.{wanted-none, wanted-more}
use Rattle.visit.specs.Visit.{Wanted}
use Rattle.visit.proofs.wanted_each.Goals as goal

pub loop-i-init : goal.loop-i-init
loop-i-init c = (omega arith, wanted-none c.args.t.now c.args.at c.args.q)

pub read_place-place-requires : goal.read_place-place-requires
read_place-place-requires c = key_reads c.requires.0 c.loop-i.i (omega arith)

pub bounds-m-i : goal.bounds-m-i
bounds-m-i c = omega (arith, c.loop-i.invariant.1.sized)

pub loop-i-preserved : goal.loop-i-preserved
loop-i-preserved c =
    let told = c.struct_told-in-loop-i-2-1.given in
    let rank = c.read_rank-rank in
    let place = c.read_place-place in
    let l = c.loop-i in
    let s = c.args in
    let fits1 : Fits s.q.x1 = record { sfits = told.0.1 } in
    let fits2 : Fits s.q.x2 = record { sfits = told.1.0.1 } in
    let fitsy : Fits s.q.y = record { sfits = told.1.1.0.1 } in (
      omega arith,
      wanted-more s.t.now s.at s.q l.i l.invariant.1 (omega arith)
          (key-wants s.q (key_at s.t.now (s.at + 12 * l.i)) fits1 fits2 fitsy c.requires.1
          (key_at-lt s.t.now (s.at + 12 * l.i)) place.result rank.result
          (record { sfits = place.type_inv }) (record { sfits = rank.type_inv }) place.ensures.0 rank.ensures c.wanted.ensures),
    )

pub returns : goal.returns
returns c =
    let l = c.loop-i in
    let s = c.args in
    let e : l.i ≡ s.n = omega arith in
    subst (λ (j : ℕ). Wanted s.t.now s.at j s.q l.m) e l.invariant.1
