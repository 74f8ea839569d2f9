-- `top::join` meets its contract: the slot's row is written, its best spot and its best child hang in the heaps.
use mathlib.Core.List.{[], ◌∷◌}
use mathlib.Core.Path.{refl}
use Prim.Native.Nat.{◌+◌}
use native.Mathlib.Omega.{arith}
use lib.ListN.{set}
use Rattle.frontier.proofs.Chains.{hangs-valid}
use Rattle.frontier.proofs.Spots.{spots-most}
use Rattle.frontier.proofs.Ladders.{laddered-small}
use Rattle.frontier.specs.Frontier.{Hangs}
use Rattle.top.proofs.Heaps.{hung-as}
use Rattle.top.proofs.join.Goals as goal

pub head_row-head-requires : goal.head_row-head-requires
head_row-head-requires c =
    let a = c.args in
    let p = c.requires in
    let h : Hangs a.t.now (set a.rows.now a.z.slots (a.place.block ∷ a.up ∷ [])) a.z.slots = record { n = a.z.slots + 1; inside = omega arith; chain = p.chain } in
    let v = hangs-valid h in
    record { few = p.few; low = λ e. omega (arith, c.first_pick-best.ensures.index e, spots-most _ _ v); small = λ e. laddered-small v (c.first_pick-best.ensures.more e) }

pub returns : goal.returns
returns c =
    let at-best = c.first_pick-best in
    let at-kid = c.best_kid-kid in
    record {
      slots = refl;
      rowed = refl;
      pick = at-best.result;
      picked = at-best.ensures;
      headed = hung-as c.head_row-head.ensures c.hang-spots.ensures;
      kid = at-kid.result;
      best = at-kid.ensures;
      hung = hung-as c.kid_row-row.ensures c.hang-unread.ensures;
    }
