-- A plan and the sweep so far: what a plan says of the blocks made, of those that stand, and of what ended the others.
-- Assumes nothing.
use mathlib.Core.Path.{◌≡◌, ap, subst, ◌∙◌}
use mathlib.Core.Logic.{⊎_elim}
use mathlib.Core.Bool.{false}
use mathlib.Core.List.{List, ◌++◌, Memᴰ}
use Prim.Native.Nat.{ℕ, suc, ◌+◌, ◌≤◌, ◌<◌}
use native.Mathlib.Omega.{arith}
use lib.ListN.{length, take, get_or}
use lib.Seq.{get_or-take, length-take-le}
use Rattle.octets.proofs.Order.{less-or-not}
use Rattle.octets.proofs.Lists.{at_mem}
use Rattle.octets.proofs.Once.{Once}
use Rattle.spot.specs.declared.Spot.{Spot}
use Rattle.sweep.specs.Sweep.{StandingBlock, Fusion, cuts_for, at_first, fusion_at, fused_at}
use Rattle.sweep.specs.Pressed.{ended_by}
use Rattle.sweep.specs.Laws.{consumed}
use Rattle.plan.specs.Plans.{PieceFits, no_piece}
use Rattle.plan.specs.declared.Plan.{Plan}
use Rattle.plan.proofs.Blocks.{blocks_from, place_blocks, fused_blocks}
use Rattle.plan.proofs.Standings.{stand_of, stands_of, stands_at, stands-length}
use Rattle.plan.proofs.Neighbours.{Runs}

abbrev pub order_of : Plan → List ℕ
order_of p = take p.stands p.order

abbrev pub stands_in : List Spot → Plan → List StandingBlock
stands_in ss p = stands_of ss p.pieces (order_of p)

-- every rank key under floor is passed, and fs are the fusions so far
pub record Sweeping (ss : List Spot) (floor : ℕ) (fs : List Fusion) (p : Plan) : Type 0 where
  pub count : p.count ≡ cuts_for (length ss) + length fs
  pub stands : p.stands + length fs ≡ cuts_for (length ss)
  pub some : 0 < cuts_for (length ss) → 0 < p.stands
  pub sized : length p.pieces ≡ 16
  pub room : length p.order ≡ 8
  -- the blocks made, and whose passing ended them
  pub blocks : blocks_from ss 1 (take p.count p.pieces) ≡ place_blocks (at_first ss) ++ fused_blocks fs
  pub ended : (i : ℕ) → i < p.count → (get_or p.pieces i no_piece).ended ≡ ended_by (suc i) fs
  pub fresh : (k : ℕ) → p.count < k → consumed k fs ≡ false
  pub low : (i : ℕ) → i < p.count → (get_or p.pieces i no_piece).floor ≤ floor
  pub fits : (i : ℕ) → i < p.count → PieceFits ss (get_or p.pieces i no_piece)
  -- those that stand
  pub made : (a : ℕ) → Memᴰ a (order_of p) → a < p.count
  pub whole : (a : ℕ) → Memᴰ a (order_of p) → consumed (suc a) fs ≡ false
  pub once : Once (order_of p)
  pub runs : Runs p.pieces 0 (order_of p)

-- the passing of p has taken a plan to the next one
pub record Passing (ss : List Spot) (p floor : ℕ) (fs : List Fusion) (x y : Plan) : Type 0 where
  pub state : Sweeping ss floor (fs ++ fusion_at p (suc x.count) (stands_in ss x)) y
  pub stood : stands_in ss y ≡ fused_at p (suc x.count) (stands_in ss x)
  pub next : y.count ≡ x.count + length (fusion_at p (suc x.count) (stands_in ss x))

pub cuts-few : (ss : List Spot) → length ss ≤ 512 → cuts_for (length ss) ≤ 8
unfolding cuts_for
cuts-few ss h = omega arith

module _ (ss : List Spot) (few : length ss ≤ 512) (floor : ℕ) (fs : List Fusion) (p : Plan) (w : Sweeping ss floor fs p) where
  pub stands-few : p.stands ≤ 8
  stands-few = omega (arith, w.stands, cuts-few ss few)

  pub count-few : p.count ≤ 15
  count-few =
      ⊎_elim (λ (h : 1 ≤ cuts_for (length ss)). omega (arith, w.stands, w.count, w.some h, cuts-few ss few))
      (λ (h : cuts_for (length ss) < 1). omega (arith, w.stands, w.count))
      (less-or-not 1 (cuts_for (length ss)))

  pub order-length : length (order_of p) ≡ p.stands
  order-length = length-take-le p.stands p.order (omega (arith, stands-few, w.room))

  -- the i-th of those that stand
  pub order-at : (i : ℕ) → i < p.stands → get_or (order_of p) i 0 ≡ get_or p.order i 0
  order-at i h = get_or-take p.stands p.order i 0 h

  pub order-in : (i : ℕ) → i < p.stands → Memᴰ (get_or p.order i 0) (order_of p)
  order-in i h =
      subst (λ (a : ℕ). Memᴰ a (order_of p)) (order-at i h) (at_mem (order_of p) i 0 (omega (arith, order-length)))

  pub order-made : (i : ℕ) → i < p.stands → get_or p.order i 0 < p.count
  order-made i h = w.made (get_or p.order i 0) (order-in i h)

  pub stood-length : length (stands_in ss p) ≡ p.stands
  stood-length = stands-length ss p.pieces (order_of p) ∙ order-length

  pub stood-at : (i : ℕ) (d : StandingBlock) → i < p.stands → get_or (stands_in ss p) i d ≡ stand_of ss p.pieces (get_or p.order i 0)
  stood-at i d h = stands_at ss p.pieces (order_of p) i d (omega (arith, order-length)) ∙ ap (stand_of ss p.pieces) (order-at i h)
