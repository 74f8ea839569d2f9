-- `plan::plan_of` meets its contract. The loop's invariant: the plan is the sweep's, once it has passed so many spots.
use Prim.Native.Nat.{◌<◌}
use native.Mathlib.Omega.{arith}
use Rattle.plan.proofs.Swept.{readable, swept-start, rank-small, swept-next, swept-shaped, swept_all}
use Rattle.plan.proofs.plan_of.Goals as goal
use Rattle.plan.proofs.plan_of.Goals.{After-next_rank-r}

pub loop-passed-init : goal.loop-passed-init
loop-passed-init c =
    (omega arith, swept-start c.args.spots.now c.args.n c.requires c.start-plan.result c.start-plan.ensures)

pub next_rank-r-requires : goal.next_rank-r-requires
next_rank-r-requires c =
    readable c.args.spots.now c.args.n c.requires

-- the next rank key is that of a spot
small : (c : After-next_rank-r) → c.next_rank-r.result < 18446744073709551615
small c =
    let l = c.loop-passed in
    rank-small c.args.spots.now c.args.n c.requires l.floor c.next_rank-r.result c.next_rank-r.ensures l.plan l.passed l.invariant.1 (omega arith)

pub pass-plan-requires : goal.pass-plan-requires
pass-plan-requires c =
    let l = c.loop-passed in
    (swept-shaped c.args.spots.now c.args.n c.requires l.plan l.floor l.passed l.invariant.1, small (goal.at.pass-plan-requires c).After-next_rank-r)

pub overflow_add-floor : goal.overflow_add-floor
overflow_add-floor c = omega (arith, small (goal.at.overflow_add-floor c).After-next_rank-r)

pub loop-passed-preserved : goal.loop-passed-preserved
loop-passed-preserved c =
    let l = c.loop-passed in
    let x = c.next_rank-r in (
      omega arith,
      swept-next c.args.spots.now c.args.n c.requires l.floor x.result x.ensures l.plan l.passed l.invariant.1 (omega arith)
          c.pass-plan.result c.pass-plan.ensures,
    )

pub returns : goal.returns
returns c =
    let l = c.loop-passed in
    swept_all c.args.spots.now c.args.n c.requires l.plan l.floor l.passed l.invariant.1 (omega arith)
