-- `frontier::run_few` meets its contract: the best of those seen so far.
use mathlib.Core.Logic.{⊎_elim}
use mathlib.Core.Path.{◌≡◌, sym, subst, ◌∙◌}
use Prim.Native.Nat.{ℕ, ◌≤◌, ◌<◌}
use lib.ListN.{length}
use Rattle.spot.proofs.Limits.{limited-each}
use Rattle.frontier.specs.Picks.{Few}
use Rattle.frontier.proofs.Fews.{passed-skip, passed-taken}
use Rattle.octets.proofs.Order.{less-or-not}
use native.Mathlib.Omega.{arith}
use Rattle.frontier.proofs.run_few.Goals as goal
use Rattle.frontier.proofs.run_few.Goals.{then-is_taken, else-is_taken}

pub read_key-k-requires : goal.read_key-k-requires
read_key-k-requires c =
    (omega arith, limited-each c.args.t.now 12 c.args.to c.args.at c.requires.4 c.loop-i.i (omega arith))

pub insert_few-n-requires : goal.insert_few-n-requires
insert_few-n-requires c =
    let l = c.loop-i in
    let p = c.requires in
    (omega (arith, p.0, l.invariant.1.long), l.invariant.1.best.room)

pub floor_few-floor-requires-then-is_taken : goal.floor_few-floor-requires-then-is_taken
floor_few-floor-requires-then-is_taken c =
    let l = c.loop-i in
    let p = c.requires in
    let v = c.insert_few-n.ensures in
    let b = l.invariant.1.best.room in
    (omega (arith, p.0, l.invariant.1.long, v.long), ⊎_elim (λ (y : length l.few ≤ l.n). let z = v.full y in omega (arith, v.long)) (λ (y : l.n < length l.few). let z = v.grows y in omega (arith, v.long)) (less-or-not (length l.few) l.n))

pub loop-i-preserved : goal.loop-i-preserved
loop-i-preserved c =
    let l = c.loop-i in
    let on : l.i < c.args.to = c.loop-i-test.true in (
      omega arith,
      elim c.if-is_taken.branch [
        | then-is_taken w ↦ passed-taken l.invariant.1 c.read_key-k.ensures.0 c.requires.0 c.args.to c.requires.5 on (sym c.is_taken.ensures ∙ w.if-is_taken.true) w.top_key.ensures w.insert_few-n.ensures w.floor_few-floor-then-is_taken.ensures w.few-is w.n-is w.floor-is
        | else-is_taken w ↦ passed-skip l.invariant.1 c.read_key-k.ensures.0 (sym c.is_taken.ensures ∙ w.if-is_taken.false) w.few-is w.n-is w.floor-is
      ],
    )

pub returns : goal.returns
returns c =
    let a = c.args in
    let l = c.loop-i in
    let e : l.i ≡ a.to = omega (arith, c.loop-i-test.false, l.invariant.0) in
    subst (λ (i : ℕ). Few a.t.now a.at i a.q a.most l.few l.n) e l.invariant.1.best
