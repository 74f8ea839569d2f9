-- `frontier::best_kid` meets its contract: the best of those seen so far.
use Rattle.frontier.proofs.Bests.{KidsBest, kids-take, kids-skip}
use Rattle.frontier.specs.declared.KidPick.{KidPick}
use Prim.Native.Nat.{◌+◌}
use mathlib.Core.Path.{sym, subst}
use native.Mathlib.Omega.{arith}
use Rattle.frontier.proofs.best_kid.Goals as goal
use Rattle.frontier.proofs.best_kid.Goals.{then-best-key, else-best-key}

pub loop-i-preserved : goal.loop-i-preserved
loop-i-preserved c =
    let a = c.args in
    let l = c.loop-i in
    elim c.if-best-key.branch [
      | then-best-key w ↦
          subst (λ (r : KidPick). KidsBest a.t.now a.b a.span a.q a.most (l.i + 1) r) (sym w.best-is)
          (kids-take a.t.now a.b a.span a.q a.most l.i l.invariant c.kid_key-key.ensures (omega arith) w.if-best-key.true)
      | else-best-key w ↦
          subst (λ (r : KidPick). KidsBest a.t.now a.b a.span a.q a.most (l.i + 1) r) (sym w.best-is)
          (kids-skip a.t.now a.b a.span a.q a.most l.i l.invariant c.kid_key-key.ensures w.if-best-key.false)
    ]
