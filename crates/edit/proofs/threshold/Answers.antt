-- `edit::threshold` meets its contract.
use mathlib.Core.Path.{refl}
use mathlib.Core.Logic.{⊎_elim}
use Prim.Native.Nat.{◌<◌}
use native.Mathlib.Omega.{arith}
use Rattle.edit.proofs.Picked.{either-yes, either-no}
use Rattle.edit.proofs.threshold.Goals as goal

pub returns-then-n-size : goal.returns-then-n-size
returns-then-n-size c =
    let n = c.args.n in
    record {
      nothing = λ h. refl;
      lowest = λ z f.
          absurd (⊎_elim z (λ (w : n.points.n < 32). omega arith) (either-yes n.level 0 n.points.n 32 c.if-n-size.true));
    }

pub lowest-low-requires : goal.lowest-low-requires
lowest-low-requires c =
    let n = c.args.n in
    (c.requires.points, omega (arith, (either-no n.level 0 n.points.n 32 c.if-n-size.false).1))

pub returns : goal.returns
returns c =
    let n = c.args.n in
    let t = either-no n.level 0 n.points.n 32 c.if-n-size.false in
    record {
      nothing = ⊎_elim (λ z. absurd (t.0 z)) (λ (h : n.points.n < 32). absurd (omega (arith, t.1)));
      lowest = λ z f. (c.lowest-low.result, c.lowest-low.ensures, c.rank_key.ensures);
    }
