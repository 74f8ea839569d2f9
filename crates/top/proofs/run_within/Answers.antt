-- `top::run_within` meets its contract: few slots are enough, or all are taken.
use mathlib.Core.Path.{ap, ◌∙◌}
use Prim.Native.Nat.{ℕ}
use native.Mathlib.Omega.{arith}
use lib.ListN.{length, length-replicate}
use Rattle.top.proofs.Sweeps.{run-again, zeroed}
use Rattle.top.proofs.run_within.Goals as goal

pub wide_run-requires : goal.wide_run-requires
wide_run-requires c =
    let all = c.requires in
    let p = all.0 in
    let long = c.narrow_run.auto.seen ∙ ap length p.clear ∙ length-replicate {A = ℕ} 512 0 in (
      record {
        x1 = p.x1;
        x2 = p.x2;
        asks = p.asks;
        sized = p.sized;
        clear = zeroed c.narrow_run.new.seen long c.zero.ensures;
        some = p.some;
        fits = omega (arith, c.narrow_run.auto.out, p.fits);
      },
      all.1,
    )

pub returns-in-Err-Short : goal.returns-in-Err-Short
returns-in-Err-Short c = run-again c.narrow_run.auto.out c.narrow_run.ensures.behind c.wide_run.ensures
