-- `plan::start` meets its contract. The loop's invariant: the first i pieces and the first i entries are stored.
use mathlib.Core.Path.{refl, ap}
use Prim.Native.Nat.{ℕ, ◌*◌}
use native.Mathlib.Omega.{arith}
use lib.ListN.{length-set}
use Rattle.sweep.specs.Sweep.{cuts_for}
use Rattle.plan.specs.Plans.{no_piece, place_piece}
use Rattle.plan.proofs.Arrays.{filled}
use Rattle.plan.proofs.start.Goals as goal

pub loop-i-preserved : goal.loop-i-preserved
loop-i-preserved c =
    let n = c.args.n in
    let l = c.loop-i in (
      omega arith,
      simp length-set l.invariant.1,
      simp length-set l.invariant.2,
      filled (place_piece n) l.pieces l.i _ no_piece (omega arith) l.invariant.3
          (ap (λ (t : ℕ). record { from = 64 * l.i; to = t; floor = 0; ended = 9223372039002259456 }) c.min.ensures),
      filled (λ (k : ℕ). k) l.order l.i l.i 0 (omega arith) l.invariant.4 refl,
    )

pub returns : goal.returns
unfolding cuts_for
returns c =
    let l = c.loop-i in
    record {
      count = refl;
      stands = refl;
      sized = l.invariant.1;
      room = l.invariant.2;
      placed = λ i h. l.invariant.3 i (omega arith);
      ordered = λ i h. l.invariant.4 i (omega arith);
    }
