-- `plan::closed` meets its contract.
use Rattle.std.proofs.Common.{rules, ◌≡◌, ◌-◌, length, take}
use mathlib.Core.Path.{ap, ◌∙◌}
use native.Mathlib.Omega.{arith}
use lib.ListN.{length-set}
use Rattle.plan.proofs.Arrays.{closed-moved}
use Rattle.plan.proofs.closed.Goals as goal

pub returns : goal.returns
returns c =
    let s = c.args in
    let long : length s.order ≡ 8 = search rules in (
      c.copy_within.ensures.len ∙ length-set s.order s.i s.block ∙ long,
      ap (take (s.n - 1)) c.copy_within.ensures.after ∙ closed-moved s.order s.i s.n s.block (omega (arith, c.requires.0)) (omega (arith, long, c.requires.1)),
    )
