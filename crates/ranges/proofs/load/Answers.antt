-- `ranges::load` meets its contract: after i turns the first i ranges are there.
use Rattle.std.proofs.Common.{◌≡◌, length, refl, ◌∙◌, arith}
use Prim.Native.Nat.{min}
use Rattle.ranges.proofs.Batches.{loaded-more, loaded-all, few_min}
use Rattle.ranges.proofs.load.Goals as goal

pub loop-i-init : goal.loop-i-init
loop-i-init c = c.no_ranges-all.ensures

pub loop-i-preserved : goal.loop-i-preserved
loop-i-preserved c = loaded-more c.args.ranges.now c.loop-i.i c.loop-i.all c.range_at.result c.loop-i.invariant c.range_at.ensures

pub returns : goal.returns
returns c =
    let n = length c.args.ranges.now in
    let all_in : c.loop-i.i ≡ min n 64 = omega arith in
    loaded-all c.args.ranges.now n c.loop-i.i c.loop-i.all refl (all_in ∙ few_min n) c.loop-i.invariant
