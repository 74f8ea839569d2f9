-- `ranges::read_batch` meets its contract: after i turns the first i ranges are there.
use Rattle.std.proofs.Common.{◌≡◌, sym, ◌∙◌, arith}
use Prim.Native.Nat.{min}
use Rattle.octets.proofs.Records.{length-records, records-at}
use Rattle.ranges.specs.Ranges.{no_range, range_in, ranges_in}
use Rattle.ranges.proofs.Batches.{loaded-more, loaded-all, few_min}
use Rattle.ranges.proofs.read_batch.Goals as goal

pub loop-i-init : goal.loop-i-init
loop-i-init c = c.no_ranges-all.ensures

pub loop-i-preserved : goal.loop-i-preserved
loop-i-preserved c =
    let i = c.loop-i.i in
    let a = c.args in
    loaded-more (ranges_in a.bytes.now a.n a.at) i c.loop-i.all c.read_range.result c.loop-i.invariant
    (c.read_range.ensures ∙ sym (records-at (range_in a.bytes.now) 12 a.n a.at i no_range (omega arith)))

pub returns : goal.returns
returns c =
    let a = c.args in
    let all_in : c.loop-i.i ≡ min a.n 64 = omega arith in
    loaded-all (ranges_in a.bytes.now a.n a.at) a.n c.loop-i.i c.loop-i.all (length-records (range_in a.bytes.now) 12 a.n a.at)
    (all_in ∙ few_min a.n) c.loop-i.invariant
