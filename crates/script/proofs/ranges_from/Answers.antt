-- `script::ranges_from` meets its contract: what it reads is a part of the ranges.
use mathlib.Core.Path.{ap, ◌∙◌}
use Rattle.ranges.specs.Ranges.{batch_of}
use Rattle.script.proofs.Ranged.{ranges-part, part-inside}
use Rattle.script.proofs.ranges_from.Goals as goal

pub read_batch-requires : goal.read_batch-requires
read_batch-requires c =
    let first = c.min-first in
    let a = c.args in
    part-inside a.handed.now a.from a.n first.result c.min.result first.ensures c.min.ensures

pub returns : goal.returns
returns c =
    let first = c.min-first in
    let some = c.min in
    let a = c.args in
    c.read_batch.ensures
    ∙ ap batch_of (ranges-part a.handed.now a.from a.n first.result some.result first.ensures some.ensures)
