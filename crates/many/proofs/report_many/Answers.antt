-- `many::report_many` meets its contract: what is answered for the batch is the answer for the ranges that it was loaded from.
use Rattle.std.proofs.Common.{sym, subst}
use Rattle.ranges.specs.declared.Batch.{Batch}
use Rattle.ranges.specs.Ranges.{Handed}
use Rattle.ranges.proofs.Batches.{batch-has}
use Rattle.many.proofs.report_many.Goals as goal

pub returns : goal.returns
returns c =
    let rs = c.args.ranges.now in
    c.report_batch.ensures rs (subst (λ (z : Batch). Handed z rs) (sym c.load-b.ensures) (batch-has rs))
