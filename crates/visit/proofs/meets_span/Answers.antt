-- `visit::meets_span` meets its contract.
use Rattle.visit.proofs.Spans.{meets-is}
use Rattle.visit.proofs.meets_span.Goals as goal

pub returns : goal.returns
returns c =
    meets-is c.args.q c.args.s c.from_key.ensures c.last_key.ensures c.before_end-first.ensures c.before_end.ensures c.ends.ensures
