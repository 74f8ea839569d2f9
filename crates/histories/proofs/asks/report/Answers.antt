-- `histories::asks::report` is safe: what was given is read where the call was accepted.
use Rattle.histories.proofs.Given.{few-given}
use Rattle.histories.proofs.asks.report.Goals as goal

pub stretch-far-requires : goal.stretch-far-requires
stretch-far-requires c = let call = c.call_report-a in few-given call.result _ call.ensures c.if-a-n.false

pub spots_in_list-requires : goal.spots_in_list-requires
spots_in_list-requires c =
    let call = c.call_report-a in
    few-given call.result _ call.ensures c.if-a-n.false
