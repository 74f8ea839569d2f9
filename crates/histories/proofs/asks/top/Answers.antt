-- `histories::asks::top` is safe: what was given is read where the call was accepted.
use Rattle.histories.proofs.Given.{few-given}
use Rattle.histories.proofs.asks.top.Goals as goal

pub top_in_list-requires : goal.top_in_list-requires
top_in_list-requires c =
    let call = c.call_top-a in few-given call.result _ call.ensures c.if-a-n.false
