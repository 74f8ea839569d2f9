-- `histories::batches::one_in_list` is safe: what it reads is inside the limits.
use Rattle.histories.proofs.Given.{few-given}
use Rattle.histories.proofs.batches.one_in_list.Goals as goal

pub spots_in_list-requires : goal.spots_in_list-requires
spots_in_list-requires c =
    few-given c.args.a c.args.own.now c.requires c.if-a-n.false
