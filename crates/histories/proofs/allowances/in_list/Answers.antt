-- `histories::allowances::in_list` is safe: what it reads is inside the limits.
use Rattle.std.proofs.Math.Path.{subst⁻¹}
use Rattle.block.specs.declared.Answer.{Answer}
use Rattle.table.specs.Queries.{GivenInside}
use Rattle.histories.proofs.Given.{few-given}
use Rattle.histories.proofs.allowances.in_list.Goals as goal

pub top_in_list-seen-requires : goal.top_in_list-seen-requires
top_in_list-seen-requires c =
    let a = c.answer_of-a in
    let given = subst⁻¹ (λ (r : Answer). GivenInside r c.args.output.now) a.ensures c.requires in
    few-given a.result c.args.output.now given c.if-a-n.false

pub ceiling_holds-holds-requires : goal.ceiling_holds-holds-requires
ceiling_holds-holds-requires c =
    let a = c.answer_of-a in
    let given = subst⁻¹ (λ (r : Answer). GivenInside r c.args.output.now) a.ensures c.requires in
    few-given a.result c.args.output.now given c.if-a-n.false
