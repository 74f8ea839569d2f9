-- `top::read_kid` meets its contract: another child has the same key, or the child is read as any node.
use mathlib.Core.Bool.{true≢false}
use mathlib.Core.Path.{refl, sym, ◌∙◌}
use native.Mathlib.Omega.{arith}
use Rattle.top.proofs.read_kid.Goals as goal

pub leads_with-requires : goal.leads_with-requires
leads_with-requires c =
    let p = c.requires in
    let at_take = c.take_kid-kid in
    omega (arith, at_take.ensures.lowered.few, at_take.auto.kids, p.takes.room)

pub returns-then-leads_with : goal.returns-then-leads_with
returns-then-leads_with c =
    let at_take = c.take_kid-kid in
    let same = sym c.leads_with.ensures ∙ c.if-leads_with.true in
    record { fresh = at_take.result; via = _; long = at_take.auto.kids; taken = at_take.ensures; tied = λ e. refl; read = λ e. absurd (true≢false (sym same ∙ e)) }

pub read_node-requires : goal.read_node-requires
read_node-requires c =
    let p = c.requires in
    let at_take = c.take_kid-kid in
    p.reads _ at_take.result at_take.ensures at_take.auto.kids

pub returns : goal.returns
returns c =
    let at-leads = c.leads_with in
    let at-tie = c.if-leads_with in
    let at_read = c.read_node in
    let at_take = c.take_kid-kid in
    let apart = sym at-leads.ensures ∙ at-tie.false in
    record { fresh = at_take.result; via = _; long = at_take.auto.kids; taken = at_take.ensures; tied = λ e. absurd (true≢false (sym e ∙ apart)); read = λ e. at_read.ensures }
