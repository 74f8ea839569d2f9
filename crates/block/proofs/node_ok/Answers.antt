-- `block::node_ok` meets its contract: the tests of the front and of the body are the rules of a node.
use mathlib.Core.Bool.{not}
use mathlib.Core.Path.{◌∙◌, sym, ap}
use native.Mathlib.Omega.{arith}
use Rattle.block.proofs.Verdict.{node-stop, node-go, used-fits, used-is}
use Rattle.block.proofs.node_ok.Goals as goal

pub returns-then-not-front_ok : goal.returns-then-not-front_ok
returns-then-not-front_ok c =
    let a = c.args in
    node-stop a.s.now a.blocks a.level a.a c.fewest_of.ensures.1 c.fewest_of.ensures.0 c.front_of-h.ensures.0 c.front_ok.ensures (ap not c.if-not-front_ok.true)

pub body_ok-requires : goal.body_ok-requires
body_ok-requires c =
    let ok = sym c.front_ok.ensures ∙ c.if-not-front_ok.false in
    let l = c.args.level in
    let f = c.fewest_of.result in
    let h = c.front_of-h.result in
    (omega arith, used-fits l f h ok, used-is l f h ok)

pub returns : goal.returns
returns c =
    let a = c.args in
    node-go a.s.now a.blocks a.level a.a c.fewest_of.ensures.1 c.fewest_of.ensures.0 c.front_of-h.ensures.0 c.front_ok.ensures (ap not c.if-not-front_ok.false) c.body_ok.ensures
