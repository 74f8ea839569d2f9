-- `block::head_ok` meets its contract: the tests of the numbers and of the rest are the rules.
use mathlib.Core.Bool.{not}
use mathlib.Core.Path.{sym, ◌∙◌, ap}
use native.Mathlib.Omega.{arith}
use Rattle.block.proofs.Heads.{head-stop, head-go, numbers-blocks, numbers-root}
use Rattle.block.proofs.head_ok.Goals as goal

pub returns-then-not-numbers_ok : goal.returns-then-not-numbers_ok
returns-then-not-numbers_ok c =
    let a = c.args in
    head-stop a.bytes a.s.now c.numbers_ok.ensures (ap not c.if-not-numbers_ok.true)

pub map_ok-requires : goal.map_ok-requires
map_ok-requires c =
    let a = c.args in
    let ok = sym c.numbers_ok.ensures ∙ c.if-not-numbers_ok.false in
    omega (arith, numbers-blocks a.bytes a.s.now ok, numbers-root a.bytes a.s.now ok)

pub returns : goal.returns
returns c =
    let a = c.args in
    head-go a.bytes a.s.now c.numbers_ok.ensures (ap not c.if-not-numbers_ok.false) c.read16.ensures.0 c.map_ok.ensures c.zeros.ensures
