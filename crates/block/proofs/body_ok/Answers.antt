-- `block::body_ok` meets its contract: its calls make up `body_fine`.
use mathlib.Core.Bool.{not}
use mathlib.Core.Path.{refl, ◌∙◌, sym, ap}
use native.Mathlib.Omega.{arith}
use Rattle.block.specs.Checks.{body_fine, lists_fine, rest_fine}
use Rattle.block.proofs.Body.{lists-stop, lists-are, inserts-rise, deletes-rise, rest-is}
use Rattle.block.proofs.Shut.{and-stop, and-go}
use Rattle.block.proofs.body_ok.Goals as goal

pub returns-in_default : goal.returns-in_default
unfolding body_fine
returns-in_default c =
    let a = c.args in
    and-stop (rest_fine a.s.now a.blocks a.a a.h) (lists-stop a.s.now a.blocks a.a a.h c.floor_of-floor.ensures c.in_default.ensures) refl

pub returns-then-not-rises_under : goal.returns-then-not-rises_under
unfolding body_fine
returns-then-not-rises_under c =
    let a = c.args in
    and-stop (rest_fine a.s.now a.blocks a.a a.h)
    (lists-are a.s.now a.blocks a.a a.h c.floor_of-floor.ensures c.in-Some.ensures c.rises_under.ensures c.rises_under-2.ensures) (ap not c.if-not-rises_under.true)

pub apart_ok-requires : goal.apart_ok-requires
apart_ok-requires c =
    let a = c.args in
    let ok =
    sym (lists-are a.s.now a.blocks a.a a.h c.floor_of-floor.ensures c.in-Some.ensures c.rises_under.ensures c.rises_under-2.ensures)
    ∙ c.if-not-rises_under.false
    in
    (omega (arith, c.requires), omega (arith, c.requires), inserts-rise a.s.now a.blocks a.a a.h ok, deletes-rise a.s.now a.blocks a.a a.h ok)

pub blocks_ok-requires : goal.blocks_ok-requires
blocks_ok-requires c =
    omega (arith, c.requires)

pub returns : goal.returns
unfolding body_fine
returns c =
    let a = c.args in
    and-go (lists_fine a.s.now a.a a.h)
    (lists-are a.s.now a.blocks a.a a.h c.floor_of-floor.ensures c.in-Some.ensures c.rises_under.ensures c.rises_under-2.ensures)
    (ap not c.if-not-rises_under.false)
    (rest-is a.s.now a.blocks a.a a.h c.in-Some.ensures c.floor_of-floor.ensures c.own_of.ensures c.above_tops.ensures
    c.apart_ok.ensures c.zeros.ensures c.entries_ok.ensures c.blocks_ok.ensures c.agrees_ok.ensures)
