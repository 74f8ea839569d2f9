-- `visit::step` meets its contract: what waits above the child waits above the node, or in it.
use mathlib.Core.Path.{refl, ◌∙◌}
use native.Mathlib.Omega.{arith}
use lib.Dec.{eqb}
use borrow.Author.Tests.{eqb-true}
use Rattle.octets.proofs.Tests.{and_left, and_right}
use Rattle.visit.specs.declared.Path.{Path}
use Rattle.visit.proofs.Gathering.{gathered-quiet, gathered-blind, gathered-step}
use Rattle.visit.proofs.step.Goals as goal

pub settled-requires : goal.settled-requires
settled-requires c = c.requires.1

pub returns-then-p-settled : goal.returns-then-p-settled
returns-then-p-settled c =
    let s = c.requires in
    let a = c.args in
    let w = c.with_block-next.ensures in (
      w.0,
      w.1,
      gathered-quiet a.t.now a.p c.with_block-next.result a.b w.1 a.list.now s.2
          (eqb-true a.p.waits 0 (and_left (eqb a.p.waits 0) c.settled.result c.if-p-settled.true))
          (c.settled.ensures (and_right (eqb a.p.waits 0) c.settled.result c.if-p-settled.true))
          w.2
          w.3
          w.4,
      s.3,
    )

pub gather-requires : goal.gather-requires
gather-requires c = (c.requires.1, c.requires.2.few, c.requires.3)

pub returns-in-Some : goal.returns-in-Some
returns-in-Some c =
    let a = c.args in
    let w = c.with_block-next in
    let g = c.in-Some in
    let r : Path = record { n = w.result.n; blocks = w.result.blocks; lo = c.max-lo.result; last = c.last_in-last.result; waits = g.waits } in (
      w.ensures.0,
      w.ensures.1,
      gathered-step a.t.now a.p r a.b w.ensures.1 c.requires.2 g.ensures (omega (arith, c.max-lo.ensures)) c.last_in-last.ensures refl refl refl,
      g.ensures.sized ∙ c.requires.3,
    )

pub returns-in-None : goal.returns-in-None
returns-in-None c =
    let w = c.with_block-next in
    let r : Path = record { n = w.result.n; blocks = w.result.blocks; lo = 1; last = 0; waits = 0 } in
    (w.ensures.0, w.ensures.1, gathered-blind c.args.t.now r refl refl refl, c.in-None.ensures.sized ∙ c.requires.3)
