-- `fill::from_top` meets its contract.
use native.Mathlib.Omega.{arith}
use mathlib.Core.Path.{refl, sym, ◌∙◌}
use mathlib.Core.Bool.{true≢false}
use Rattle.fill.proofs.from_top.Goals as goal

pub returns-then-holds : goal.returns-then-holds
returns-then-holds c =
    let d = c.drop_child-node.ensures in
    let there = sym c.holds.ensures ∙ c.if-holds.true in
    record {
      lifted = record { over = refl; tidy = d.tidy; entries = d.entries; level = d.level; points = omega (arith, d.points); inserts = d.inserts; deletes = d.deletes };
      raised = λ g. absurd (true≢false (sym there ∙ g));
      dropped = λ g. d.holds;
    }

pub raise_child-node-requires : goal.raise_child-node-requires
raise_child-node-requires c =
    (c.requires.0, omega (arith, c.requires.1), sym c.holds-2.ensures ∙ c.if-holds-2.false)

pub returns : goal.returns
returns c =
    let d = c.raise_child-node.ensures in
    let off = sym c.holds.ensures ∙ c.if-holds.false in
    record {
      lifted = record { over = refl; tidy = d.tidy; entries = d.entries; level = d.level; points = d.points; inserts = d.inserts; deletes = d.deletes };
      raised = λ g. d.holds;
      dropped = λ g. absurd (true≢false (sym g ∙ off));
    }
