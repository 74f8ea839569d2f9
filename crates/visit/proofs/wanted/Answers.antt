-- `visit::wanted` meets its contract: all have a mark, or all but those of a ring's gap, or those of the query's places, or each is tested.
use mathlib.Core.Path.{sym, ◌∙◌}
use Rattle.visit.proofs.Marking.{first-wanted}
use Rattle.visit.proofs.wanted.Goals as goal

pub returns-then-wants_all : goal.returns-then-wants_all
returns-then-wants_all c = first-wanted c.range_marks.ensures (c.wants_all.ensures c.if-wants_all.true)

pub ring_marks-requires : goal.ring_marks-requires
ring_marks-requires c = (c.requires, sym c.is_ring.ensures ∙ c.if-is_ring.true)

pub placed_marks-requires : goal.placed_marks-requires
placed_marks-requires c = (
  c.requires,
  sym c.least_of.ensures ∙ c.if-least_of-eq0.true,
  sym c.is_ring.ensures ∙ c.if-is_ring.false,
)

pub wanted_each-requires : goal.wanted_each-requires
wanted_each-requires c =
    (c.requires, sym c.is_ring.ensures ∙ c.if-is_ring.false)
