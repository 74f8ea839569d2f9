-- `spot::lowest_key` meets its contract.
use Rattle.std.proofs.Common.{sym, refl, ◌∙◌}
use Rattle.spot.specs.Query.{lowest_of}
use Rattle.spot.proofs.lowest_key.Goals as goal

pub returns-then-is_ring : goal.returns-then-is_ring
unfolding lowest_of
returns-then-is_ring c = rw (sym c.is_ring.ensures ∙ c.if-is_ring.true) refl

pub returns : goal.returns
unfolding lowest_of
returns c = rw (sym c.is_ring.ensures ∙ c.if-is_ring.false) c.from_key.ensures
