-- `visit::ranked_marks` meets its contract: no place is left out.
use mathlib.Core.Path.{sym, ap, subst, ◌∙◌}
use mir.Syntax.{w32}
use mir.ValLaws.{to_z-of_z}
use Rattle.spot.specs.declared.Query.{Query}
use Rattle.spot.specs.Query.{all_places, is_ring, least_of}
use Rattle.spot.proofs.Places.{all-flat}
use Rattle.visit.specs.Visit.{Wanted}
use Rattle.visit.proofs.Marking.{first-wanted, all-of-them}
use Rattle.visit.proofs.ranked_marks.Goals as goal

pub returns-then-least_of-eq0 : goal.returns-then-least_of-eq0
returns-then-least_of-eq0 c =
    let same = c.all_places-q.ensures ∙ ap all_places (to_z-of_z w32 c.args.y c.ranges.y) in
    first-wanted c.range_marks.ensures
    (all-of-them c.args.t.now c.args.at c.args.n c.args.y (sym (ap least_of same) ∙ sym c.least_of.ensures ∙ c.if-least_of-eq0.true))

pub wanted_each-requires : goal.wanted_each-requires
wanted_each-requires c =
    (c.requires, ap is_ring c.all_places-q.ensures ∙ all-flat _)

pub returns : goal.returns
returns c =
    subst (λ (q : Query). Wanted c.args.t.now c.args.at c.args.n q c.wanted_each.result)
    (c.all_places-q.ensures ∙ ap all_places (to_z-of_z w32 c.args.y c.ranges.y))
    c.wanted_each.ensures
