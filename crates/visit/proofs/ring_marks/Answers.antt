-- `visit::ring_marks` meets its contract: in a run that rises the spots of the gap stand together.
use mathlib.Core.Path.{subst}
use lib.IntN.{ℤ}
use mir.Syntax.{w32}
use mir.ValLaws.{to_z-of_z}
use Rattle.spot.specs.Query.{all_places}
use Rattle.visit.specs.Visit.{Wanted}
use Rattle.visit.proofs.Marking.{ring-wanted}
use native.Mathlib.Omega.{arith}
use Rattle.visit.proofs.ring_marks.Goals as goal

pub unmarked-requires : goal.unmarked-requires
unmarked-requires c = (omega (arith, c.below-e.ensures.1, c.requires.0.few), c.ranked_marks-m.ensures.sized)

pub returns : goal.returns
returns c =
    let a = c.args in
    ring-wanted a.t.now a.at a.n a.q c.requires.0.rise c.requires.1 c.from_key.ensures c.last_key.ensures
    (subst (λ (y : ℤ). Wanted a.t.now a.at a.n (all_places y) c.ranked_marks-m.result) (to_z-of_z w32 a.q.y (record { sfits = c.struct_told-1.given.1.1.0.1 }))
    c.ranked_marks-m.ensures)
    c.through-a.ensures c.below-e.ensures.0 c.below-e.ensures.1 c.unmarked.ensures
