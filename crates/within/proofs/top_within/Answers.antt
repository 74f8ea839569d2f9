-- `within::top_within` meets its contract: the answer and the ceiling are those that are said.
use Rattle.within.proofs.Saying.{ceiling-as}
use mir.Val.{to_z, of_z}
use mir.ValLaws.{to_z-of_z}
use mir.Syntax.{w32}
use mathlib.Core.Path.{◌≡◌, sym}
use Rattle.within.proofs.top_within.Goals as goal

pub returns : goal.returns
returns c =
    let held : to_z w32 (of_z w32 c.say-said.result.ceiling) ≡ c.say-said.result.ceiling = to_z-of_z w32 _ (record { sfits = c.struct_told-1.given.1.0.1 }) in
    ceiling-as (sym held)
    (rw (to_z-of_z w32 _ c.ranges.x1, to_z-of_z w32 _ c.ranges.x2) at c.say-said.ensures)
