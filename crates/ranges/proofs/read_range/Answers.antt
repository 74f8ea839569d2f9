-- `ranges::read_range` meets its contract: each of the three numbers is the one that its four bytes give.
use mathlib.Core.Path.{◌∙◌}
use mir.Syntax.{w32}
use mir.ValLaws.{to_z-of_z}
use Rattle.ranges.specs.Ranges.{range_in}
use Rattle.ranges.proofs.read_range.Goals as goal

pub returns : goal.returns
unfolding range_in
returns c =
    let x1 = c.read_i32 in
    let x2 = c.read_i32-2 in
    let y = c.read_i32-3 in
    rw (
      to_z-of_z w32 x1.result (record { sfits = x1.type_inv }) ∙ x1.ensures,
      to_z-of_z w32 x2.result (record { sfits = x2.type_inv }) ∙ x2.ensures,
      to_z-of_z w32 y.result (record { sfits = y.type_inv }) ∙ y.ensures,
    )
