-- `within::say_none` meets its contract: what the Top of none answers, with the highest rank where it is accepted.
use Rattle.within.proofs.Saying.{highest, ceiling-accepted}
use Rattle.table.proofs.Searching.{ceiling-refused}
use Rattle.block.specs.Answers.{refused}
use Rattle.block.proofs.Answers.{refused-numbered}
use mir.ValLaws.{to_z-of_z}
use mir.Syntax.{w32}
use mathlib.Core.Path.{refl, sym}
use Rattle.within.proofs.say_none.Goals as goal

pub returns-in-Err : goal.returns-in-Err
returns-in-Err c =
    rw c.tell.ensures
    (record {
      top = rw (to_z-of_z w32 _ c.ranges.x1, to_z-of_z w32 _ c.ranges.x2) at c.in-Err.ensures;
      ceiling = sym (ceiling-refused (refused c.in-Err.why).number highest (refused-numbered c.in-Err.why));
    })

pub returns-in-Ok : goal.returns-in-Ok
returns-in-Ok c =
    record {
      top = rw (to_z-of_z w32 _ c.ranges.x1, to_z-of_z w32 _ c.ranges.x2) at c.in-Ok.ensures;
      ceiling = sym (ceiling-accepted 0 highest refl);
    }
