-- `within::say` meets its contract: refused by the lengths, as a Top of none, or by a search.
use Rattle.within.proofs.Saying.{none-asked, some-asked, within-short, within-lent, within-zero}
use borrow.Author.Tests.{ne_eqb}
use mir.ValLaws.{to_z-of_z}
use mir.Syntax.{w32}
use lib.ListN.{length}
use mathlib.Core.Path.{sym, ◌∙◌}
use native.Mathlib.Omega.{arith}
use Rattle.within.proofs.say.Goals as goal

pub returns-then-not-sized : goal.returns-then-not-sized
returns-then-not-sized c =
    let a = c.args in
    within-short a.x1 a.x2 a.k a.allowance a.table.now a.output.now a.read_map.now _
    (sym c.sized.ensures ∙ c.if-not-sized.true)
    c.tell.ensures

pub returns-then-read_map-ne512 : goal.returns-then-read_map-ne512
returns-then-read_map-ne512 c =
    let a = c.args in
    within-lent a.x1 a.x2 a.k a.allowance a.table.now a.output.now a.read_map.now
    (sym c.sized.ensures ∙ c.if-not-sized.false)
    _
    (ne_eqb (length a.read_map.now) 512 (λ h. omega (arith, c.if-read_map-ne512.true)))
    c.tell-then-read_map-ne512.ensures

pub returns-then-k-allowance : goal.returns-then-k-allowance
returns-then-k-allowance c =
    let a = c.args in
    within-zero a.x1 a.x2 a.table.now a.k a.allowance (none-asked a.k a.allowance c.if-k-allowance.true) a.output.now a.read_map.now _ _ _
    (rw (to_z-of_z w32 _ c.ranges.x1, to_z-of_z w32 _ c.ranges.x2) at c.say_none.ensures)

pub say_some-requires : goal.say_some-requires
say_some-requires c =
    let a = c.args in
    let some = some-asked a.k a.allowance c.if-k-allowance.false in
    record {
      sized = sym c.sized.ensures ∙ c.if-not-sized.false;
      mapped = omega (arith, c.if-read_map-ne512.false);
      some = some.0;
      allowed = some.1;
    }
