-- `verdict::verdict` meets its contract: by the figure in block 0, or on a sound table by the count.
use mathlib.Core.Path.{refl, sym, ◌∙◌}
use lib.ListN.{length}
use Rattle.query.proofs.Whole.{counted-as}
use Rattle.block.proofs.Making.{sized-least}
use Rattle.message.proofs.Cursor.{accepted-message}
use Rattle.verdict.proofs.Ends.{roomy, unsound, sound-count, sound-whole}
use native.Mathlib.Omega.{arith}
use Rattle.verdict.proofs.verdict.Goals as goal

pub bound_of-figure-requires : goal.bound_of-figure-requires
bound_of-figure-requires c =
    omega (arith, sized-least (length c.args.table.now) c.requires.sized)

pub adds_of-requires : goal.adds_of-requires
adds_of-requires c =
    (accepted-message c.args.m.now c.requires.message).0

pub returns-then-figure-adds_of : goal.returns-then-figure-adds_of
returns-then-figure-adds_of c =
    roomy c.args.table.now c.line_up.ensures c.bound_of-figure.ensures.0 c.adds_of.ensures.0 c.capacity_of-most.ensures c.if-figure-adds_of.true

pub returns-then-not-is_sound : goal.returns-then-not-is_sound
returns-then-not-is_sound c =
    unsound _ c.refused_at.ensures c.is_sound.ensures c.if-not-is_sound.true

pub count_table-requires : goal.count_table-requires
count_table-requires c =
    (c.requires.sized, refl)

pub returns-in_default : goal.returns-in_default
returns-in_default c =
    absurd (sound-whole _ (sym c.is_sound.ensures ∙ c.if-not-is_sound.false) (counted-as c.everything.ensures c.in_default.ensures))

pub step_through-requires : goal.step_through-requires
step_through-requires c =
    (c.requires, sym c.is_sound.ensures ∙ c.if-not-is_sound.false, sound-count _ (counted-as c.everything.ensures c.in-Some.ensures))
