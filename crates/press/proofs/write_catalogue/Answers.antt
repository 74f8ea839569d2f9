-- `press::write_catalogue` meets its contract. The loop's invariant: the front and the entries so far.
use mathlib.Core.Path.{refl, sym, ◌∙◌}
use native.Mathlib.Omega.{arith}
use Rattle.press.specs.Press.{spots_given}
use Rattle.plan.specs.Plans.{no_piece}
use Rattle.press.proofs.Tiles.{entries_none, entries-more, entries-all, fits-at}
use Rattle.press.proofs.write_catalogue.Goals as goal

pub loop-i-init : goal.loop-i-init
loop-i-init c =
    entries_none (spots_given c.args.spots.now) c.args.p c.requires.0.planned 2048 (c.write_head.auto.s ∙ c.requires.1) c.write_head.ensures

pub write_entry-requires : goal.write_entry-requires
write_entry-requires c =
    let ss = spots_given c.args.spots.now in (
      record { ready = c.requires.0.ready; fits = fits-at ss c.args.p c.requires.0.planned c.loop-i.i no_piece c.loop-i-test.true },
      omega (arith, c.requires.0.planned.few, c.loop-i.invariant.long),
    )

pub loop-i-preserved : goal.loop-i-preserved
loop-i-preserved c =
    entries-more (spots_given c.args.spots.now) c.args.p c.requires.0.planned 2048 c.loop-i.i no_piece refl c.loop-i-test.true
    c.loop-i.invariant c.write_entry.auto.s c.write_entry.ensures

pub shape_of-s : goal.shape_of-s
shape_of-s c = c.loop-i.invariant.long ∙ sym c.requires.1

pub returns : goal.returns
returns c =
    entries-all (spots_given c.args.spots.now) c.args.p c.requires.0.planned refl c.loop-i.invariant c.loop-i-test.false
