-- `press::write_tour` meets its contract: the catalogue at the front, and the blocks of the plan behind it.
use native.Mathlib.Omega.{arith}
use borrow.Rule.Slice.PartMut.{mid_len, same_len_mid}
use Rattle.plan.specs.Plans.{SweepPlanned}
use Rattle.press.specs.Press.{spots_given}
use Rattle.press.proofs.Tiles.{tour-written}
use Rattle.press.proofs.write_tour.Goals as goal
use Rattle.press.proofs.write_tour.Goals.{After-plan_of-p}

planned : (c : After-plan_of-p) → SweepPlanned (spots_given c.args.spots.now) c.plan_of-p.result
planned c = c.plan_of-p.ensures

pub write_catalogue-requires : goal.write_catalogue-requires
write_catalogue-requires c =
    (record { ready = c.requires.0; planned = planned (goal.at.write_catalogue-requires c).After-plan_of-p }, mid_len 0 2048 c.args.tour.now (omega (arith, c.requires.1)))

pub write_tiles-requires : goal.write_tiles-requires
write_tiles-requires c = (
  record { ready = c.requires.0; planned = planned (goal.at.write_tiles-requires c).After-plan_of-p },
  omega (arith, c.requires.1, same_len_mid 0 2048 c.args.tour.now c.write_catalogue.new.s c.write_catalogue.auto.s),
)

pub returns : goal.returns
returns c =
    tour-written (spots_given c.args.spots.now) c.plan_of-p.result (planned (goal.at.returns c).After-plan_of-p) c.args.tour.now c.requires.1
    c.write_catalogue.ensures c.write_tiles.ensures
