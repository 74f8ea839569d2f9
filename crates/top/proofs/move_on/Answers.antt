-- `top::move_on` meets its contract.
use native.Mathlib.Omega.{arith}
use Rattle.frontier.proofs.Chains.{hangs-valid}
use Rattle.frontier.proofs.Spots.{spots-most}
use Rattle.frontier.proofs.Ladders.{laddered-small}
use Rattle.top.proofs.move_on.Goals as goal

pub head_row-head-requires : goal.head_row-head-requires
head_row-head-requires c = let v = hangs-valid c.requires.hangs in
    record { few = omega arith; low = λ e. omega (arith, c.next_pick-next.ensures.index e, spots-most _ _ v); small = λ e. laddered-small v (c.next_pick-next.ensures.more e) }
