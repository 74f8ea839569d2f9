-- `frontier::root_place` meets its contract.
use Rattle.visit.proofs.Roots.{sized-long, levels-some}
use Rattle.std.specs.Prelude.{None}
use Prim.Native.Nat.{ℕ, ◌-◌}
use mathlib.Core.Path.{ap₂}
use native.Mathlib.Omega.{arith}
use Rattle.frontier.proofs.root_place.Goals as goal

pub root_of-block-requires : goal.root_of-block-requires
root_of-block-requires c = sized-long c.args.t.now c.requires.0

pub levels_of-level-requires : goal.levels_of-level-requires
levels_of-level-requires c = sized-long c.args.t.now c.requires.0

pub overflow_sub-level : goal.overflow_sub-level
overflow_sub-level c =
    let l = levels-some c.args.t.now c.requires.1 c.root_of-block.ensures.0 c.levels_of-level.ensures.0 in
    omega (arith, l)

pub returns : goal.returns
returns c =
    ap₂ (λ (b l : ℕ). record { block = b; level = l - 1; span = record { lo = 0; hi = None } }) c.root_of-block.ensures.0 c.levels_of-level.ensures.0
