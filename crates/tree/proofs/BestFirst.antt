-- Reading best first: the laws that lead from each step to the definition of Top, and what is known on the way.
-- Assumes nothing.
pub use Rattle.tree.proofs.BestFirstSteps.{Progress, start, read-part, give, reorder}
pub use Rattle.tree.proofs.BestFirstTop.{broken-node, broken-twice, done_full, done-empty}
use mathlib.Core.Path.{◌≡◌}
use mathlib.Core.Bool.{true}
use mathlib.Core.List.{List, Memᴰ}
use Prim.Native.Nat.{ℕ, ◌-◌, ◌≤◌}
use native.Mathlib.Omega.{arith}
use lib.IntN.{ℤ}
use lib.ListN.{length}
use Rattle.octets.specs.Lists.{distinct, up_to}
use Rattle.octets.proofs.Once.{fewer, once-distinct}
use Rattle.octets.proofs.UpTo.{up_to-in, up_to-length}
use Rattle.spot.specs.declared.Spot.{Spot}
use Rattle.block.specs.Table.{blocks_of}
use Rattle.tree.specs.BestFirst.{Pending}
use Rattle.tree.proofs.Sources.{InTable}

module _ (t : List ℕ) (x1 x2 : ℤ) (k : ℕ) (unread : List Pending) (found given : List Spot) (blocks : List ℕ) (g : Progress t x1 x2 k unread found given blocks) where
  -- the blocks read are of the table, and none is read twice
  pub blocks-once : distinct blocks ≡ true
  blocks-once = g.once

  -- each block read is one of the table's
  pub blocks-in : (b : ℕ) → Memᴰ b blocks → InTable t b
  blocks-in = g.places

  -- no block is read twice, and block 0 never is: there are no more than the others
  pub blocks-few : length blocks ≤ blocks_of (length t) - 1
  blocks-few =
      let n = blocks_of (length t) - 1 in
      let h = fewer blocks (up_to 1 n) (once-distinct blocks blocks-once) (λ b i. let r = blocks-in b i in up_to-in 1 n b r.some (omega (arith, r.low))) in
      omega (arith, h, up_to-length 1 n)

  -- no more than k are given
  pub given-few : length given ≤ k
  given-few = g.few
