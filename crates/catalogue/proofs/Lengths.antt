-- What the length of a tour says of its blocks.
-- Assumes nothing.
use mathlib.Core.Path.{◌≡◌}
use mathlib.Core.Bool.{true}
use Prim.Native.Nat.{ℕ, ◌*◌, ◌%◌, ◌≤◌}
use native.Mathlib.Omega.{arith}
use borrow.Author.Tests.{leb-true, eqb-true}
use Rattle.octets.proofs.Tests.{all-at}
use Rattle.block.specs.Table.{blocks_of}
use Rattle.catalogue.specs.Catalogue.{tour_sized}

pub record Lengths (bytes : ℕ) : Type 0 where
  pub whole : bytes ≡ 2048 * blocks_of bytes
  pub some : 1 ≤ blocks_of bytes
  pub few : blocks_of bytes ≤ 16

pub sized-lengths : (bytes : ℕ) → tour_sized bytes ≡ true → Lengths bytes
unfolding tour_sized
sized-lengths bytes h =
    record {
      whole = let e = eqb-true (bytes % 2048) 0 (all-at _ h 0) in omega arith;
      some = leb-true 1 (blocks_of bytes) (all-at _ h 1);
      few = leb-true (blocks_of bytes) 16 (all-at _ h 2);
    }
