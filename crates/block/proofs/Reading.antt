-- What the readers of a block give is the node's view: its counts, and its entries by index.
-- Assumes nothing.
use mathlib.Core.Path.{◌≡◌, refl, ap, ◌∙◌}
use mathlib.Core.Bool.{Bool, false, cond}
use mathlib.Core.List.{List}
use Prim.Native.Nat.{ℕ, zero, suc, ◌+◌, ◌*◌, ◌<◌}
use native.Mathlib.Omega.{arith}
use lib.Dec.{eqb, eqb-suc-zero}
use lib.ListN.{length, get_or}
use Rattle.octets.specs.Lists.{records}
use Rattle.octets.specs.Bytes.{be}
use Rattle.octets.proofs.Records.{length-records, records-at}
use Rattle.spot.specs.Spots.{key_at, spot_at}
use Rattle.block.specs.declared.Entry.{Entry}
use Rattle.block.specs.Table.{version1}
use Rattle.block.specs.Node.{node_of, node_from, entry_at, first_open, points_from, inserts_from, deletes_from}
use Rattle.block.specs.Access.{front_of, entry_of}
use Rattle.block.proofs.Views.{length-open}

-- the entry with index i of n from the first on
entry-nth : (s : List ℕ) (n i : ℕ) (d : Entry) → i < n → get_or (first_open (records (entry_at s) 28 n 8)) i d ≡ entry_of s i
unfolding entry_at entry_of
entry-nth s zero i d h = let z : ⊥ = omega arith in absurd z
entry-nth s (suc n) zero d h = refl
entry-nth s (suc n) (suc i) d h =
    let e : 8 + 28 + 28 * i ≡ 8 + 28 * suc i = omega arith in
    records-at (entry_at s) 28 n 36 i d (omega arith) ∙ ap (entry_at s) e ∙ later (eqb (suc i) 0) (eqb-suc-zero i)
  where
    at : ℕ
    at = 8 + 28 * suc i

    later : (b : Bool) → b ≡ false
        → entry_at s at
        ≡ record {
          block = be 2 s at;
          size = be 1 s (at + 2);
          low = cond b 0 (key_at s (at + 4));
          top = cond (eqb (be 1 s (at + 2)) 0) 0 (key_at s (at + 12));
          bottom = cond (eqb (be 1 s (at + 2)) 0) 0 (key_at s (at + 20));
        }
    later b q = rw q

module _ (blocks : ℕ) (s : List ℕ) where
  pub entries-count : length (node_of blocks s).entries ≡ (front_of s).c
  unfolding node_of node_from front_of
  entries-count = length-open (records (entry_at s) 28 (be 1 s 7) 8) ∙ length-records (entry_at s) 28 (be 1 s 7) 8

  pub points-count : length (node_of blocks s).points ≡ (front_of s).p
  unfolding node_of node_from front_of
  points-count = length-records (spot_at s) 12 (be 1 s 4) (points_from version1 (be 1 s 7))

  pub inserts-count : length (node_of blocks s).inserts ≡ (front_of s).i
  unfolding node_of node_from front_of
  inserts-count = length-records (spot_at s) 12 (be 1 s 5) (inserts_from version1 (be 1 s 7) (be 1 s 4))

  pub deletes-count : length (node_of blocks s).deletes ≡ (front_of s).d
  unfolding node_of node_from front_of
  deletes-count = length-records (key_at s) 8 (be 1 s 6) (deletes_from version1 (be 1 s 7) (be 1 s 4) (be 1 s 5))

  pub entry-is : (i : ℕ) (d : Entry) → i < (front_of s).c → get_or (node_of blocks s).entries i d ≡ entry_of s i
  unfolding node_of node_from front_of
  entry-is i d h = entry-nth s (be 1 s 7) i d h
