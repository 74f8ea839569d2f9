-- Block 0 written: the map put behind its numbers, and the block put into the table.
-- Assumes nothing.
use mathlib.Core.Path.{◌≡◌, ap, ◌∙◌}
use mathlib.Core.List.{List, ◌++◌}
use Prim.Native.Nat.{ℕ, ◌+◌, ◌*◌, ◌≤◌}
use native.Mathlib.Omega.{arith}
use lib.ListN.{length, take, drop}
use lib.Seq.{drop_at, take_at, length-take-le}
use borrow.Rule.Slice.PartMut.{mid_of, post_of, put_mid, drop_put, mid_len}
use Rattle.octets.specs.Bytes.{be}
use Rattle.octets.proofs.Bytes.{be-left, be-take}
use Rattle.block.specs.Table.{block, put_block}
use Rattle.block.specs.Header.{header_of, head_of}
use Rattle.block.proofs.Frames.{block-put-same}

-- the map m, lent and come back
module _ (s m u : List ℕ) (len : length s ≡ 2048) (sized : length m ≡ length (mid_of 12 512 s)) (e : u ≡ put_mid 12 512 s m) where
  map-long : length m ≡ 512
  map-long = sized ∙ mid_len 12 524 s (omega arith)

  pub numbers_stay : (k j : ℕ) → j + k ≤ 12 → be k u j ≡ be k s j
  numbers_stay k j l =
      let t : length (take 12 s) ≡ 12 = length-take-le 12 s (omega arith) in
      ap (λ (x : List ℕ). be k x j) e ∙ be-left k (take 12 s) (m ++ post_of 12 512 s) j (omega arith) ∙ be-take k 12 s j l

  pub map_is : take 512 (drop 12 u) ≡ m
  map_is =
      ap (λ (x : List ℕ). take 512 (drop 12 x)) e ∙ ap (take 512) (drop_at (take 12 s) (m ++ post_of 12 512 s) 12 (length-take-le 12 s (omega arith)))
      ∙ take_at m (post_of 12 512 s) 512 map-long

  pub tail-stays : drop 524 u ≡ drop 524 s
  tail-stays = ap (drop 524) e ∙ drop_put 12 524 s m (omega arith) (omega arith) map-long

-- the table says then what the bytes say
pub head-put : (t u s : List ℕ) → 0 * 2048 + 2048 ≤ length t → length s ≡ 2048 → u ≡ put_block t 0 s → head_of u ≡ header_of s
unfolding head_of
head-put t u s inside len e = ap (λ (x : List ℕ). header_of (block x 0)) e ∙ ap header_of (block-put-same t 0 s inside len)
