-- What a block shows depends on its own bytes alone; and a table with one block put in.
-- Assumes nothing.
use mathlib.Core.Path.{◌≡◌, sym, ap, ap₂, ◌∙◌}
use mathlib.Core.Logic.{⊎_elim}
use mathlib.Core.List.{List, ◌++◌}
use Prim.Native.Nat.{ℕ, ◌+◌, ◌-◌, ◌*◌, ◌≤◌, ◌<◌}
use native.Mathlib.Nat.{add-sub_cancel_left}
use native.Mathlib.Omega.{arith}
use lib.ListN.{length, take, drop, length-drop}
use lib.Seq.{length-take-le, drop-drop, take_at, drop_at}
use borrow.Rule.Slice.PartMut.{put_mid, same_len_mid, take_put, drop_put}
use Rattle.octets.proofs.Order.{less-or-not}
use Rattle.block.specs.Table.{block, put_block_in, put_block, blocks_of}
use Rattle.block.specs.Header.{head_of, header_of}
use Rattle.block.specs.Node.{node_of, store_of}
use Rattle.block.proofs.Heads.{part-part}

-- ---- two tables of one length

module _ (t u : List ℕ) (same : length u ≡ length t) where
  pub store_same : (b : ℕ) → block u b ≡ block t b → store_of u b ≡ store_of t b
  unfolding store_of
  store_same b e = ap₂ (λ (n : ℕ) (s : List ℕ). node_of (blocks_of n) s) same e

  pub head-same : block u 0 ≡ block t 0 → head_of u ≡ head_of t
  unfolding head_of
  head-same e = ap header_of e

pub block-length : (t : List ℕ) (b : ℕ) → b * 2048 + 2048 ≤ length t → length (block t b) ≡ 2048
block-length t b h = length-take-le 2048 (drop (b * 2048) t) (rw length-drop (omega arith))

-- ---- a block put in

-- a part of the table that was lent and came back is a block put in
pub put-part-is : (t : List ℕ) (b : ℕ) (s : List ℕ) → put_mid (b * 2048) (b * 2048 + 2048 - b * 2048) t s ≡ put_block t b s
unfolding put_block_in
put-part-is t b s = ap (λ (k : ℕ). put_mid (b * 2048) k t s) (add-sub_cancel_left (b * 2048) 2048)

pub part-is : (t : List ℕ) (b : ℕ) → take (b * 2048 + 2048 - b * 2048) (drop (b * 2048) t) ≡ block t b
part-is t b = ap (λ (k : ℕ). take k (drop (b * 2048) t)) (add-sub_cancel_left (b * 2048) 2048)

module _ (t : List ℕ) (b : ℕ) (s : List ℕ) (fits : b * 2048 + 2048 ≤ length t) (whole : length s ≡ 2048) where
  pub put-length : length (put_block t b s) ≡ length t
  unfolding put_block_in
  put-length = same_len_mid (b * 2048) 2048 t s (whole ∙ sym (block-length t b fits))

  pub block-put-same : block (put_block t b s) b ≡ s
  unfolding put_block_in
  block-put-same =
      let after : List ℕ = drop 2048 (drop (b * 2048) t) in
      ap (take 2048) (drop_at (take (b * 2048) t) (s ++ after) (b * 2048) (length-take-le (b * 2048) t (omega arith))) ∙ take_at s after 2048 whole

  before : (z : ℕ) → z < b → block (put_block t b s) z ≡ block t z
  unfolding put_block_in
  before z h =
      sym (part-part (z * 2048) 2048 (b * 2048) (put_block t b s) (omega arith))
      ∙ ap (λ (l : List ℕ). take 2048 (drop (z * 2048) l)) (take_put (b * 2048) 2048 t s (omega arith))
      ∙ part-part (z * 2048) 2048 (b * 2048) t (omega arith)

  -- what comes after the block
  pub tail-same : drop (b * 2048 + 2048) (put_block t b s) ≡ drop (b * 2048 + 2048) t
  tail-same =
      ap (drop (b * 2048 + 2048)) (sym (put-part-is t b s))
      ∙ drop_put (b * 2048) (b * 2048 + 2048) t s (omega arith) fits (whole ∙ sym (add-sub_cancel_left (b * 2048) 2048))

  later : (z : ℕ) → b < z → block (put_block t b s) z ≡ block t z
  later z h =
      let e : ℕ = b * 2048 + 2048 in
      let k : e + (z * 2048 - e) ≡ z * 2048 = omega arith in
      let from : (x : List ℕ) → block x z ≡ take 2048 (drop (z * 2048 - e) (drop e x)) =
      λ x. ap (λ (n : ℕ). take 2048 (drop n x)) (sym k) ∙ ap (take 2048) (sym (drop-drop (z * 2048 - e) e x))
      in
      from (put_block t b s) ∙ ap (λ (l : List ℕ). take 2048 (drop (z * 2048 - e) l)) tail-same ∙ sym (from t)

  pub block-put-other : (z : ℕ) → (z ≡ b → ⊥) → block (put_block t b s) z ≡ block t z
  block-put-other z d =
      ⊎_elim (λ (l : z ≤ b). before z (omega (arith, d))) (λ (l : b < z). later z l) (less-or-not z b)

  pub store-put-same : store_of (put_block t b s) b ≡ node_of (blocks_of (length t)) s
  unfolding store_of
  store-put-same = ap₂ (λ (n : ℕ) (l : List ℕ). node_of (blocks_of n) l) put-length block-put-same
