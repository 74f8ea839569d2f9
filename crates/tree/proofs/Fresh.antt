-- A fresh table of any size.
-- Assumes nothing.
use mathlib.Core.Path.{◌≡◌, refl, ap, sym, ◌∙◌}
use mathlib.Core.Bool.{true, not}
use mathlib.Core.List.{List, [], ◌∷◌}
use Prim.Native.Nat.{ℕ, ◌+◌, ◌-◌, ◌/◌}
use native.Mathlib.Omega.{arith}
use lib.ListN.{length, replicate, length-replicate}
use borrow.Author.Tests.{le-leb, lt-ltb, eq-eqb}
use Rattle.octets.specs.Lists.{all, every, up_to}
use Rattle.octets.specs.Bitmap.{bit}
use Rattle.octets.specs.Bytes.{be, bytes_of}
use Rattle.octets.proofs.UpTo.{up_to-later}
use Rattle.spot.specs.declared.Query.{Query}
use Rattle.spot.specs.Query.{everything}
use Rattle.block.specs.Header.{Header, head_of, header_of}
use Rattle.block.specs.Node.{store_of, node_of, node_from, laid_out, first_blank}
use Rattle.block.specs.Table.{block_ok, table_sized, capacity}
use Rattle.block.specs.Fresh.{fresh_header, fresh_leaf, formatted}
use Rattle.block.specs.NodeRules.{node_ok, child_count_ok, buffers_rise, named_once, names, lows_rise, points_above, filled, lowest, leaf_buffers_empty, agrees, not_below, child_blocks_ok, lows_not_below, children_apart, entries_credible, inside_limits}
use Rattle.block.specs.HeaderRules.{header_ok, map_shows}
use Rattle.block.proofs.Making.{blocks-least, blocks-most}
use Rattle.spot.specs.declared.Spot.{Spot}
use Rattle.tree.specs.Part.{whole}
use Rattle.tree.specs.Sound.{sound_at, in_range, map_exact, sound}
use Rattle.tree.specs.Reach.{reach}
use Rattle.tree.specs.Walk.{walked, walk_table, walk_from, walk, once, enter, finds, live_count, live_spots}

-- a fresh header's map: blocks 0 and 1
abbrev fresh-map : List ℕ
fresh-map = 3 ∷ replicate 511 0

abbrev fresh_head : ℕ → Header
fresh_head n = record { bytes = n; version = 1; levels = 1; root = 1; bound = 0; in_use = fresh-map; blank = true }

-- no other block is marked
all-clear : every (λ b. not (bit fresh-map b)) (up_to 9 4087) ≡ true
unfolding bit be bytes_of
all-clear = refl

all_true : all (true ∷ true ∷ true ∷ true ∷ []) ≡ true
unfolding all be bytes_of
all_true = refl

-- For every size
module _ (n : ℕ) (z : table_sized n ≡ true) where
  -- a fresh table has the length asked for
  pub fresh-sized : length (formatted n) ≡ n
  unfolding formatted fresh_header fresh_leaf be bytes_of
  fresh-sized = simp length-replicate (omega (arith, blocks-least n z))

  fresh-bytes : (head_of (formatted n)).bytes ≡ n
  unfolding head_of header_of formatted fresh_header fresh_leaf be bytes_of
  fresh-bytes = omega (arith, blocks-least n z, blocks-most n z)

  fresh-head : head_of (formatted n) ≡ fresh_head n
  unfolding head_of header_of formatted fresh_header fresh_leaf be bytes_of
  fresh-head = λ i. record { bytes = fresh-bytes i; version = 1; levels = 1; root = 1; bound = 0; in_use = fresh-map; blank = true }

  clear : every (λ b. not (bit fresh-map b)) (up_to (n / 2048) (4096 - n / 2048)) ≡ true
  clear =
      let e : n / 2048 - 9 + 9 ≡ n / 2048 = omega (arith, blocks-least n z) in
      rw e at (up_to-later (λ b. not (bit fresh-map b)) 9 (n / 2048 - 9) (4096 - n / 2048) 4087 (omega (arith, blocks-least n z, blocks-most n z)) all-clear)

  fresh-header-ok : header_ok n (fresh_head n) ≡ true
  unfolding header_ok map_shows block_ok all bit be bytes_of
  fresh-header-ok = rw (eq-eqb n n refl, lt-ltb 1 (n / 2048) (omega (arith, blocks-least n z)), le-leb 0 (capacity n) (omega arith)) (rw (clear, z))

  -- what is done by computation once the header is known
  fresh-walked : (q : Query) → walk_from (fresh_head n) (store_of (formatted n)) q ≡ walked [] (1 ∷ [])
  unfolding all store_of node_of node_from laid_out fresh_header fresh_leaf formatted node_ok child_count_ok buffers_rise named_once names lows_rise points_above filled lowest leaf_buffers_empty agrees not_below child_blocks_ok lows_not_below children_apart entries_credible inside_limits first_blank walk_from walk enter finds be bytes_of once
  fresh-walked q = refl

  fresh-tree : sound_at 1 (store_of (formatted n)) (whole (fresh_head n)) ≡ true
  unfolding all store_of node_of node_from laid_out fresh_header fresh_leaf formatted node_ok child_count_ok buffers_rise named_once names lows_rise points_above filled lowest leaf_buffers_empty agrees not_below child_blocks_ok lows_not_below children_apart entries_credible inside_limits first_blank sound_at in_range be bytes_of
  fresh-tree = refl

  fresh-exact : map_exact fresh-map (reach 1 (store_of (formatted n)) (whole (fresh_head n))) ≡ true
  unfolding all store_of node_of node_from fresh_header fresh_leaf formatted reach map_exact bit be bytes_of
  fresh-exact = refl

  -- a walk finds nothing, and reads the root
  pub fresh-walk : (q : Query) → walk_table (formatted n) q ≡ walked [] (1 ∷ [])
  unfolding walk_table be bytes_of
  fresh-walk q = rw (fresh-head, fresh-sized, fresh-header-ok) (fresh-walked q)

  -- nothing is live
  pub fresh-empty : live_spots (formatted n) ≡ []
  unfolding live_spots be bytes_of
  fresh-empty = rw (fresh-walk everything)

  -- and it is sound
  pub fresh-sound : sound (formatted n) ≡ true
  unfolding sound live_count be bytes_of
  fresh-sound = rw (fresh-head, fresh-sized, fresh-header-ok, fresh-tree, fresh-exact, fresh-empty) all_true

  -- one level
  pub fresh-levels : (head_of (formatted n)).levels ≡ 1
  fresh-levels = ap (λ (h : Header). h.levels) fresh-head

  -- the figure in block 0 is the number of live spots
  pub fresh-figure : (head_of (formatted n)).bound ≡ live_count (formatted n)
  unfolding live_count
  fresh-figure = ap (λ (h : Header). h.bound) fresh-head ∙ sym (ap (λ (ss : List Spot). length ss) fresh-empty)
