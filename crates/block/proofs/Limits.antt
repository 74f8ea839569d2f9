-- The keys of a node that keeps the rules have places inside the limits, also where they stand in its bytes.
-- Assumes nothing.
use mathlib.Core.Path.{◌≡◌, refl, sym, ap, ◌∙◌}
use mathlib.Core.Bool.{Bool, true, false, cond, ◌&&◌, ◌||◌}
use mathlib.Core.List.{List}
use Prim.Native.Nat.{ℕ, ◌+◌, ◌-◌, ◌*◌, ◌≤◌, ◌<◌}
use native.Mathlib.Omega.{arith}
use lib.Dec.{eqb}
use lib.ListN.{length}
use Rattle.octets.specs.Lists.{every, records}
use Rattle.octets.specs.Bytes.{be}
use Rattle.octets.proofs.Tests.{and_left, and_right}
use Rattle.octets.proofs.Records.{tests-at}
use Rattle.spot.specs.Keys.{limited}
use Rattle.spot.specs.Spots.{key_at, limited_from}
use Rattle.spot.proofs.Limits.{limited-each, limited-spots}
use Rattle.block.specs.declared.Entry.{Entry}
use Rattle.block.specs.Table.{version1, blocks_of, block}
use Rattle.block.specs.Node.{node_of, node_from, store_of, entry_at, first_open, points_from, inserts_from, deletes_from}
use Rattle.block.specs.NodeRules.{ValidBlock, ValidBytes}
use Rattle.block.specs.Access.{front_of}
use Rattle.block.proofs.Views.{every-entry, every-extremes, rest-lows}
use Rattle.block.proofs.Facts.{NodeFacts, node-facts, block-facts}
use Rattle.block.proofs.Frames.{block-length}

-- the bytes of a block of a table
pub valid-bytes : (t : List ℕ) (b : ℕ) → ValidBlock t b → ValidBytes (block t b)
unfolding store_of
valid-bytes t b v =
    record { room = blocks_of (length t); level = v.level; asked = v.asked; ok = v.ok; sized = block-length t b v.inside }

module _ (s : List ℕ) (v : ValidBytes s) where
  facts : NodeFacts v.level v.asked (node_of v.room s)
  facts = node-facts v.level v.asked (node_of v.room s) v.ok

  -- the buffers
  pub points-inside : limited_from s 12 (front_of s).p (points_from version1 (front_of s).c) ≡ true
  unfolding node_of node_from front_of
  points-inside = limited-spots s (be 1 s 4) (8 + 28 * be 1 s 7) ∙ facts.points-limited

  pub inserts-inside : limited_from s 12 (front_of s).i (inserts_from version1 (front_of s).c (front_of s).p) ≡ true
  unfolding node_of node_from front_of
  inserts-inside = limited-spots s (be 1 s 5) (8 + 28 * be 1 s 7 + 12 * be 1 s 4) ∙ facts.inserts-limited

  pub deletes-inside : limited_from s 8 (front_of s).d (deletes_from version1 (front_of s).c (front_of s).p (front_of s).i) ≡ true
  unfolding node_of node_from front_of limited_from
  deletes-inside = facts.deletes-limited

  -- the lows, from the second entry on
  pub lows-inside : limited_from s 28 ((front_of s).c - 1) 40 ≡ true
  unfolding node_of node_from front_of limited_from
  lows-inside = ap (every limited) (sym (rest-lows s (be 1 s 7))) ∙ facts.lows-limited

  -- the i-th entry stands in the block
  pub entry-fits : (i : ℕ) → i < (front_of s).c → (8 + 28 * i + 28 ≤ 1896) × (length s ≡ 2048)
  entry-fits i l = (omega (arith, (block-facts v.room v.level v.asked s v.ok).entries-end), v.sized)

  -- what is used of it
  pub low-inside : (i : ℕ) → 0 < i → i < (front_of s).c → limited (key_at s (8 + 28 * i + 4)) ≡ true
  low-inside i p l =
      let e : 8 + 28 * i + 4 ≡ 40 + 28 * (i - 1) = omega arith in
      ap (λ (k : ℕ). limited (key_at s k)) e ∙ limited-each s 28 ((front_of s).c - 1) 40 lows-inside (i - 1) (omega arith)

  -- both keys that an entry shows
  ended : (i : ℕ) → i < (front_of s).c
      → eqb (be 1 s (8 + 28 * i + 2)) 0
      || (limited (cond (eqb (be 1 s (8 + 28 * i + 2)) 0) 0 (key_at s (8 + 28 * i + 12))) && limited (cond (eqb (be 1 s (8 + 28 * i + 2)) 0) 0 (key_at s (8 + 28 * i + 20))))
      ≡ true
  unfolding node_of node_from front_of entry_at
  ended i l =
      tests-at (λ (j : ℕ). shown (entry_at s j)) 28 (be 1 s 7) 8 i
      (sym (every-extremes limited (first_open (records (entry_at s) 28 (be 1 s 7) 8)) ∙ every-entry shown (λ e. refl) s (be 1 s 7)) ∙ facts.extremes-limited) l
    where
      shown : Entry → Bool
      shown e = eqb e.size 0 || (limited e.top && limited e.bottom)

  ends-inside : (i : ℕ) → i < (front_of s).c → eqb (be 1 s (8 + 28 * i + 2)) 0 ≡ false
      → limited (key_at s (8 + 28 * i + 12)) && limited (key_at s (8 + 28 * i + 20)) ≡ true
  ends-inside i l h = rw h at (ended i l)

  pub top-inside : (i : ℕ) → i < (front_of s).c → eqb (be 1 s (8 + 28 * i + 2)) 0 ≡ false → limited (key_at s (8 + 28 * i + 12)) ≡ true
  top-inside i l h = and_left (limited (key_at s (8 + 28 * i + 12))) (limited (key_at s (8 + 28 * i + 20))) (ends-inside i l h)

  pub bottom-inside : (i : ℕ) → i < (front_of s).c → eqb (be 1 s (8 + 28 * i + 2)) 0 ≡ false → limited (key_at s (8 + 28 * i + 20)) ≡ true
  bottom-inside i l h = and_right (limited (key_at s (8 + 28 * i + 12))) (limited (key_at s (8 + 28 * i + 20))) (ends-inside i l h)
