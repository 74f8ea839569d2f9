-- Spare blocks for an update, and block 0 after it.
-- Assumes nothing.
use Rattle.std.specs.Prelude.{◌≡◌, ◌⊎◌, ℕ, ◌≤◌, ◌<◌, true, false, length, take, drop}
use mathlib.Core.List.{List, Memᴰ}
use Rattle.octets.specs.Lists.{distinct}
use Rattle.octets.specs.Bitmap.{bit}
use Rattle.block.specs.Table.{block, blocks_of, capacity, map_blocks}
use Rattle.block.specs.Header.{Header, head_of}
use Rattle.block.specs.HeaderRules.{header_ok}
use Rattle.spare.specs.declared.Spare.{Spare}

-- the first `left` of the spare blocks; an update takes them from the end
abbrev pub spare_of : Spare → ℕ → List ℕ
spare_of s left = take left s.blocks

-- the blocks that were taken: those from `left` on
abbrev pub taken_of : Spare → ℕ → List ℕ
taken_of s left = drop left (spare_of s s.n)

-- blocks of the table in which a node may stand, none twice
pub record SpareFits (t : List ℕ) (s : Spare) : Type 0 where
  pub few : s.n ≤ 8
  pub inside : (b : ℕ) → Memᴰ b (spare_of s s.n) → (1 ≤ b) × (b < blocks_of (length t))
  pub once : distinct (spare_of s s.n) ≡ true

-- "Unused blocks hold anything": blocks that the map doesn't mark
pub record SpareIn (t : List ℕ) (s : Spare) : Type 0 where
  pub fits : SpareFits t s
  pub unused : (b : ℕ) → Memᴰ b (spare_of s s.n) → bit (head_of t).in_use b ≡ false

-- block 0 after an update: these levels, this root and this bound, and the blocks taken are marked; every other block is as it was
pub record Reheaded (t t' : List ℕ) (taken : List ℕ) (h root bound : ℕ) : Type 0 where
  pub ok : header_ok (length t) (head_of t') ≡ true
  pub levels : (head_of t').levels ≡ h
  pub root_is : (head_of t').root ≡ root
  pub bound_is : (head_of t').bound ≡ bound
  pub marked : (b : ℕ) → Memᴰ b taken → bit (head_of t').in_use b ≡ true
  pub others : (b : ℕ) → b < map_blocks → (Memᴰ b taken → ⊥) → bit (head_of t').in_use b ≡ bit (head_of t).in_use b
  pub else : (b : ℕ) → (b ≡ 0 → ⊥) → block t' b ≡ block t b
  pub sized : length t' ≡ length t

-- what block 0 may be made to say
pub record HeadFits (t : List ℕ) (s : Spare) (left h root bound : ℕ) : Type 0 where
  pub ok : header_ok (length t) (head_of t) ≡ true
  pub spare : SpareFits t s
  pub less : left ≤ s.n
  pub least : 1 ≤ h
  pub most : h ≤ 7
  pub first : 1 ≤ root
  pub last : root < blocks_of (length t)
  pub used : (bit (head_of t).in_use root ≡ true) ⊎ Memᴰ root (taken_of s left)
  pub few : bound ≤ capacity (length t)

-- blocks below a number that a map does not mark, none twice
pub record Clear (map : List ℕ) (blocks : ℕ) (s : Spare) : Type 0 where
  pub few : s.n ≤ 8
  pub below : (b : ℕ) → Memᴰ b (spare_of s s.n) → b < blocks
  pub clear : (b : ℕ) → Memᴰ b (spare_of s s.n) → bit map b ≡ false
  pub once : distinct (spare_of s s.n) ≡ true

-- blocks taken that a map can mark
pub record TakenFits (s : Spare) (left : ℕ) : Type 0 where
  pub less : left ≤ s.n
  pub few : s.n ≤ 8
  pub below : (b : ℕ) → Memᴰ b (taken_of s left) → b < map_blocks

-- these blocks are marked besides those that were
pub record Marked (m m' : List ℕ) (taken : List ℕ) : Type 0 where
  pub marked : (b : ℕ) → Memᴰ b taken → bit m' b ≡ true
  pub others : (b : ℕ) → (Memᴰ b taken → ⊥) → bit m' b ≡ bit m b
  pub sized : length m' ≡ length m

-- a header with these levels, this root and this bound, the blocks taken are marked, and all else is as it was
pub record HeadTurned (r r' : Header) (taken : List ℕ) (h root bound : ℕ) : Type 0 where
  pub bytes : r'.bytes ≡ r.bytes
  pub version : r'.version ≡ r.version
  pub levels : r'.levels ≡ h
  pub root_is : r'.root ≡ root
  pub bound_is : r'.bound ≡ bound
  pub marks : Marked r.in_use r'.in_use taken
  pub blank : r'.blank ≡ r.blank
