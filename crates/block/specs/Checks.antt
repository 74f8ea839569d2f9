-- What each part of the validation of a block computes.
-- Assumes nothing.
use Rattle.std.specs.Prelude.{ℕ, ◌+◌, ◌-◌, ◌*◌, ◌≤◌, ◌<◌, max, ◌≡◌, Bool, true, false, not, cond, ◌&&◌, ◌||◌, List, Option, Some, None, map, ltb, leb, eqb, drop, set}
use Rattle.octets.specs.Lists.{all, every, records, rising_from, has, maximum, minimum, up_to}
use Rattle.octets.specs.Bitmap.{bit}
use Rattle.octets.specs.Bytes.{be}
use Rattle.spot.specs.Keys.{rank_key, start_key, end_key}
use Rattle.spot.specs.Spots.{key_at, keys_from}
use Rattle.block.specs.declared.Extent.{Extent}
use Rattle.block.specs.declared.Front.{Front}
use Rattle.block.specs.declared.Asked.{Asked}
use Rattle.block.specs.declared.Asked.TheVariants.{Root, Child}
use Rattle.block.specs.Table.{blocks_of, capacity, table_sized, map_blocks}
use Rattle.block.specs.NodeRules.{low_of, stands_in}
use Rattle.block.specs.Access.{used_of}

-- both tests pass: `&&`, shut, so that a proof's `_` finds a conjunction's parts
infixl 35 ◌and◌
unfoldable pub ◌and◌ : Bool → Bool → Bool
a and b = a && b

abbrev pub is_zero : ℕ → Bool
is_zero x = eqb x 0

-- k is below low in rank order
abbrev pub ranks_under : ℕ → ℕ → Bool
ranks_under low k = ltb (rank_key k) low

-- k comes before e
abbrev pub comes_before : ℕ → ℕ → Bool
comes_before e k = ltb k e

-- rising, from floor on, and inside the limits above
abbrev pub rises_inside : ℕ → List ℕ → Bool
rises_inside floor ks = rising_from floor ks && every (comes_before end_key) ks

-- the same, and below low in rank order
abbrev pub rises_under : ℕ → ℕ → List ℕ → Bool
rises_under floor low ks = rises_inside floor ks && every (ranks_under low) ks

-- the highest number of 64 bits
abbrev pub last_key : ℕ
last_key = 18446744073709551615

-- a pass over P: its lowest and its highest in rank order
pub record ExtentIs (ks : List ℕ) (r : Extent) : Type 0 where
  pub least : r.low ≡ minimum last_key (map rank_key ks)
  pub most : r.high ≡ maximum (map rank_key ks)

-- these, exactly where it rises from floor on inside the limits
abbrev pub PointsAre : ℕ → List ℕ → Option Extent → Type 0
PointsAre floor ks None = rises_inside floor ks ≡ false
PointsAre floor ks (Some r) = (rises_inside floor ks ≡ true) × ExtentIs ks r

-- r is the first of n spots, not before the one at from, whose key is at least k
pub record Past (s : List ℕ) (at n from k r : ℕ) : Type 0 where
  pub start : from ≤ r
  pub within : r ≤ n
  pub below : (q : ℕ) → from ≤ q → q < r → key_at s (at + 12 * q) < k
  pub reached : r < n → k ≤ key_at s (at + 12 * r)

-- no number of the first list is in the second
abbrev pub apart : List ℕ → List ℕ → Bool
apart xs ys = every (λ x. not (has x ys)) xs

-- where the keys of a node begin: where its range does, inside the limits
unfoldable pub start_of : Asked → ℕ
start_of a = max (low_of a) start_key

-- k lies in a child's range: from its low on, and before the next child's low, the last one's inside the limits
unfoldable pub in_fine : ℕ → ℕ → ℕ → Bool
in_fine from next k = leb from k && ltb k next

-- n points can have this highest and this lowest in rank order: they are the same of one, and of more the highest lies above; both lie in the child's range
unfoldable pub credible_fine : ℕ → ℕ → ℕ → ℕ → ℕ → Bool
credible_fine n top bottom from next =
    ((eqb n 1 && eqb top bottom) || (not (eqb n 1) && ltb (rank_key bottom) (rank_key top)))
    && in_fine from next top
    && in_fine from next bottom

-- the entry at a names another block than b
abbrev pub other_block : ℕ → List ℕ → ℕ → Bool
other_block b s a = not (eqb b (be 2 s a))

-- the size of the child's P, and in the next digit the zero byte that follows it
abbrev pub size_at : List ℕ → ℕ → ℕ
size_at s a = be 1 s (a + 2) + 256 * be 1 s (a + 3)

-- what the entry at a shows, in the node of block own, of a child whose range is from one key up to the next: its block, its zero bytes, and where its child's
-- P isn't empty, that the top is below low in rank order and that some P has this size, top and bottom
unfoldable pub entry_fine : ℕ → ℕ → ℕ → ℕ → ℕ → List ℕ → ℕ → Bool
entry_fine blocks own low from next s a =
    (leb 1 (be 2 s a) && ltb (be 2 s a) blocks && other_block own s a)
    && ((eqb (size_at s a) 0 && eqb (be 8 s (a + 12)) 0 && eqb (be 8 s (a + 20)) 0)
    || (not (eqb (size_at s a) 0) && leb (size_at s a) 64 && (ltb (rank_key (key_at s (a + 12))) low && credible_fine (size_at s a) (key_at s (a + 12)) (key_at s (a + 20)) from next)))

-- where the range of a child begins whose entry stands at a: the first child's where the node's does
abbrev pub from_at : ℕ → List ℕ → ℕ → ℕ
from_at floor s a = cond (eqb a 8) floor (key_at s (a + 4))

-- and where it ends, of the entries that end at end: the last child's where the limits do
abbrev pub next_at : ℕ → List ℕ → ℕ → ℕ
next_at end s a = cond (leb end (a + 28)) end_key (key_at s (a + 32))

-- the same of one of the entries that end at end
unfoldable pub entry_shows : ℕ → ℕ → ℕ → ℕ → ℕ → List ℕ → ℕ → Bool
entry_shows blocks own low floor end s a = entry_fine blocks own low (from_at floor s a) (next_at end s a) s a

-- the first entry's range field is zero, the others' rise from floor on inside the limits
unfoldable pub first_fine : ℕ → List ℕ → ℕ → Bool
first_fine floor s c = eqb c 0 || (eqb (be 8 s 12) 0 && rises_inside floor (keys_from s 28 (c - 1) 40))

unfoldable pub entries_fine : List ℕ → ℕ → ℕ → ℕ → ℕ → ℕ → Bool
entries_fine s c blocks own low floor = all (records (entry_shows blocks own low floor (8 + 28 * c) s) 28 c 8) and first_fine floor s c

-- no entry before the one with index j names its block
unfoldable pub fresh_fine : List ℕ → ℕ → Bool
fresh_fine s j = all (records (other_block (be 2 s (8 + 28 * j)) s) 28 j 8)

-- of c entries none has the index j, or the block of that one is named by none before it
abbrev pub place_fine : ℕ → List ℕ → ℕ → Bool
place_fine c s j = leb c j || fresh_fine s j

-- no two of at most eight entries name one block
unfoldable pub blocks_fine : List ℕ → ℕ → Bool
blocks_fine s c = all (records (place_fine c s) 1 8 0)

-- what the tops of the children lie below in rank order: the lowest of a P that has 32
unfoldable pub above_tops : ℕ → ℕ → ℕ
above_tops p low = cond (ltb p 32) 0 low

-- the number of children, of a leaf and of an inner node
unfoldable pub count_fine : ℕ → ℕ → ℕ → Bool
count_fine level few c = (eqb level 0 && eqb c 0) || (not (eqb level 0) && (leb few c && leb c 8))

-- the sizes of P, I and D, of a filled node and of one with nothing below
unfoldable pub sizes_fine : ℕ → ℕ → ℕ → Bool
sizes_fine p i d = (leb 32 p && leb p 64 && leb i 64 && leb d 16) || (ltb p 32 && eqb i 0 && eqb d 0)

unfoldable pub leaf_fine : ℕ → ℕ → ℕ → Bool
leaf_fine level i d = not (eqb level 0) || (eqb i 0 && eqb d 0)

unfoldable pub front_fine : ℕ → ℕ → Front → Bool
front_fine level few h =
    eqb h.used (used_of h) and leb (used_of h) 1896 and eqb h.version 1 and eqb h.level level
    and count_fine h.level few h.c
    and sizes_fine h.p h.i h.d
    and leaf_fine h.level h.i h.d

-- the entry's keys are of 64 bits
unfoldable pub entry_keyed : Asked → Bool
entry_keyed (Root b) = true
entry_keyed (Child e) = leb e.top last_key && leb e.bottom last_key

-- the entry agrees with P's size, lowest and highest
unfoldable pub agrees_fine : Asked → ℕ → ℕ → ℕ → Bool
agrees_fine (Root b) p low high = true
agrees_fine (Child e) p low high = eqb e.size p && (eqb p 0 || (eqb (rank_key e.top) high && eqb (rank_key e.bottom) low))

-- the keys of P, I and D
abbrev pub keys_p : List ℕ → Front → List ℕ
keys_p s h = keys_from s 12 h.p (8 + 28 * h.c)

abbrev pub keys_i : List ℕ → Front → List ℕ
keys_i s h = keys_from s 12 h.i (8 + 28 * h.c + 12 * h.p)

abbrev pub keys_d : List ℕ → Front → List ℕ
keys_d s h = keys_from s 8 h.d (8 + 28 * h.c + 12 * (h.p + h.i))

-- P's lowest and highest in rank order
abbrev pub low_rank : List ℕ → Front → ℕ
low_rank s h = minimum last_key (map rank_key (keys_p s h))

abbrev pub high_rank : List ℕ → Front → ℕ
high_rank s h = maximum (map rank_key (keys_p s h))

unfoldable pub lists_fine : List ℕ → Asked → Front → Bool
lists_fine s a h =
    rises_inside (start_of a) (keys_p s h) and rises_under (start_of a) (low_rank s h) (keys_i s h) and rises_under (start_of a) (low_rank s h) (keys_d s h)

unfoldable pub rest_fine : List ℕ → ℕ → Asked → Front → Bool
rest_fine s blocks a h =
    apart (keys_i s h) (keys_d s h) and every is_zero (drop h.used s)
    and entries_fine s h.c blocks (stands_in a) (above_tops h.p (low_rank s h)) (start_of a)
    and blocks_fine s h.c
    and agrees_fine a h.p (low_rank s h) (high_rank s h)

unfoldable pub body_fine : List ℕ → ℕ → Asked → Front → Bool
body_fine s blocks a h = lists_fine s a h and rest_fine s blocks a h

-- ---- block 0

-- the map marks block 0 and the root, and no block past the last
unfoldable pub map_fine : ℕ → ℕ → List ℕ → Bool
map_fine blocks root m = bit m 0 && bit m root && every (λ b. not (bit m b)) (up_to blocks (map_blocks - blocks))

-- its numbers agree with a table of this many bytes
unfoldable pub numbers_fine : ℕ → List ℕ → Bool
numbers_fine bytes s =
    eqb (be 4 s 0) bytes and eqb (be 1 s 4) 1 and leb 1 (be 1 s 5) and leb (be 1 s 5) 7 and leb 1 (be 2 s 6) and ltb (be 2 s 6) (blocks_of bytes)
    and leb (be 4 s 8) (capacity bytes)
    and table_sized bytes

-- the bytes of a fresh table that are not zero, past its length
unfoldable pub fresh_marks : List ℕ → List ℕ
fresh_marks t = set (set (set (set (set (set t 4 1) 5 1) 7 1) 12 3) 2049 8) 2050 1
