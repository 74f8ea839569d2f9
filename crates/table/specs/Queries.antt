-- What Report, Report of many ranges, Top, Count and Check promise, for all tables, arguments and lengths. t is the table as lent; out, map and counts are the
-- output, the read map and the counts as lent, out', map' and counts' as left.
-- Assumes nothing.
use Rattle.std.specs.Prelude.{◌≡◌, ℕ, ◌*◌, ◌≤◌, eqb, Bool, true, cond, length, ℤ}
use mathlib.Core.List.{List, ◌++◌, Memᴰ}
use Rattle.octets.specs.Lists.{every, rising}
use Rattle.octets.specs.Bitmap.{bit}
use Rattle.spot.specs.Keys.{limited}
use Rattle.spot.specs.Spots.{keys, limited_from}
use Rattle.spot.specs.Query.{query, top_query, everything, wants}
use Rattle.spot.specs.declared.Spot.{Spot}
use Rattle.spot.specs.declared.Query.{Query}
use Rattle.block.specs.Answers.{answer}
use Rattle.block.specs.declared.Answer.{Answer}
use Rattle.block.specs.Node.{store_of}
use Rattle.block.specs.Table.{map_bytes}
use Rattle.tree.specs.Walk.{Walk, broken, walked, spots, blocks_read, walk_table}
use Rattle.tree.specs.Sound.{sound}
use Rattle.tree.specs.ReadMap.{ones}
use Rattle.tree.specs.Report.{report_table}
use Rattle.tree.specs.Top.{top_walk, top_table}
use Rattle.within_theory.specs.Reading.{within_table, ceiling_within, found_once}
use Rattle.ranges.specs.Ranges.{for_each, count_each}
use Rattle.ranges.specs.declared.Range.{Range}
use Rattle.report.specs.Joined.{joined, counts_of}
use Rattle.table.specs.Calls.{Call, report, top, count, check, report_many, top_within}
use Rattle.table.specs.Answers.{of_table, with_output, with_counts, early_number, unless_refused, spots_answer, output_left, map_left, counts_left, ceiling_left}

-- 3 where a rule is broken, else 0 or 5
unfoldable pub walk_answer : ℕ → Walk → Answer
walk_answer bytes broken = answer 3 0
walk_answer bytes (walked found blocks) = spots_answer bytes (length found)

-- a call that hands out the spots of the walk w and marks its blocks, where lengths and arguments decide the number `early`; the table is lent to be read
pub record WalkPost (early : ℕ) (w : Walk) (out map : List ℕ) (r : Answer) (out'' map' : List ℕ) : Type 0 where
  pub answered : r ≡ unless_refused early (walk_answer (length out) w)
  pub output : out'' ≡ output_left r.number (spots w) out
  pub marks : map' ≡ map_left r.number (blocks_read w) map

abbrev pub QueryPost : Call → Walk → List ℕ → List ℕ → List ℕ → Answer → List ℕ → List ℕ → Type 0
QueryPost c w t out map = WalkPost (early_number (with_output t out map) c) w out map

-- "Report(x1, x2, y), all signed 32-bit, gives all live spots with x1 ≤ place ≤ x2 and rank ≥ y, rising in place order"; "A range whose first place is greater
-- than its last now runs on past the door"; "Report's order is from x1 onward"
abbrev pub ReportPost : ℤ → ℤ → ℤ → List ℕ → List ℕ → List ℕ → Answer → List ℕ → List ℕ → Type 0
ReportPost x1 x2 y t = QueryPost (report x1 x2 y) (report_table t x1 x2 y) t

-- request 2026-01: "Up to 64 ranges, each with two places and a lowest rank, shall be answered together. The counts go to a lent list of 32-bit numbers, one a
-- range, the spots to the output, in the order handed in, as the single reports give them"; "Refusal 5 compares the total of spots; it and the accepted call have
-- that total as detail"
pub record ManyPost (rs : List Range) (t counts out map : List ℕ) (r : Answer) (counts' out'' map' : List ℕ) : Type 0 where
  pub handed : WalkPost (early_number (with_counts t out map counts) (report_many rs)) (joined t rs) out map r out'' map'
  pub counted : counts' ≡ counts_left r.number (counts_of t rs) counts

-- "On an unsound table a call that isn't refused still hands out only spots of its range from blocks marked read": spots that stand in P or I of such a block, a
-- node's and not block 0
pub record HandsOut (q : Query) (t out : List ℕ) (r : Answer) (out'' map' : List ℕ) : Type 0 where
  pub given : List Spot
  pub output : out'' ≡ output_left 0 given out
  pub detail : r.detail ≡ length given
  pub wanted : every (wants q) given ≡ true
  pub marked : (s : Spot) → Memᴰ s given
      → (b : ℕ) × (bit map' b ≡ true) × Memᴰ s ((store_of t b).points ++ (store_of t b).inserts) × (b ≡ 0 → ⊥)
  pub header : bit map' 0 ≡ true
  -- "A stored place outside counts as a broken rule under 3": none is handed out
  pub limits : every limited (keys given) ≡ true

-- request 2026-07: the spots that an accepted call left at the front of an output are all in it and have places inside the limits, on every table (proofs/Given)
abbrev pub GivenInside : Answer → List ℕ → Type 0
GivenInside r out = r.number ≡ 0 → (12 * r.detail ≤ length out) × (limited_from out 12 r.detail 0 ≡ true)

-- the same of many ranges: what is given for each is of that range
pub record HandsOutEach (rs : List Range) (t out : List ℕ) (r : Answer) (counts' out'' map' : List ℕ) : Type 0 where
  pub given : Range → List Spot
  pub output : out'' ≡ output_left 0 (for_each given rs) out
  pub detail : r.detail ≡ length (for_each given rs)
  pub counted : counts' ≡ count_each given rs
  pub wanted : (x : Range) → Memᴰ x rs → every (wants (query x.x1 x.x2 x.y)) (given x) ≡ true
  pub marked : (x : Range) → Memᴰ x rs → (s : Spot) → Memᴰ s (given x)
      → (b : ℕ) × (bit map' b ≡ true) × Memᴰ s ((store_of t b).points ++ (store_of t b).inserts) × (b ≡ 0 → ⊥)
  pub header : bit map' 0 ≡ true
  pub limits : (x : Range) → Memᴰ x rs → every limited (keys (given x)) ≡ true

-- what the call c, a best-first search that finds and reads what the walk w does, leaves on every table. Where an identity is found twice, which only an unsound table
-- has, the choice between the two is free: there `hands_out` alone speaks of the output.
pub record SearchPost (c : Call) (x1 x2 : ℤ) (w : Walk) (once : Bool) (t out map : List ℕ) (r : Answer) (out'' map' : List ℕ) : Type 0 where
  pub answered : r ≡ unless_refused (early_number (with_output t out map) c) (walk_answer (length out) w)
  pub marks : map' ≡ map_left r.number (blocks_read w) map
  pub output : once ≡ true → out'' ≡ output_left r.number (spots w) out
  pub unchanged : (r.number ≡ 0 → ⊥) → out'' ≡ out
  pub hands_out : r.number ≡ 0 → HandsOut (top_query x1 x2 0) t out r out'' map'

-- "Top(x1, x2, k), k unsigned 32-bit, gives, of the live spots with x1 ≤ place ≤ x2, the k highest in rank order (all, if fewer), highest first";
-- "Among equal ranks Top shall list the lower place first and choose by it"
abbrev pub TopPost : ℤ → ℤ → ℕ → List ℕ → List ℕ → List ℕ → Answer → List ℕ → List ℕ → Type 0
TopPost x1 x2 k t = SearchPost (top x1 x2 k) x1 x2 (top_table t x1 x2 k) (rising (keys (spots (top_walk t x1 x2 k)))) t

-- request 2026-10: "the guide allows Top, in a call of its own with Top's refusals, a 32-bit number of node blocks". The reading order, what is given and the ceiling
-- are `reading`, `given_of` and `ceiling_of`; 5 is about the spots that this call gives.
pub record TopWithinPost (x1 x2 : ℤ) (k a : ℕ) (t out map : List ℕ) (r : Answer) (out'' map' : List ℕ) (c : ℤ) : Type 0 where
  pub search : SearchPost (top_within x1 x2 k a) x1 x2 (within_table t x1 x2 k a) (found_once t x1 x2 k a) t out map r out'' map'
  -- "The ceiling, returned after the detail (0 if refused)"
  pub ceiling : c ≡ ceiling_left r.number (ceiling_within t x1 x2 k a)

-- "Count gives the number of live spots"
unfoldable pub count_answer : Walk → Answer
count_answer broken = answer 3 0
count_answer (walked found blocks) = answer 0 (length found)

pub record CountPost (t : List ℕ) (r : Answer) : Type 0 where
  pub answered : r ≡ unless_refused (early_number (of_table t) count) (count_answer (walk_table t everything))

-- "Check says yes exactly if the table is sound"; "1 or 0 for Check's yes or no"
pub record CheckPost (t : List ℕ) (r : Answer) : Type 0 where
  pub answered : r ≡ unless_refused (early_number (of_table t) check) (answer 0 (cond (sound t) 1 0))

-- "The number read is the count of ones", of the map that a call has left; "2, detail 0" where "the read map isn't 512 bytes"
pub record BlocksReadPost (map : List ℕ) (r : Answer) : Type 0 where
  pub answered : r ≡ cond (eqb (length map) map_bytes) (answer 0 (ones map)) (answer 2 0)
