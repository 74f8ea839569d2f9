-- What the queries read and mark on every sound table, so also on one that no history leaves: 01 says so of marks and their bound, and request 2026-10 of the order
-- in which blocks are read. Of Top it is said by `LittleReading`.
-- Assumes nothing.
use Rattle.std.specs.Prelude.{◌≡◌, ◌⊎◌, ◌↔◌, ℕ, ◌+◌, ◌*◌, ◌/◌, ◌≤◌, ◌<◌, true, length, ℤ, pos}
use mathlib.Core.List.{List, [], Memᴰ}
use Rattle.std.specs.Int.Signed.{le_z}
use Rattle.octets.specs.Bitmap.{bit}
use Rattle.spot.specs.Keys.{unbiased}
use Rattle.block.specs.declared.Answer.{Answer}
use Rattle.block.specs.Header.{head_of}
use Rattle.tree.specs.Read.{ReadBlock}
use Rattle.tree.specs.ReadMap.{ones}
use Rattle.tree.specs.Sound.{sound}
use Rattle.within_theory.specs.Reading.{reading, given_of, ceiling_of, reads_in_all}
use Rattle.ranges.specs.declared.Range.{Range}
use Rattle.table.specs.Calls.{report, top, report_many, top_within}
use Rattle.table.specs.Answers.{spots_answer}
use Rattle.table.specs.Queries.{ReportPost, ManyPost, TopWithinPost}
use Rattle.demands.specs.History.{Event, MetBy}
use Rattle.demands.specs.Demands.{OnSound, SecondOnSound}

pub record ReportReads : Type 0 where
  -- "On a sound table an accepted Report reads and marks exactly block 0, the root, and those children of nodes read where .."
  pub marks : (x1 x2 y : ℤ) (t out map : List ℕ) (r : Answer) (out'' map' : List ℕ) → OnSound (report x1 x2 y) t out map [] []
      → ReportPost x1 x2 y t out map r out'' map'
      → r.number ≡ 0
      → (b : ℕ) → b < 4096 → (bit map' b ≡ true) ↔ ((b ≡ 0) ⊎ ReadBlock t x1 x2 y b)
  -- "On a sound table a Report marks at most 1 + 36h + 9 · (spots reported div 16)"
  pub bounded : (x1 x2 y : ℤ) (t out map : List ℕ) (r : Answer) (out'' map' : List ℕ) → OnSound (report x1 x2 y) t out map [] []
      → ReportPost x1 x2 y t out map r out'' map'
      → r.number ≡ 0
      → ones map' ≤ 1 + 36 * (head_of t).levels + 9 * (r.detail / 16)
  pub second : (x1 x2 y : ℤ) → SecondOnSound (report x1 x2 y)

-- request 2026-01
pub record ManyReads : Type 0 where
  -- "The marks are block 0 and the union of the single reports' marks"
  pub marks : (rs : List Range) (t counts out map : List ℕ) (r : Answer) (counts' out'' map' : List ℕ) → OnSound (report_many rs) t out map [] counts
      → ManyPost rs t counts out map r counts' out'' map'
      → r.number ≡ 0
      → (b : ℕ) → b < 4096 → (bit map' b ≡ true) ↔ ((b ≡ 0) ⊎ ((x : Range) × Memᴰ x rs × ReadBlock t x.x1 x.x2 x.y b))
  -- "counts, spots and marks follow the second-table rule"
  pub second : (rs : List Range) → SecondOnSound (report_many rs)

-- request 2026-10: what an accepted call leaves
pub record LeftWithin (x1 x2 : ℤ) (k a : ℕ) (t : List ℕ) (r : Answer) (map' : List ℕ) (c : ℤ) : Type 0 where
  -- "the highest rank of such a child's entry or of a live spot found in range and not given, else the least 32-bit rank"
  pub ceiling : c ≡ unbiased (ceiling_of k (reading t x1 x2 k a))
  -- block 0, and "the root, then always the unread child with spots, in range, whose entry shows the highest rank": the blocks of the reading order
  pub marks : (b : ℕ) → b < 4096 → (bit map' b ≡ true) ↔ ((b ≡ 0) ⊎ Memᴰ b (reading t x1 x2 k a).blocks)
  -- "With allowance or k 0 it reads only block 0 and gives no spot and ceiling 2147483647"
  pub none : (k ≡ 0) ⊎ (a ≡ 0) → (r.detail ≡ 0) × (c ≡ pos 2147483647) × ((reading t x1 x2 k a).blocks ≡ [])

pub record WithinReads : Type 0 where
  -- "It gives .. up to k, the live spots found in range whose rank is above every such child's": so many; that they are the first of Top's is in `Demand2`
  pub many : (x1 x2 : ℤ) (k a : ℕ) (t out map : List ℕ) (r : Answer) (out'' map' : List ℕ) (c : ℤ) → OnSound (top_within x1 x2 k a) t out map [] []
      → TopWithinPost x1 x2 k a t out map r out'' map' c
      → r ≡ spots_answer (length out) (length (given_of k (reading t x1 x2 k a)))
  pub left : (x1 x2 : ℤ) (k a : ℕ) (t out map : List ℕ) (r : Answer) (out'' map' : List ℕ) (c : ℤ) → OnSound (top_within x1 x2 k a) t out map [] []
      → TopWithinPost x1 x2 k a t out map r out'' map' c
      → r.number ≡ 0
      → LeftWithin x1 x2 k a t r map' c
  -- "Where both are accepted, a larger allowance never shortens what is given or raises the ceiling"
  pub grows : (x1 x2 : ℤ) (k a b : ℕ) (t : List ℕ) (e f : Event) → sound t ≡ true → a ≤ b → MetBy (top_within x1 x2 k a) t e → e.answer.number ≡ 0
      → MetBy (top_within x1 x2 k b) t f
      → f.answer.number ≡ 0
      → (e.answer.detail ≤ f.answer.detail) × (le_z f.ceiling' e.ceiling' ≡ true)
  -- "If the allowance reaches what Top reads under this rule, the answer is Top's": every number, also 5, detail and output
  pub reached : (x1 x2 : ℤ) (k a : ℕ) (t : List ℕ) (e f : Event) → sound t ≡ true → reads_in_all t x1 x2 k ≤ a → MetBy (top_within x1 x2 k a) t e
      → MetBy (top x1 x2 k) t f
      → f.output ≡ e.output
      → length f.read_map ≡ length e.read_map
      → (e.answer ≡ f.answer) × (e.output' ≡ f.output')
  -- "Spots, ceiling and marks follow the second-table rule"
  pub second : (x1 x2 : ℤ) (k a : ℕ) → SecondOnSound (top_within x1 x2 k a)
