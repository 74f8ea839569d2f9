-- The halves of a Report of many ranges, and its promise of a batch by value. `given` are the ranges of the batch, the first n of its 64.
-- Assumes nothing.
use Rattle.std.specs.Prelude.{◌≡◌, ℕ, ◌*◌, ◌≤◌, ◌<◌, true, false, not, ◌||◌, List, [], length, take, drop, get_or, is_some, Option, IfSome, OnSome}
use Rattle.octets.specs.Bitmap.{bit}
use Rattle.spot.specs.Query.{query}
use Rattle.spot.specs.Spots.{spots_in}
use Rattle.spot.specs.declared.Query.{Query}
use Rattle.block.specs.Header.{head_of}
use Rattle.block.specs.HeaderRules.{header_ok}
use Rattle.block.specs.Table.{table_sized}
use Rattle.block.specs.declared.Answer.{Answer}
use Rattle.tally.specs.declared.Tally.{Tally}
use Rattle.tree.specs.ReadMap.{read_map}
use Rattle.tree.specs.Walk.{is_broken, spots, blocks_read, walk_table}
use Rattle.query.specs.Walks.{TableHeld}
use Rattle.ranges.specs.Ranges.{range_at, Handed}
use Rattle.ranges.specs.declared.Range.{Range}
use Rattle.ranges.specs.declared.Batch.{Batch}
use Rattle.report.specs.Joined.{joined, report_of, counts_of}
use Rattle.report.specs.Reports.{written}
use Rattle.table.specs.Queries.{WalkPost, ManyPost}
use Rattle.table.specs.Answers.{counts_left}

-- a map that marks what either of two marks
pub record Union (seen own seen' : List ℕ) : Type 0 where
  pub each : (n : ℕ) → n < 4096 → bit seen' n ≡ bit seen n || bit own n
  pub sized : length seen' ≡ 512

-- the query of a range
abbrev pub asked_by : Range → Query
asked_by r = query r.x1 r.x2 r.y

-- a report counted: there is an s where it is whole, which says how many spots it finds, and those are held; what it reads is marked beside what was
pub record OneCounted (r : Range) (t seen few seen' few' : List ℕ) (s : Option Tally) : Type 0 where
  pub ok : is_some s ≡ not (is_broken (report_of t r))
  pub spots : IfSome s (λ y. y.spots ≡ length (spots (report_of t r)))
  pub bounded : IfSome s (λ y. y.spots ≤ 524288)
  pub sized : length seen' ≡ 512
  pub marks : OnSome s (Union seen (read_map (blocks_read (report_of t r))) seen')
  pub held : TableHeld t (asked_by r) few few' s

-- the ranges of a batch
abbrev pub given : Batch → List Range
given b = take b.n b.all

-- room for the spots and the counts of each, and a map that marks block 0 alone
pub record AllCountable (b : Batch) (t seen few each : List ℕ) : Type 0 where
  pub sized : table_sized (length t) ≡ true
  pub header : header_ok (length t) (head_of t) ≡ true
  pub many : b.n ≤ 64
  pub mapped : seen ≡ read_map []
  pub buffer : 1536 * b.n ≤ length few
  pub numbers : b.n ≤ length each

-- the i-th range's spots, held in its part of the buffer if they fit there
pub record HeldEach (b : Batch) (t few each : List ℕ) : Type 0 where
  pub spots : (i : ℕ) → i < b.n → 12 * get_or each i 0 ≤ 1536
      → spots_in (drop (1536 * i) few) (get_or each i 0) ≡ spots (walk_table t (asked_by (range_at b.all i)))

-- all of them counted; none where one is broken
pub record AllCounted (b : Batch) (t seen' few' each' : List ℕ) (r : Option ℕ) : Type 0 where
  pub told : is_some r ≡ not (is_broken (joined t (given b)))
  pub spots : IfSome r (λ n. n ≡ length (spots (joined t (given b))))
  pub bounded : IfSome r (λ n. n ≤ 524288 * 64)
  pub marks : OnSome r (seen' ≡ read_map (blocks_read (joined t (given b))))
  pub counts : OnSome r (take b.n each' ≡ counts_of t (given b))
  pub held : OnSome r (HeldEach b t few' each')

-- all of them are whole and counted, with room for their spots
pub record AllGivable (b : Batch) (t few each out : List ℕ) : Type 0 where
  pub sized : table_sized (length t) ≡ true
  pub many : b.n ≤ 64
  pub whole : is_broken (joined t (given b)) ≡ false
  pub counts : take b.n each ≡ counts_of t (given b)
  pub buffer : 1536 * b.n ≤ length few
  pub held : HeldEach b t few each
  pub room : 12 * length (spots (joined t (given b))) ≤ length out

-- their spots stand at the front of the output
pub record AllGiven (b : Batch) (t out out'' : List ℕ) : Type 0 where
  pub output : out'' ≡ written (spots (joined t (given b))) out

-- the lengths are right, the ranges few enough, and block 0 is in order
pub record Answerable (b : Batch) (t few counts map : List ℕ) : Type 0 where
  pub sized : table_sized (length t) ≡ true
  pub mapped : length map ≡ 512
  pub matched : length counts ≡ b.n
  pub many : b.n ≤ 64
  pub header : header_ok (length t) (head_of t) ≡ true
  pub buffer : 1536 * b.n ≤ length few

-- then the answer hangs on the walks alone
pub record Answered (b : Batch) (t counts out map : List ℕ) (r : Answer) (counts' out'' map' : List ℕ) : Type 0 where
  pub handed : WalkPost 0 (joined t (given b)) out map r out'' map'
  pub counted : counts' ≡ counts_left r.number (counts_of t (given b)) counts

-- the promise, for every list of ranges that the batch has
abbrev pub ManyOf : Batch → List ℕ → List ℕ → List ℕ → List ℕ → Answer → List ℕ → List ℕ → List ℕ → Type 0
ManyOf b t counts out map r counts' out'' map' = (rs : List Range) → Handed b rs → ManyPost rs t counts out map r counts' out'' map'
