-- The calls with their arguments, what they are lent, and its lengths: all that the table's definitions share with the model.
-- Assumes nothing.
use Rattle.std.specs.Prelude.{ℕ, Bool, true, false, ◌&&◌, List, ℤ, length, ltb}
use Rattle.octets.specs.Lists.{every}
use Rattle.spot.specs.Keys.{signed32, unsigned32}
use Rattle.ranges.specs.declared.Range.{Range}

-- "Format, Add, Withdraw, Report, Top, Count, Check, Rebuild"; request 2026-01, "Many ranges in one call"; request 2026-10, "What can be said after so many
-- blocks", with k and then the allowance; request 2026-06, "Lists of changes over the air": applying a message, with its bytes
pub data Call : Type 0 where
  format : Call
  add : ℤ → ℤ → ℕ → Call
  withdraw : ℤ → ℤ → Call
  report : ℤ → ℤ → ℤ → Call
  top : ℤ → ℤ → ℕ → Call
  count : Call
  check : Call
  rebuild : Call
  report_many : List Range → Call
  top_within : ℤ → ℤ → ℕ → ℕ → Call
  apply : List ℕ → Call

-- "the lengths of table, output, read map and work area" (the scratch), and of the "lent list of 32-bit numbers". A call that is not lent one of them has any
-- number there.
pub record Lengths : Type 0 where
  pub table : ℕ
  pub output : ℕ
  pub read_map : ℕ
  pub scratch : ℕ
  pub counts : ℕ

-- what a call is lent beside the table, and whether it may change the table: all that follows from this is said of the kind
pub data Kind : Type 0 where
  -- nothing; it may
  makes : Kind
  -- a work area: "Add, Withdraw and Rebuild take a work area", "Applying it takes a work area as Add does"; it may
  updates : Kind
  -- an output and a read map: "Report and Top write a map of 512 bytes"; it may not. The ceiling of a Top within an allowance is a result and not lent.
  queries : Kind
  -- an output, a read map and a list of counts, for so many ranges; it may not
  queries_each : ℕ → Kind
  -- nothing; it may not
  tells : Kind

abbrev pub kind : Call → Kind
kind format = makes
kind (add place rank track) = updates
kind (withdraw place rank) = updates
kind (report x1 x2 y) = queries
kind (top x1 x2 k) = queries
kind count = tells
kind check = tells
kind rebuild = updates
kind (report_many rs) = queries_each (length rs)
kind (top_within x1 x2 k a) = queries
kind (apply m) = updates

abbrev pub takes_output : Kind → Bool
takes_output makes = false
takes_output updates = false
takes_output queries = true
takes_output (queries_each n) = true
takes_output tells = false

abbrev pub takes_scratch : Kind → Bool
takes_scratch makes = false
takes_scratch updates = true
takes_scratch queries = false
takes_scratch (queries_each n) = false
takes_scratch tells = false

-- "The counts go to a lent list of 32-bit numbers"
abbrev pub takes_counts : Kind → Bool
takes_counts makes = false
takes_counts updates = false
takes_counts queries = false
takes_counts (queries_each n) = true
takes_counts tells = false

-- "Report, Top, Count and Check never change the table"
abbrev pub may_change : Kind → Bool
may_change makes = true
may_change updates = true
may_change queries = false
may_change (queries_each n) = false
may_change tells = false

-- the calls that hand out spots
abbrev pub is_query : Call → Bool
is_query c = takes_output (kind c)

-- the calls that hand out counts
abbrev pub is_counting : Call → Bool
is_counting c = takes_counts (kind c)

-- the call that returns a ceiling after the detail
abbrev pub has_ceiling : Call → Bool
has_ceiling format = false
has_ceiling (add place rank track) = false
has_ceiling (withdraw place rank) = false
has_ceiling (report x1 x2 y) = false
has_ceiling (top x1 x2 k) = false
has_ceiling count = false
has_ceiling check = false
has_ceiling rebuild = false
has_ceiling (report_many rs) = false
has_ceiling (top_within x1 x2 k a) = true
has_ceiling (apply m) = false

-- the call whose refusals 4 and 9 have a position as detail
abbrev pub has_position : Call → Bool
has_position format = false
has_position (add place rank track) = false
has_position (withdraw place rank) = false
has_position (report x1 x2 y) = false
has_position (top x1 x2 k) = false
has_position count = false
has_position check = false
has_position rebuild = false
has_position (report_many rs) = false
has_position (top_within x1 x2 k a) = false
has_position (apply m) = true

-- a range's three numbers within their 32 bits
unfoldable pub range_fits : Range → Bool
range_fits r = signed32 r.x1 && signed32 r.x2 && signed32 r.y

-- "A spot has a place and a rank, both signed 32-bit, and a track number, unsigned 32-bit"; "Report(x1, x2, y), all signed 32-bit"; "Top(x1, x2, k), k
-- unsigned 32-bit"; "each with two places and a lowest rank"; "a 32-bit number of node blocks"; a message is bytes
unfoldable pub arguments_fit : Call → Bool
arguments_fit format = true
arguments_fit (add place rank track) = signed32 place && signed32 rank && unsigned32 track
arguments_fit (withdraw place rank) = signed32 place && signed32 rank
arguments_fit (report x1 x2 y) = signed32 x1 && signed32 x2 && signed32 y
arguments_fit (top x1 x2 k) = signed32 x1 && signed32 x2 && unsigned32 k
arguments_fit count = true
arguments_fit check = true
arguments_fit rebuild = true
arguments_fit (report_many rs) = every range_fits rs
arguments_fit (top_within x1 x2 k a) = signed32 x1 && signed32 x2 && unsigned32 k && unsigned32 a
arguments_fit (apply m) = every (λ b. ltb b 256) m
