-- The marked cases M1 to M8 of the paper and those of rings, of many ranges, of an allowance, of messages, of a full table, of lengths and of the ends of 32 bits, as rows of one table: a test that antt
-- computes over all of them, and one law that turns it into the equations. A row asks the model, but for M1's, which is of the table's bytes.
-- Assumes nothing.
use mathlib.Core.Path.{◌≡◌, refl, ap, ap₂, ◌∙◌}
use mathlib.Core.Bool.{Bool, true, cond, ◌&&◌}
use mathlib.Core.List.{List, [], ◌∷◌, ◌++◌}
use Prim.Native.Nat.{ℕ, zero, suc, ◌+◌, ◌*◌, ◌/◌, ◌<◌}
use native.Mathlib.Omega.{arith}
use lib.Dec.{eqb}
use borrow.Author.Tests.{eqb-true, eq-eqb, le-ltb}
use lib.ListN.{length, get_or, replicate, take, drop}
use lib.IntN.{ℤ, pos, negsuc}
use Rattle.octets.specs.Lists.{all, every, same_list}
use Rattle.octets.proofs.Tests.{and_left, and_right, all-at, every-at, same_lists}
use Rattle.spot.specs.Keys.{signed32, unsigned32}
use Rattle.spot.specs.Spots.{from_on}
use Rattle.spot.specs.Query.{query, from_of}
use Rattle.block.specs.declared.Answer.{Answer}
use Rattle.block.specs.Answers.{answer}
use Rattle.block.specs.Table.{sized_for, table_sized, capacity}
use Rattle.block.specs.Header.{head_of}
use Rattle.block.specs.Fresh.{formatted}
use Rattle.tree.specs.Walk.{Walk, walked, map_spots, spots}
use Rattle.tree.specs.Report.{report_table}
use Rattle.tree.specs.Sound.{sound}
use Rattle.tree.proofs.Fresh.{fresh-sized, fresh-walk, fresh-sound, fresh-levels}
use Rattle.ranges.specs.declared.Range.{Range}
use Rattle.table.specs.Calls.{Call, format, add, withdraw, report, top, count, check, rebuild, report_many, top_within, apply, Lengths, range_fits, arguments_fit}
use Rattle.table.specs.Answers.{with_output, spots_answer, output_left}
use Rattle.table.specs.Queries.{walk_answer, ReportPost}
use Rattle.demands.specs.Model.{Plain, begun_empty, eq_z, has_identity, place_before, top_before, of_places, of_report, from_onward, reported, taken_out, brought_in, highest, four_bytes, complement, Reply, output_after, counts_after, refuse, accept, bad_table, bad_lent, too_many, outside, two_number, four_number, of_complement, hung_by, taken_down_by, begins_right, plain_message, no_message, changes_outside, full, turned_down, changed_by, hand_out, own_reply, reply, told_call}
use Rattle.table.proofs.Answering.{long-enough}

-- a table of this many blocks, a read map and a work area as they should be, an output of this many bytes, and this many counts
abbrev lens_for : ℕ → ℕ → ℕ → Lengths
lens_for n blocks bytes = record { table = blocks * 2048; output = bytes; read_map = 512; scratch = blocks * 2048; counts = n }

abbrev lens : ℕ → ℕ → Lengths
lens = lens_for 0

-- 9 blocks
abbrev room : ℕ → Lengths
room bytes = lens 9 bytes

-- after some calls on 9 blocks, the next one, lent these lengths, has this number and detail, and leaves these bytes at the front of the output
pub record Ask : Type 0 where
  pub before : List Call
  pub call : Call
  pub lent : Lengths
  pub number : ℕ
  pub detail : ℕ
  pub front : List ℕ

-- a row: a call, one with the counts that it leaves, or a table of so many blocks fresh from Format, with its levels and its capacity
pub data Row : Type 0 where
  asks : Ask → Row
  asks_each : Ask → List ℕ → Row
  fresh : ℕ → ℕ → ℕ → Row

after : List Call → Plain → Plain
after [] ps = ps
after (c ∷ cs) ps = after cs (reply (room 0) c ps).next

-- what the model answers
pub found : Ask → Reply
found r = reply r.lent r.call (after r.before begun_empty)

-- the output and the counts are lent full of 7s
abbrev pub sevens : Ask → List ℕ
sevens r = replicate r.lent.output 7

abbrev pub sevens_each : Ask → List ℕ
sevens_each r = replicate r.lent.counts 7

asked : Ask → Bool
asked r =
    all (
    every arguments_fit (r.call ∷ r.before) ∷
    eqb (found r).answer.number r.number ∷
    eqb (found r).answer.detail r.detail ∷
    same_list (output_after (found r) (sevens r)) (r.front ++ drop (length r.front) (sevens r)) ∷
    [])

right : Row → Bool
right (asks r) = asked r
right (asks_each r left) = asked r && same_list (counts_after (found r) (sevens_each r)) left
right (fresh blocks levels held) = all (table_sized (blocks * 2048) ∷ eqb 1 levels ∷ eqb (capacity (blocks * 2048)) held ∷ [])

-- the two ends of 32 bits
abbrev least : ℤ
least = negsuc 2147483647

abbrev most : ℤ
most = pos 2147483647

-- the two ends of the places
abbrev first_place : ℤ
first_place = negsuc 999999

abbrev last_place : ℤ
last_place = pos 1000000

abbrev two : List Call
two = add (pos 0) (pos 7) 1 ∷ add (pos 240) (pos 7) 2 ∷ []

-- a row of one rank, on both sides of place 0, and a higher spot
abbrev row : List Call
row = add (pos 0) (pos 7) 1 ∷ add (pos 240) (pos 7) 2 ∷ add (negsuc 2) (pos 7) 3 ∷ add (pos 100) (pos 8) 4 ∷ []

-- n spots: places and ranks n - 1 down to 0, the track 1
filling : ℕ → List Call
filling zero = []
filling (suc n) = add (pos n) (pos n) 1 ∷ filling n

-- a spot at each corner, and one at (-1, 0) and (0, -1)
abbrev corners : List Call
corners =
    add last_place most 1 ∷ add first_place least 2 ∷ add first_place most 3 ∷ add last_place least 4 ∷ add (pos 0) (negsuc 0) 5 ∷ add (negsuc 0) (pos 0) 4294967295 ∷ []

abbrev range : ℤ → ℤ → ℤ → Range
range x1 x2 y = record { x1 = x1; x2 = x2; y = y }

-- two ranges that both have place 100
abbrev overlapping : Call
overlapping = report_many (range (pos 0) (pos 100) (pos 7) ∷ range (pos 100) (pos 240) (pos 7) ∷ [])

-- a Top for as many spots, and with as large an allowance, as 32 bits hold
abbrev within : Call
within = top_within (pos 0) (pos 240) 4294967295 4294967295

-- the range of place 0, n times
abbrev times : ℕ → Call
times n = report_many (replicate n (range (pos 0) (pos 0) least))

-- a message of so many changes, under 256 bytes, with its length in front
abbrev message : ℕ → List ℕ → List ℕ
message n changes = 0 ∷ 0 ∷ 0 ∷ (7 + length changes) ∷ 1 ∷ 0 ∷ n ∷ changes

-- such changes
abbrev hung : ℕ → ℕ → ℕ → List ℕ
hung place rank track = 1 ∷ 0 ∷ 0 ∷ 0 ∷ place ∷ 0 ∷ 0 ∷ 0 ∷ rank ∷ 0 ∷ 0 ∷ 0 ∷ track ∷ []

abbrev down : ℕ → ℕ → List ℕ
down place rank = 2 ∷ 0 ∷ 0 ∷ 0 ∷ place ∷ 0 ∷ 0 ∷ 0 ∷ rank ∷ []

-- (0, 7) goes out and (100, -1) with track 9 comes in, byte by byte
abbrev exchanging : List ℕ
exchanging =
    0 ∷ 0 ∷ 0 ∷ 29 ∷ 1 ∷ 0 ∷ 2 ∷
    2 ∷ 0 ∷ 0 ∷ 0 ∷ 0 ∷ 0 ∷ 0 ∷ 0 ∷ 7 ∷
    1 ∷ 0 ∷ 0 ∷ 0 ∷ 100 ∷ 255 ∷ 255 ∷ 255 ∷ 255 ∷ 0 ∷ 0 ∷ 0 ∷ 9 ∷ []

-- the place of its second change is 1,000,001
abbrev leaving : List ℕ
leaving = message 3 (hung 0 7 1 ++ (2 ∷ 0 ∷ 15 ∷ 66 ∷ 65 ∷ 0 ∷ 0 ∷ 0 ∷ 7 ∷ []) ++ (2 ∷ 255 ∷ 240 ∷ 189 ∷ 191 ∷ 0 ∷ 0 ∷ 0 ∷ 7 ∷ []))

-- the rows
pub rows : List Row
rows =
    -- M1: sound, one level, capacity 128, any report empty; and the same report of the model
    fresh 9 1 128 ∷
    asks (record { before = []; call = report least most least; lent = room 0; number = 0; detail = 0; front = [] }) ∷
    -- M2
    asks (record { before = add (pos 0) (pos 5) 1 ∷ add (pos 0) (pos 5) 2 ∷ []; call = report (pos 0) (pos 0) (pos 5); lent = room 12; number = 0; detail = 1; front = 0 ∷ 0 ∷ 0 ∷ 0 ∷ 0 ∷ 0 ∷ 0 ∷ 5 ∷ 0 ∷ 0 ∷ 0 ∷ 2 ∷ [] }) ∷
    -- M3
    asks (record { before = add (pos 0) (pos 5) 1 ∷ []; call = withdraw (pos 0) (pos 5); lent = room 0; number = 0; detail = 0; front = [] }) ∷
    asks (record { before = add (pos 0) (pos 5) 1 ∷ withdraw (pos 0) (pos 5) ∷ []; call = withdraw (pos 0) (pos 5); lent = room 0; number = 0; detail = 0; front = [] }) ∷
    asks (record { before = add (pos 0) (pos 5) 1 ∷ withdraw (pos 0) (pos 5) ∷ withdraw (pos 0) (pos 5) ∷ []; call = count; lent = room 0; number = 0; detail = 0; front = [] }) ∷
    -- M4: "gives place 0"
    asks (record { before = two; call = top (pos 0) (pos 240) 1; lent = room 12; number = 0; detail = 1; front = 0 ∷ 0 ∷ 0 ∷ 0 ∷ 0 ∷ 0 ∷ 0 ∷ 7 ∷ 0 ∷ 0 ∷ 0 ∷ 1 ∷ [] }) ∷
    -- a row of equal ranks: the lower place first, in the list and where k cuts inside it; a higher rank before all of them
    asks (record { before = row; call = top (negsuc 2) (pos 240) 3; lent = room 36; number = 0; detail = 3; front = 0 ∷ 0 ∷ 0 ∷ 100 ∷ 0 ∷ 0 ∷ 0 ∷ 8 ∷ 0 ∷ 0 ∷ 0 ∷ 4 ∷ 255 ∷ 255 ∷ 255 ∷ 253 ∷ 0 ∷ 0 ∷ 0 ∷ 7 ∷ 0 ∷ 0 ∷ 0 ∷ 3 ∷ 0 ∷ 0 ∷ 0 ∷ 0 ∷ 0 ∷ 0 ∷ 0 ∷ 7 ∷ 0 ∷ 0 ∷ 0 ∷ 1 ∷ [] }) ∷
    asks (record { before = row; call = top (negsuc 2) (pos 240) 4; lent = room 48; number = 0; detail = 4; front = 0 ∷ 0 ∷ 0 ∷ 100 ∷ 0 ∷ 0 ∷ 0 ∷ 8 ∷ 0 ∷ 0 ∷ 0 ∷ 4 ∷ 255 ∷ 255 ∷ 255 ∷ 253 ∷ 0 ∷ 0 ∷ 0 ∷ 7 ∷ 0 ∷ 0 ∷ 0 ∷ 3 ∷ 0 ∷ 0 ∷ 0 ∷ 0 ∷ 0 ∷ 0 ∷ 0 ∷ 7 ∷ 0 ∷ 0 ∷ 0 ∷ 1 ∷ 0 ∷ 0 ∷ 0 ∷ 240 ∷ 0 ∷ 0 ∷ 0 ∷ 7 ∷ 0 ∷ 0 ∷ 0 ∷ 2 ∷ [] }) ∷
    asks (record { before = row; call = top (negsuc 1) (pos 99) 1; lent = room 12; number = 0; detail = 1; front = 0 ∷ 0 ∷ 0 ∷ 0 ∷ 0 ∷ 0 ∷ 0 ∷ 7 ∷ 0 ∷ 0 ∷ 0 ∷ 1 ∷ [] }) ∷
    -- within an allowance: untold, as a Top; told how many it can give, as a Top for so many, and 5 is about those
    asks (record { before = two; call = within; lent = room 24; number = 0; detail = 2; front = 0 ∷ 0 ∷ 0 ∷ 0 ∷ 0 ∷ 0 ∷ 0 ∷ 7 ∷ 0 ∷ 0 ∷ 0 ∷ 1 ∷ 0 ∷ 0 ∷ 0 ∷ 240 ∷ 0 ∷ 0 ∷ 0 ∷ 7 ∷ 0 ∷ 0 ∷ 0 ∷ 2 ∷ [] }) ∷
    asks (record { before = two; call = within; lent = room 23; number = 5; detail = 2; front = [] }) ∷
    asks (record { before = two; call = told_call within 1; lent = room 23; number = 0; detail = 1; front = 0 ∷ 0 ∷ 0 ∷ 0 ∷ 0 ∷ 0 ∷ 0 ∷ 7 ∷ 0 ∷ 0 ∷ 0 ∷ 1 ∷ [] }) ∷
    asks (record { before = two; call = told_call within 1; lent = room 11; number = 5; detail = 1; front = [] }) ∷
    asks (record { before = two; call = told_call within 0; lent = room 0; number = 0; detail = 0; front = [] }) ∷
    asks (record { before = two; call = within; lent = record { table = 18432; output = 24; read_map = 511; scratch = 0; counts = 0 }; number = 2; detail = 0; front = [] }) ∷
    -- M5: "gives both spots, place 240 first"
    asks (record { before = two; call = report (pos 240) (pos 0) (pos 7); lent = room 24; number = 0; detail = 2; front = 0 ∷ 0 ∷ 0 ∷ 240 ∷ 0 ∷ 0 ∷ 0 ∷ 7 ∷ 0 ∷ 0 ∷ 0 ∷ 2 ∷ 0 ∷ 0 ∷ 0 ∷ 0 ∷ 0 ∷ 0 ∷ 0 ∷ 7 ∷ 0 ∷ 0 ∷ 0 ∷ 1 ∷ [] }) ∷
    -- x1 just above x2: every place, begun at x1. Top of such a range: its order stays.
    asks (record {
      before = row;
      call = report (pos 101) (pos 100) least;
      lent = room 48;
      number = 0;
      detail = 4;
      front =
          0 ∷ 0 ∷ 0 ∷ 240 ∷ 0 ∷ 0 ∷ 0 ∷ 7 ∷ 0 ∷ 0 ∷ 0 ∷ 2 ∷
          255 ∷ 255 ∷ 255 ∷ 253 ∷ 0 ∷ 0 ∷ 0 ∷ 7 ∷ 0 ∷ 0 ∷ 0 ∷ 3 ∷
          0 ∷ 0 ∷ 0 ∷ 0 ∷ 0 ∷ 0 ∷ 0 ∷ 7 ∷ 0 ∷ 0 ∷ 0 ∷ 1 ∷
          0 ∷ 0 ∷ 0 ∷ 100 ∷ 0 ∷ 0 ∷ 0 ∷ 8 ∷ 0 ∷ 0 ∷ 0 ∷ 4 ∷ [];
    }) ∷
    asks (record { before = row; call = top (pos 101) (negsuc 2) 3; lent = room 24; number = 0; detail = 2; front = 255 ∷ 255 ∷ 255 ∷ 253 ∷ 0 ∷ 0 ∷ 0 ∷ 7 ∷ 0 ∷ 0 ∷ 0 ∷ 3 ∷ 0 ∷ 0 ∷ 0 ∷ 240 ∷ 0 ∷ 0 ∷ 0 ∷ 7 ∷ 0 ∷ 0 ∷ 0 ∷ 2 ∷ [] }) ∷
    -- many ranges: spots in the order handed in, those of two ranges twice
    asks_each (record {
      before = row;
      call = overlapping;
      lent = lens_for 2 9 50;
      number = 0;
      detail = 4;
      front =
          0 ∷ 0 ∷ 0 ∷ 0 ∷ 0 ∷ 0 ∷ 0 ∷ 7 ∷ 0 ∷ 0 ∷ 0 ∷ 1 ∷
          0 ∷ 0 ∷ 0 ∷ 100 ∷ 0 ∷ 0 ∷ 0 ∷ 8 ∷ 0 ∷ 0 ∷ 0 ∷ 4 ∷
          0 ∷ 0 ∷ 0 ∷ 100 ∷ 0 ∷ 0 ∷ 0 ∷ 8 ∷ 0 ∷ 0 ∷ 0 ∷ 4 ∷
          0 ∷ 0 ∷ 0 ∷ 240 ∷ 0 ∷ 0 ∷ 0 ∷ 7 ∷ 0 ∷ 0 ∷ 0 ∷ 2 ∷ [];
    }) (2 ∷ 2 ∷ []) ∷
    -- a ring among them, from x1 onward, and a range with no spots
    asks_each (record {
      before = row;
      call = report_many (range (pos 0) (pos 0) (pos 7) ∷ range (pos 101) (negsuc 2) least ∷ range (pos 1) (pos 99) least ∷ []);
      lent = lens_for 3 9 36;
      number = 0;
      detail = 3;
      front =
          0 ∷ 0 ∷ 0 ∷ 0 ∷ 0 ∷ 0 ∷ 0 ∷ 7 ∷ 0 ∷ 0 ∷ 0 ∷ 1 ∷
          0 ∷ 0 ∷ 0 ∷ 240 ∷ 0 ∷ 0 ∷ 0 ∷ 7 ∷ 0 ∷ 0 ∷ 0 ∷ 2 ∷
          255 ∷ 255 ∷ 255 ∷ 253 ∷ 0 ∷ 0 ∷ 0 ∷ 7 ∷ 0 ∷ 0 ∷ 0 ∷ 3 ∷ [];
    }) (1 ∷ 2 ∷ 0 ∷ []) ∷
    -- no ranges
    asks_each (record { before = row; call = report_many []; lent = lens_for 0 9 12; number = 0; detail = 0; front = [] }) [] ∷
    -- 64 ranges are taken; 65 give 6, also where the output is too short; another number of counts, or a wrong map, gives 2 first, and a wrong table 1
    asks_each (record { before = []; call = times 64; lent = lens_for 64 9 0; number = 0; detail = 0; front = [] }) (replicate 64 0) ∷
    asks_each (record { before = two; call = times 65; lent = lens_for 65 9 0; number = 6; detail = 0; front = [] }) (replicate 65 7) ∷
    asks_each (record { before = two; call = times 65; lent = lens_for 64 9 0; number = 2; detail = 0; front = [] }) (replicate 64 7) ∷
    asks_each (record { before = two; call = times 1; lent = lens_for 2 9 12; number = 2; detail = 0; front = [] }) (7 ∷ 7 ∷ []) ∷
    asks_each (record { before = two; call = times 65; lent = record { table = 18432; output = 0; read_map = 511; scratch = 0; counts = 65 }; number = 2; detail = 0; front = [] }) (replicate 65 7) ∷
    asks_each (record { before = two; call = times 65; lent = lens_for 64 8 0; number = 1; detail = 0; front = [] }) (replicate 64 7) ∷
    -- 5, with the whole total
    asks_each (record { before = row; call = overlapping; lent = lens_for 2 9 47; number = 5; detail = 4; front = [] }) (7 ∷ 7 ∷ []) ∷
    -- M6
    asks (record { before = add (pos 0) most 1 ∷ []; call = report (pos 0) (pos 0) most; lent = room 12; number = 0; detail = 1; front = 0 ∷ 0 ∷ 0 ∷ 0 ∷ 127 ∷ 255 ∷ 255 ∷ 255 ∷ 0 ∷ 0 ∷ 0 ∷ 1 ∷ [] }) ∷
    asks (record { before = add (pos 0) most 1 ∷ add (pos 0) least 2 ∷ add (negsuc 0) most 3 ∷ []; call = report (pos 0) (pos 0) least; lent = room 24; number = 0; detail = 2; front = 0 ∷ 0 ∷ 0 ∷ 0 ∷ 128 ∷ 0 ∷ 0 ∷ 0 ∷ 0 ∷ 0 ∷ 0 ∷ 2 ∷ 0 ∷ 0 ∷ 0 ∷ 0 ∷ 127 ∷ 255 ∷ 255 ∷ 255 ∷ 0 ∷ 0 ∷ 0 ∷ 1 ∷ [] }) ∷
    -- M7
    asks (record { before = two; call = report (pos 0) (pos 240) (pos 7); lent = room 12; number = 5; detail = 2; front = [] }) ∷
    asks (record { before = two; call = report (pos 0) (pos 240) (pos 7); lent = room 24; number = 0; detail = 2; front = 0 ∷ 0 ∷ 0 ∷ 0 ∷ 0 ∷ 0 ∷ 0 ∷ 7 ∷ 0 ∷ 0 ∷ 0 ∷ 1 ∷ 0 ∷ 0 ∷ 0 ∷ 240 ∷ 0 ∷ 0 ∷ 0 ∷ 7 ∷ 0 ∷ 0 ∷ 0 ∷ 2 ∷ [] }) ∷
    -- M8
    asks (record { before = two; call = top (pos 0) (pos 240) 0; lent = room 24; number = 0; detail = 0; front = [] }) ∷
    -- 8 or 4,097 blocks, or no whole number of them: 1; 9 or 4,096: accepted
    asks (record { before = []; call = format; lent = lens 8 0; number = 1; detail = 0; front = [] }) ∷
    asks (record { before = []; call = check; lent = lens 4097 0; number = 1; detail = 0; front = [] }) ∷
    asks (record { before = []; call = count; lent = record { table = 18433; output = 0; read_map = 512; scratch = 18433; counts = 0 }; number = 1; detail = 0; front = [] }) ∷
    asks (record { before = []; call = check; lent = lens 9 0; number = 0; detail = 1; front = [] }) ∷
    asks (record { before = []; call = format; lent = lens 4096 0; number = 0; detail = 0; front = [] }) ∷
    -- 2, and 1 before it
    asks (record { before = two; call = top (pos 0) (pos 240) 1; lent = record { table = 18432; output = 12; read_map = 511; scratch = 0; counts = 0 }; number = 2; detail = 0; front = [] }) ∷
    asks (record { before = two; call = rebuild; lent = record { table = 18432; output = 0; read_map = 0; scratch = 18431; counts = 0 }; number = 2; detail = 0; front = [] }) ∷
    asks (record { before = two; call = rebuild; lent = record { table = 18431; output = 0; read_map = 0; scratch = 0; counts = 0 }; number = 1; detail = 0; front = [] }) ∷
    asks (record { before = two; call = add (pos 0) (pos 8) 3; lent = record { table = 18432; output = 0; read_map = 0; scratch = 18431; counts = 0 }; number = 2; detail = 0; front = [] }) ∷
    asks (record { before = two; call = withdraw (pos 0) (pos 7); lent = record { table = 18432; output = 0; read_map = 0; scratch = 18431; counts = 0 }; number = 2; detail = 0; front = [] }) ∷
    asks (record { before = two; call = report (pos 0) (pos 240) (pos 7); lent = record { table = 18432; output = 24; read_map = 513; scratch = 0; counts = 0 }; number = 2; detail = 0; front = [] }) ∷
    -- what a call is not lent is of no account to it
    asks (record { before = two; call = add (pos 0) (pos 8) 3; lent = record { table = 18432; output = 0; read_map = 0; scratch = 18432; counts = 0 }; number = 0; detail = 0; front = [] }) ∷
    asks (record { before = two; call = withdraw (pos 0) (pos 7); lent = record { table = 18432; output = 0; read_map = 0; scratch = 18432; counts = 0 }; number = 0; detail = 0; front = [] }) ∷
    asks (record { before = two; call = rebuild; lent = record { table = 18432; output = 0; read_map = 0; scratch = 18432; counts = 0 }; number = 0; detail = 0; front = [] }) ∷
    asks (record { before = two; call = report (pos 1) (pos 239) (pos 7); lent = record { table = 18432; output = 0; read_map = 512; scratch = 0; counts = 0 }; number = 0; detail = 0; front = [] }) ∷
    asks (record { before = two; call = top (pos 0) (pos 240) 0; lent = record { table = 18432; output = 0; read_map = 512; scratch = 0; counts = 0 }; number = 0; detail = 0; front = [] }) ∷
    asks (record { before = two; call = format; lent = record { table = 18432; output = 0; read_map = 0; scratch = 0; counts = 0 }; number = 0; detail = 0; front = [] }) ∷
    asks (record { before = two; call = count; lent = record { table = 18432; output = 0; read_map = 0; scratch = 0; counts = 0 }; number = 0; detail = 2; front = [] }) ∷
    asks (record { before = two; call = check; lent = record { table = 18432; output = 0; read_map = 0; scratch = 0; counts = 0 }; number = 0; detail = 1; front = [] }) ∷
    -- 128 spots in 9 blocks: "a new identity gives 4, a present one is replaced. After one withdrawal a new one is accepted."
    asks (record { before = filling 128; call = count; lent = room 0; number = 0; detail = 128; front = [] }) ∷
    asks (record { before = filling 128; call = add (pos 5) (pos 6) 9; lent = room 0; number = 4; detail = 0; front = [] }) ∷
    asks (record { before = filling 128; call = add (pos 5) (pos 5) 9; lent = room 0; number = 0; detail = 0; front = [] }) ∷
    asks (record { before = filling 128 ++ (add (pos 5) (pos 5) 9 ∷ []); call = report (pos 5) (pos 5) (pos 5); lent = room 13; number = 0; detail = 1; front = 0 ∷ 0 ∷ 0 ∷ 5 ∷ 0 ∷ 0 ∷ 0 ∷ 5 ∷ 0 ∷ 0 ∷ 0 ∷ 9 ∷ [] }) ∷
    asks (record { before = filling 128 ++ (add (pos 5) (pos 5) 9 ∷ []); call = count; lent = room 0; number = 0; detail = 128; front = [] }) ∷
    asks (record { before = filling 128 ++ (withdraw (pos 5) (pos 5) ∷ []); call = add (pos 5) (pos 6) 9; lent = room 0; number = 0; detail = 0; front = [] }) ∷
    asks (record { before = filling 128 ++ (withdraw (pos 5) (pos 5) ∷ add (pos 5) (pos 6) 9 ∷ []); call = report (pos 5) (pos 5) least; lent = room 12; number = 0; detail = 1; front = 0 ∷ 0 ∷ 0 ∷ 5 ∷ 0 ∷ 0 ∷ 0 ∷ 6 ∷ 0 ∷ 0 ∷ 0 ∷ 9 ∷ [] }) ∷
    -- past the ends of the places: 9, before 4, and the list is as it was; 2 and 1 before it
    asks (record { before = two; call = add (pos 1000001) (pos 7) 3; lent = room 0; number = 9; detail = 0; front = [] }) ∷
    asks (record { before = two; call = add (negsuc 1000000) (pos 7) 3; lent = room 0; number = 9; detail = 0; front = [] }) ∷
    asks (record { before = two; call = withdraw (pos 1000001) (pos 7); lent = room 0; number = 9; detail = 0; front = [] }) ∷
    asks (record { before = two; call = withdraw least (pos 7); lent = room 0; number = 9; detail = 0; front = [] }) ∷
    asks (record { before = filling 128; call = add most (pos 6) 9; lent = room 0; number = 9; detail = 0; front = [] }) ∷
    asks (record { before = two ++ (add (pos 1000001) (pos 7) 3 ∷ withdraw (negsuc 1000000) (pos 7) ∷ []); call = count; lent = room 0; number = 0; detail = 2; front = [] }) ∷
    asks (record { before = two; call = add most (pos 7) 3; lent = record { table = 18432; output = 0; read_map = 0; scratch = 18431; counts = 0 }; number = 2; detail = 0; front = [] }) ∷
    asks (record { before = two; call = withdraw most (pos 7); lent = record { table = 18431; output = 0; read_map = 0; scratch = 0; counts = 0 }; number = 1; detail = 0; front = [] }) ∷
    asks (record { before = corners ++ (withdraw first_place least ∷ withdraw last_place most ∷ []); call = count; lent = room 0; number = 0; detail = 4; front = [] }) ∷
    -- a message: its changes one after another, the later one of an identity holds, and one with no change
    asks (record { before = two; call = apply exchanging; lent = room 0; number = 0; detail = 0; front = [] }) ∷
    asks (record { before = two ++ (apply exchanging ∷ []); call = report (pos 0) (pos 240) least; lent = room 24; number = 0; detail = 2; front = 0 ∷ 0 ∷ 0 ∷ 100 ∷ 255 ∷ 255 ∷ 255 ∷ 255 ∷ 0 ∷ 0 ∷ 0 ∷ 9 ∷ 0 ∷ 0 ∷ 0 ∷ 240 ∷ 0 ∷ 0 ∷ 0 ∷ 7 ∷ 0 ∷ 0 ∷ 0 ∷ 2 ∷ [] }) ∷
    asks (record { before = apply (message 3 (hung 5 6 1 ++ down 5 6 ++ hung 5 6 2)) ∷ []; call = report (pos 5) (pos 5) least; lent = room 12; number = 0; detail = 1; front = 0 ∷ 0 ∷ 0 ∷ 5 ∷ 0 ∷ 0 ∷ 0 ∷ 6 ∷ 0 ∷ 0 ∷ 0 ∷ 2 ∷ [] }) ∷
    asks (record { before = apply (message 2 (hung 5 6 1 ++ down 5 6)) ∷ []; call = count; lent = room 0; number = 0; detail = 0; front = [] }) ∷
    asks (record { before = two; call = apply (message 0 []); lent = room 0; number = 0; detail = 0; front = [] }) ∷
    -- 8: too short, another length or version, another count, a byte behind, a kind that is none, a change cut off, a count of 4,097; the list is as it was
    asks (record { before = two; call = apply []; lent = room 0; number = 8; detail = 0; front = [] }) ∷
    asks (record { before = two; call = apply (0 ∷ 0 ∷ 0 ∷ 6 ∷ 1 ∷ 0 ∷ []); lent = room 0; number = 8; detail = 0; front = [] }) ∷
    asks (record { before = two; call = apply (0 ∷ 0 ∷ 0 ∷ 8 ∷ 1 ∷ 0 ∷ 0 ∷ []); lent = room 0; number = 8; detail = 0; front = [] }) ∷
    asks (record { before = two; call = apply (0 ∷ 0 ∷ 0 ∷ 7 ∷ 2 ∷ 0 ∷ 0 ∷ []); lent = room 0; number = 8; detail = 0; front = [] }) ∷
    asks (record { before = two; call = apply (message 1 []); lent = room 0; number = 8; detail = 0; front = [] }) ∷
    asks (record { before = two; call = apply (message 1 (down 0 7 ++ (0 ∷ []))); lent = room 0; number = 8; detail = 0; front = [] }) ∷
    asks (record { before = two; call = apply (message 1 (3 ∷ drop 1 (down 0 7))); lent = room 0; number = 8; detail = 0; front = [] }) ∷
    asks (record { before = two; call = apply (message 2 (down 0 7 ++ take 12 (hung 0 7 1))); lent = room 0; number = 8; detail = 0; front = [] }) ∷
    asks (record { before = two; call = apply (0 ∷ 0 ∷ 0 ∷ 7 ∷ 1 ∷ 16 ∷ 1 ∷ []); lent = room 0; number = 8; detail = 0; front = [] }) ∷
    asks (record { before = two ++ (apply (message 2 (down 0 7)) ∷ []); call = count; lent = room 0; number = 0; detail = 2; front = [] }) ∷
    -- 9 with the first position, also where one before it would be turned down; 8, 2 and 1 before it
    asks (record { before = two; call = apply leaving; lent = room 0; number = 9; detail = 1; front = [] }) ∷
    asks (record { before = two ++ (apply leaving ∷ []); call = count; lent = room 0; number = 0; detail = 2; front = [] }) ∷
    asks (record { before = filling 128; call = apply leaving; lent = room 0; number = 9; detail = 1; front = [] }) ∷
    asks (record { before = two; call = apply (leaving ++ (0 ∷ [])); lent = room 0; number = 8; detail = 0; front = [] }) ∷
    asks (record { before = two; call = apply leaving; lent = record { table = 18432; output = 0; read_map = 0; scratch = 18431; counts = 0 }; number = 2; detail = 0; front = [] }) ∷
    asks (record { before = two; call = apply []; lent = record { table = 18432; output = 0; read_map = 0; scratch = 18431; counts = 0 }; number = 2; detail = 0; front = [] }) ∷
    asks (record { before = two; call = apply []; lent = record { table = 18431; output = 0; read_map = 0; scratch = 0; counts = 0 }; number = 1; detail = 0; front = [] }) ∷
    -- 4 with the first position, judged on what the earlier ones leave, and nothing is applied; room made by an earlier change is room
    asks (record { before = filling 128; call = apply (message 2 (hung 5 6 9 ++ down 5 5)); lent = room 0; number = 4; detail = 0; front = [] }) ∷
    asks (record { before = filling 128; call = apply (message 4 (down 5 5 ++ hung 5 6 9 ++ hung 5 6 8 ++ hung 5 7 9)); lent = room 0; number = 4; detail = 3; front = [] }) ∷
    asks (record { before = filling 128 ++ (apply (message 4 (down 5 5 ++ hung 5 6 9 ++ hung 5 6 8 ++ hung 5 7 9)) ∷ []); call = report (pos 5) (pos 5) least; lent = room 12; number = 0; detail = 1; front = 0 ∷ 0 ∷ 0 ∷ 5 ∷ 0 ∷ 0 ∷ 0 ∷ 5 ∷ 0 ∷ 0 ∷ 0 ∷ 1 ∷ [] }) ∷
    asks (record { before = filling 128; call = apply (message 3 (down 5 5 ++ hung 5 6 9 ++ hung 5 6 8)); lent = room 0; number = 0; detail = 0; front = [] }) ∷
    -- the ends of the places and of 32 bits, in place order, in Top's order, and with no spot left out; a range's ends may be any number
    asks (record {
      before = corners;
      call = report least most least;
      lent = room 72;
      number = 0;
      detail = 6;
      front =
          255 ∷ 240 ∷ 189 ∷ 192 ∷ 128 ∷ 0 ∷ 0 ∷ 0 ∷ 0 ∷ 0 ∷ 0 ∷ 2 ∷
          255 ∷ 240 ∷ 189 ∷ 192 ∷ 127 ∷ 255 ∷ 255 ∷ 255 ∷ 0 ∷ 0 ∷ 0 ∷ 3 ∷
          255 ∷ 255 ∷ 255 ∷ 255 ∷ 0 ∷ 0 ∷ 0 ∷ 0 ∷ 255 ∷ 255 ∷ 255 ∷ 255 ∷
          0 ∷ 0 ∷ 0 ∷ 0 ∷ 255 ∷ 255 ∷ 255 ∷ 255 ∷ 0 ∷ 0 ∷ 0 ∷ 5 ∷
          0 ∷ 15 ∷ 66 ∷ 64 ∷ 128 ∷ 0 ∷ 0 ∷ 0 ∷ 0 ∷ 0 ∷ 0 ∷ 4 ∷
          0 ∷ 15 ∷ 66 ∷ 64 ∷ 127 ∷ 255 ∷ 255 ∷ 255 ∷ 0 ∷ 0 ∷ 0 ∷ 1 ∷ [];
    }) ∷
    asks (record {
      before = corners;
      call = top least most 4294967295;
      lent = room 72;
      number = 0;
      detail = 6;
      front =
          255 ∷ 240 ∷ 189 ∷ 192 ∷ 127 ∷ 255 ∷ 255 ∷ 255 ∷ 0 ∷ 0 ∷ 0 ∷ 3 ∷
          0 ∷ 15 ∷ 66 ∷ 64 ∷ 127 ∷ 255 ∷ 255 ∷ 255 ∷ 0 ∷ 0 ∷ 0 ∷ 1 ∷
          255 ∷ 255 ∷ 255 ∷ 255 ∷ 0 ∷ 0 ∷ 0 ∷ 0 ∷ 255 ∷ 255 ∷ 255 ∷ 255 ∷
          0 ∷ 0 ∷ 0 ∷ 0 ∷ 255 ∷ 255 ∷ 255 ∷ 255 ∷ 0 ∷ 0 ∷ 0 ∷ 5 ∷
          255 ∷ 240 ∷ 189 ∷ 192 ∷ 128 ∷ 0 ∷ 0 ∷ 0 ∷ 0 ∷ 0 ∷ 0 ∷ 2 ∷
          0 ∷ 15 ∷ 66 ∷ 64 ∷ 128 ∷ 0 ∷ 0 ∷ 0 ∷ 0 ∷ 0 ∷ 0 ∷ 4 ∷ [];
    }) ∷
    asks (record { before = corners; call = report first_place first_place most; lent = room 12; number = 0; detail = 1; front = 255 ∷ 240 ∷ 189 ∷ 192 ∷ 127 ∷ 255 ∷ 255 ∷ 255 ∷ 0 ∷ 0 ∷ 0 ∷ 3 ∷ [] }) ∷
    asks (record {
      before = corners;
      call = report last_place first_place least;
      lent = room 48;
      number = 0;
      detail = 4;
      front =
          0 ∷ 15 ∷ 66 ∷ 64 ∷ 128 ∷ 0 ∷ 0 ∷ 0 ∷ 0 ∷ 0 ∷ 0 ∷ 4 ∷
          0 ∷ 15 ∷ 66 ∷ 64 ∷ 127 ∷ 255 ∷ 255 ∷ 255 ∷ 0 ∷ 0 ∷ 0 ∷ 1 ∷
          255 ∷ 240 ∷ 189 ∷ 192 ∷ 128 ∷ 0 ∷ 0 ∷ 0 ∷ 0 ∷ 0 ∷ 0 ∷ 2 ∷
          255 ∷ 240 ∷ 189 ∷ 192 ∷ 127 ∷ 255 ∷ 255 ∷ 255 ∷ 0 ∷ 0 ∷ 0 ∷ 3 ∷ [];
    }) ∷
    []

-- what a row says, as equations
pub record AskSays (r : Ask) : Type 0 where
  pub fit : every arguments_fit (r.call ∷ r.before) ≡ true
  pub number : (found r).answer.number ≡ r.number
  pub detail : (found r).answer.detail ≡ r.detail
  pub output : output_after (found r) (sevens r) ≡ r.front ++ drop (length r.front) (sevens r)

-- and of the counts
pub record EachSays (r : Ask) (left : List ℕ) : Type 0 where
  pub ask : AskSays r
  pub counts : counts_after (found r) (sevens_each r) ≡ left

-- of a fresh table. Any report, lent a map as it should be: accepted, with no spot, and the output as it was.
pub record FreshSays (blocks levels held : ℕ) : Type 0 where
  pub is_sound : sound (formatted (blocks * 2048)) ≡ true
  pub high : (head_of (formatted (blocks * 2048))).levels ≡ levels
  pub holds : capacity (blocks * 2048) ≡ held
  pub empty : (x1 x2 y : ℤ) (out map : List ℕ) (r : Answer) (out'' map' : List ℕ) → length map ≡ 512
      → ReportPost x1 x2 y (formatted (blocks * 2048)) out map r out'' map'
      → (r ≡ answer 0 0) × (out'' ≡ out)

abbrev pub Says : Row → Type 0
Says (asks r) = AskSays r
Says (asks_each r left) = EachSays r left
Says (fresh blocks levels held) = FreshSays blocks levels held

fresh-report : (n : ℕ) → table_sized n ≡ true → (x1 x2 y : ℤ) → report_table (formatted n) x1 x2 y ≡ walked [] (1 ∷ [])
unfolding report_table from_on
fresh-report n z x1 x2 y = ap (map_spots (from_on (from_of (query x1 x2 y)))) (fresh-walk n z (query x1 x2 y))

report-none : (n : ℕ) → table_sized n ≡ true → (x1 x2 y : ℤ) (out map : List ℕ) (r : Answer) (out'' map' : List ℕ) → length map ≡ 512
    → ReportPost x1 x2 y (formatted n) out map r out'' map'
    → (r ≡ answer 0 0) × (out'' ≡ out)
unfolding output_left walk_answer spots_answer
report-none n z x1 x2 y out map r out'' map' m p =
    let e : r ≡ answer 0 0 =
    p.answered ∙
    long-enough (with_output (formatted n) out map) (report x1 x2 y) _ (ap table_sized (fresh-sized n z) ∙ z) (eq-eqb (length map) 512 m) refl refl ∙
    ap (walk_answer (length out)) (fresh-report n z x1 x2 y) ∙
    ap (λ (b : Bool). answer (cond b 5 0) 0) (le-ltb (length out / 12) 0 (omega arith)) in
    (e, p.output ∙ ap₂ (λ (a : Answer) (w : Walk). output_left a.number (spots w) out) e (fresh-report n z x1 x2 y))

ask-says : (r : Ask) → asked r ≡ true → AskSays r
unfolding asked
ask-says r t =
    record { fit = all-at _ t 0; number = eqb-true _ _ (all-at _ t 1); detail = eqb-true _ _ (all-at _ t 2); output = same_lists _ _ (all-at _ t 3) }

says : (r : Row) → right r ≡ true → Says r
unfolding right
says (asks r) t = ask-says r t
says (asks_each r left) t =
    let counts = same_list (counts_after (found r) (sevens_each r)) left in
    record { ask = ask-says r (and_left (asked r) counts t); counts = same_lists _ _ (and_right (asked r) counts t) }
says (fresh blocks levels held) t =
    let z : table_sized (blocks * 2048) ≡ true = all-at _ t 0 in
    record {
      is_sound = fresh-sound (blocks * 2048) z;
      high = fresh-levels (blocks * 2048) z ∙ eqb-true 1 levels (all-at _ t 1);
      holds = eqb-true (capacity (blocks * 2048)) held (all-at _ t 2);
      empty = report-none (blocks * 2048) z;
    }

-- a row to stand past the end
pub some-row : Row
some-row = asks (record { before = []; call = count; lent = room 0; number = 0; detail = 0; front = [] })

all_right : every right rows ≡ true
unfolding all asked right rows found after filling sized_for signed32 unsigned32 range_fits arguments_fit eq_z has_identity place_before top_before of_places of_report from_onward reported taken_out brought_in highest four_bytes complement output_after counts_after refuse accept two_number four_number of_complement hung_by taken_down_by begins_right plain_message bad_table bad_lent too_many outside no_message changes_outside full turned_down changed_by hand_out own_reply reply
all_right = refl

-- every row of the table says what the definitions give
pub worked : (i : ℕ) → i < length rows → Says (get_or rows i some-row)
worked i h = says _ (every-at right rows some-row all_right i h)
