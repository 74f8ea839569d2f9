-- A script worked out: Add of place 5, rank -3 and track 9; another Add that is lent 100 bytes of scratch; a Report of the first, lent 11 bytes of output and
-- then 12, and one lent no read map; Count; Reports of two ranges, of which the second is past the door, and of those from the second on; a Top of three
-- spots within one block; the application of a message that withdraws the spot; and Count again. The log is all ones before.
-- Assumes nothing.
use mathlib.Core.Path.{◌≡◌, refl}
use mathlib.Core.List.{List, [], ◌∷◌, ◌++◌}
use Prim.Native.Nat.{ℕ}
use lib.ListN.{replicate}
use lib.IntN.{pos, negsuc}
use Rattle.octets.specs.Bytes.{be}
use Rattle.ranges.specs.Ranges.{range_in}
use Rattle.ranges.specs.declared.Range.{Range}
use Rattle.table.specs.Calls.{Call, add, report, count, report_many, top_within, apply, Lengths}
use Rattle.demands.specs.Model.{begun_empty, two_number, four_number, of_complement, hung_by, taken_down_by, begins_right, plain_message, no_message, turned_down, changed_by, eq_z, has_identity, place_before, top_before, of_places, of_report, from_onward, reported, taken_out, brought_in, highest, four_bytes, complement, output_after, refuse, accept, bad_table, bad_lent, too_many, outside, changes_outside, full, hand_out, own_reply, reply}
use Rattle.script.specs.Script.{Step, Telling, all_ranges, calls_in, call_of, call_at, step_at, steps_of, log_part, log_after}

-- 65,536 bytes are more than the run has of anything
all : List ℕ
all = 0 ∷ 1 ∷ 0 ∷ 0 ∷ []

some : ℕ → List ℕ
some n = 0 ∷ 0 ∷ 0 ∷ n ∷ []

around : List ℕ
around = 255 ∷ 255 ∷ 255 ∷ 255 ∷ 0 ∷ 0 ∷ 0 ∷ 10 ∷ 255 ∷ 255 ∷ 255 ∷ 0 ∷ []

-- 16 bytes, version 1, one change: Withdraw of place 5, rank -3
message : List ℕ
message = some 16 ++ (1 ∷ 0 ∷ 1 ∷ 2 ∷ []) ++ (0 ∷ 0 ∷ 0 ∷ 5 ∷ 255 ∷ 255 ∷ 255 ∷ 253 ∷ [])

-- two ranges and the message, whose first 12 bytes may be read as a range too; the last four bytes are none
handed : List ℕ
handed = around ++ (0 ∷ 0 ∷ 0 ∷ 6 ∷ 0 ∷ 0 ∷ 0 ∷ 4 ∷ 255 ∷ 255 ∷ 255 ∷ 253 ∷ []) ++ message

first : Range
first = record { x1 = negsuc 0; x2 = pos 10; y = negsuc 255 }

second : Range
second = record { x1 = pos 6; x2 = pos 4; y = negsuc 2 }

third : Range
third = record { x1 = pos 16; x2 = pos 16777474; y = pos 5 }

three-ranges : all_ranges handed ≡ first ∷ second ∷ third ∷ []
unfolding handed message some around first second third be range_in
three-ranges = refl

-- three bytes at the end are no call
script : List ℕ
script =
    (some 1 ++ (0 ∷ 0 ∷ 0 ∷ 5 ∷ 255 ∷ 255 ∷ 255 ∷ 253 ∷ 0 ∷ 0 ∷ 0 ∷ 9 ∷ []) ++ some 7) ++ all ++ all ++ all ++ some 0
    ++ (some 1 ++ (0 ∷ 0 ∷ 0 ∷ 6 ∷ 255 ∷ 255 ∷ 255 ∷ 253 ∷ 0 ∷ 0 ∷ 0 ∷ 9 ∷ []) ++ some 7) ++ all ++ all ++ some 100 ++ all
    ++ (some 3 ++ around ++ some 7) ++ some 11 ++ all ++ all ++ all
    ++ (some 3 ++ around ++ some 7) ++ some 12 ++ all ++ all ++ all
    ++ (some 3 ++ around ++ some 7) ++ all ++ some 0 ++ all ++ all
    ++ (some 5 ++ (7 ∷ 7 ∷ 7 ∷ 7 ∷ 7 ∷ 7 ∷ 7 ∷ 7 ∷ 7 ∷ 7 ∷ 7 ∷ 7 ∷ 7 ∷ 7 ∷ 7 ∷ 7 ∷ [])) ++ some 0 ++ some 0 ++ some 0 ++ some 0
    ++ (some 8 ++ some 0 ++ some 2 ++ some 7 ++ some 7) ++ all ++ all ++ all ++ some 2
    ++ (some 8 ++ some 1 ++ some 9 ++ some 7 ++ some 7) ++ all ++ all ++ all ++ some 2
    ++ (some 9 ++ (255 ∷ 255 ∷ 255 ∷ 255 ∷ 0 ∷ 0 ∷ 0 ∷ 10 ∷ []) ++ some 3 ++ some 1) ++ all ++ all ++ all ++ all
    ++ (some 10 ++ some 24 ++ some 99 ++ some 7 ++ some 7) ++ some 0 ++ some 0 ++ all ++ some 0
    ++ (some 5 ++ some 7 ++ some 7 ++ some 7 ++ some 7) ++ some 0 ++ some 0 ++ some 0 ++ some 0
    ++ (0 ∷ 0 ∷ 0 ∷ [])

step : Call → ℕ → ℕ → ℕ → ℕ → Step
step c output read_map scratch counts = record { call = c; output = output; read_map = read_map; scratch = scratch; counts = counts }

-- the last Report asks for nine ranges from the second on, and gets the two that there are; the application asks for 99 bytes and gets the message's 16
steps : List Step
steps =
    step (add (pos 5) (negsuc 2) 9) 65536 65536 65536 0 ∷ step (add (pos 6) (negsuc 2) 9) 65536 65536 100 65536
    ∷ step (report (negsuc 0) (pos 10) (negsuc 255)) 11 65536 65536 65536 ∷ step (report (negsuc 0) (pos 10) (negsuc 255)) 12 65536 65536 65536
    ∷ step (report (negsuc 0) (pos 10) (negsuc 255)) 65536 0 65536 65536 ∷ step count 0 0 0 0
    ∷ step (report_many (first ∷ second ∷ [])) 65536 65536 65536 2 ∷ step (report_many (second ∷ third ∷ [])) 65536 65536 65536 2
    ∷ step (top_within (negsuc 0) (pos 10) 3 1) 65536 65536 65536 65536 ∷ step (apply message) 0 0 65536 0 ∷ step count 0 0 0 0 ∷ []

eleven-steps : steps_of handed script (calls_in script) ≡ steps
unfolding handed message first second third script all some around step steps be range_in call_of call_at step_at
eleven-steps = refl

-- 320 bytes are eleven parts of 29, and one byte more
part : log_part 320 11 ≡ 29
unfolding log_part
part = refl

sizes : Lengths
sizes = record { table = 18432; output = 17; read_map = 512; scratch = 18432; counts = 64 }

-- all but the Top within a block have no ceiling
nothing : Telling
nothing = record { certain = 0; ceiling = pos 0 }

-- one spot is certain, and no other has a rank above -3
within : Telling
within = record { certain = 1; ceiling = negsuc 2 }

-- the beginning of a part without a ceiling
head : ℕ → ℕ → List ℕ
head number detail = some number ++ some detail ++ some 0

model-log : log_after sizes steps (replicate 8 nothing ++ (within ∷ nothing ∷ nothing ∷ [])) begun_empty (replicate 320 1)
    ≡ head 0 0 ++ replicate 17 1
    ++ head 2 0 ++ replicate 17 1
    ++ head 5 1 ++ replicate 17 1
    ++ head 0 1 ++ (0 ∷ 0 ∷ 0 ∷ 5 ∷ 255 ∷ 255 ∷ 255 ∷ 253 ∷ 0 ∷ 0 ∷ 0 ∷ 9 ∷ []) ++ replicate 5 1
    ++ head 2 0 ++ replicate 17 1
    ++ head 0 1 ++ replicate 17 1
    ++ head 0 1 ++ (0 ∷ 0 ∷ 0 ∷ 5 ∷ 255 ∷ 255 ∷ 255 ∷ 253 ∷ 0 ∷ 0 ∷ 0 ∷ 9 ∷ []) ++ replicate 5 1
    ++ head 0 0 ++ replicate 17 1
    ++ (some 0 ++ some 1 ++ (255 ∷ 255 ∷ 255 ∷ 253 ∷ [])) ++ (0 ∷ 0 ∷ 0 ∷ 5 ∷ 255 ∷ 255 ∷ 255 ∷ 253 ∷ 0 ∷ 0 ∷ 0 ∷ 9 ∷ []) ++ replicate 5 1
    ++ head 0 0 ++ replicate 17 1
    ++ head 0 0 ++ replicate 18 1
unfolding message first second third some nothing within head sizes step steps eq_z has_identity place_before top_before of_places of_report from_onward reported taken_out brought_in highest four_bytes complement output_after refuse accept bad_table bad_lent too_many outside changes_outside full hand_out two_number four_number of_complement hung_by taken_down_by begins_right plain_message no_message turned_down changed_by own_reply reply
model-log = refl
