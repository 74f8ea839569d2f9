-- "The five numbers", and those that requests add: what a call answers, and what it leaves of the output, the read map and the counts.
-- Assumes nothing.
use Rattle.std.specs.Prelude.{ℕ, zero, suc, ◌*◌, ◌/◌, Bool, true, cond, ◌&&◌, List, [], ◌∷◌, ◌++◌, length, drop, ltb, leb, eqb, ℤ, pos}
use Rattle.spot.specs.Keys.{in_limits}
use Rattle.spot.specs.Spots.{spots_bytes}
use Rattle.spot.specs.declared.Spot.{Spot}
use Rattle.block.specs.declared.Answer.{Answer}
use Rattle.block.specs.Answers.{answer}
use Rattle.block.specs.Table.{table_sized, map_bytes}
use Rattle.message.specs.Messages.{message_answer}
use Rattle.tree.specs.ReadMap.{read_map}
use Rattle.table.specs.Calls.{Call, format, add, withdraw, report, top, count, check, rebuild, report_many, top_within, apply, Kind, makes, updates, queries, queries_each, tells, kind, Lengths}

abbrev pub lengths : List ℕ → List ℕ → List ℕ → List ℕ → List ℕ → Lengths
lengths t out map scratch counts =
    record { table = length t; output = length out; read_map = length map; scratch = length scratch; counts = length counts }

-- of a call that is lent nothing beside the table, a work area, an output and a read map, or these and a list of counts
abbrev pub of_table : List ℕ → Lengths
of_table t = lengths t [] [] [] []

abbrev pub with_scratch : List ℕ → List ℕ → Lengths
with_scratch t w = lengths t [] [] w []

abbrev pub with_output : List ℕ → List ℕ → List ℕ → Lengths
with_output t out map = lengths t out map [] []

abbrev pub with_counts : List ℕ → List ℕ → List ℕ → List ℕ → Lengths
with_counts t out map counts = lengths t out map [] counts

-- 2: "the read map isn't 512 bytes, or the work area is shorter than the table", for the calls that are lent them; "one a range (another length gives 2)"
abbrev pub lent : Lengths → Kind → Bool
lent l makes = true
lent l updates = leb l.table l.scratch
lent l queries = eqb l.read_map map_bytes
lent l (queries_each n) = eqb l.read_map map_bytes && eqb l.counts n
lent l tells = true

-- 6: "if there are more than 64 ranges"
abbrev pub few_enough : Kind → Bool
few_enough makes = true
few_enough updates = true
few_enough queries = true
few_enough (queries_each n) = leb n 64
few_enough tells = true

-- 9, request 2026-07: "It refuses with 9 an addition, withdrawal or spot to be pressed outside the limits"; "Range ends may be any number". Request 2026-06: 8 of a message
-- "if the length, version, a kind, such a zero or the count of over 4,096 is wrong", and then 9
abbrev pub argument_number : Call → ℕ
argument_number format = 0
argument_number (add place rank track) = cond (in_limits place) 0 9
argument_number (withdraw place rank) = cond (in_limits place) 0 9
argument_number (report x1 x2 y) = 0
argument_number (top x1 x2 k) = 0
argument_number count = 0
argument_number check = 0
argument_number rebuild = 0
argument_number (report_many rs) = 0
argument_number (top_within x1 x2 k a) = 0
argument_number (apply m) = (message_answer m).number

-- the number that lengths and arguments alone decide, before any byte of the table is read; "The order is that of the table": 1, "the table is not a whole
-- number of blocks, or has under 9 or over 4,096", then 2; "It refuses with 6, after 2 and before 3"; "It refuses with 8, after 2 and before 3"; 9 "before 3 and after
-- all others that come before 3"; or 0
unfoldable pub early_number : Lengths → Call → ℕ
early_number l c = cond (table_sized l.table) (cond (lent l (kind c)) (cond (few_enough (kind c)) (argument_number c) 6) 2) 1

-- the detail that comes with it: "applying a message give it there too, .. with the first such position"; "Refusals 1 to 3 keep detail 0"
abbrev pub early_detail : Call → ℕ → ℕ
early_detail format n = 0
early_detail (add place rank track) n = 0
early_detail (withdraw place rank) n = 0
early_detail (report x1 x2 y) n = 0
early_detail (top x1 x2 k) n = 0
early_detail count n = 0
early_detail check n = 0
early_detail rebuild n = 0
early_detail (report_many rs) n = 0
early_detail (top_within x1 x2 k a) n = 0
early_detail (apply m) n = cond (eqb n 9) (message_answer m).detail 0

-- "1, detail 0", "2, detail 0", "6 and every later number .. where no more is said, have detail 0": an answer by that number where it refuses, else the other
unfoldable pub unless_refused : ℕ → Answer → Answer
unless_refused zero r = r
unless_refused (suc n) r = answer (suc n) 0

-- 5: "detail the number of spots: more spots than output length div 12", or 0 with the number of spots
unfoldable pub spots_answer : ℕ → ℕ → Answer
spots_answer bytes n = record { number = cond (ltb (bytes / 12) n) 5 0; detail = n }

-- "Accepted output is the spots, 12 bytes each as on the card, the rest of the output unchanged", all of it after a refusal
unfoldable pub output_left : ℕ → List Spot → List ℕ → List ℕ
output_left zero ss out = spots_bytes ss ++ drop (12 * length ss) out
output_left (suc n) ss out = out

-- the read map is written where the call is accepted, and left as lent after a refusal
unfoldable pub map_left : ℕ → List ℕ → List ℕ → List ℕ
map_left zero blocks map = read_map blocks
map_left (suc n) blocks map = map

-- the counts are written where the call is accepted, one a range, and left as lent after a refusal
unfoldable pub counts_left : ℕ → List ℕ → List ℕ → List ℕ
counts_left zero found counts = found
counts_left (suc n) found counts = counts

-- "The ceiling, returned after the detail (0 if refused)"
unfoldable pub ceiling_left : ℕ → ℤ → ℤ
ceiling_left zero c = c
ceiling_left (suc n) c = pos 0

-- what a call may answer once it is not refused so, whatever the table holds: "Format gives only 1, as does Check"
abbrev pub outcomes : Call → List ℕ
outcomes format = 0 ∷ []
outcomes (add place rank track) = 0 ∷ 3 ∷ 4 ∷ []
outcomes (withdraw place rank) = 0 ∷ 3 ∷ []
outcomes (report x1 x2 y) = 0 ∷ 3 ∷ 5 ∷ []
outcomes (top x1 x2 k) = 0 ∷ 3 ∷ 5 ∷ []
outcomes count = 0 ∷ 3 ∷ []
outcomes check = 0 ∷ []
outcomes rebuild = 0 ∷ 3 ∷ []
outcomes (report_many rs) = 0 ∷ 3 ∷ 5 ∷ []
outcomes (top_within x1 x2 k a) = 0 ∷ 3 ∷ 5 ∷ []
outcomes (apply m) = 0 ∷ 3 ∷ 4 ∷ []
