-- The plain list, called the model here: spots with their places and ranks as whole numbers, in place order, and the calls over them in the papers' own words,
-- fed arguments and lengths alone. It is written apart: of the table's definitions it knows only what a call, its kind, lengths and an answer are.
-- Assumes nothing.
use Rattle.std.specs.Prelude.{ℕ, zero, suc, ◌+◌, ◌-◌, ◌*◌, ◌/◌, ◌%◌, Bool, true, false, cond, not, ◌&&◌, ◌||◌, List, [], ◌∷◌, ◌++◌, length, get_or, take, drop, ltb, leb, eqb, ℤ, pos, negsuc}
use Rattle.std.proofs.Math.Option.{Option, none, some}
use Rattle.std.specs.Int.Signed.{lt_z, le_z}
use Rattle.block.specs.declared.Answer.{Answer}
use Rattle.ranges.specs.declared.Range.{Range}
use Rattle.ranges.specs.Ranges.{for_each, count_each}
use Rattle.table.specs.Calls.{Call, format, add, withdraw, report, top, count, check, rebuild, report_many, top_within, apply, Kind, makes, updates, queries, queries_each, tells, kind, Lengths}

-- "A spot has a place and a rank, and a track number"
pub record PlainSpot : Type 0 where
  pub place : ℤ
  pub rank : ℤ
  pub track : ℕ

unfoldable pub eq_z : ℤ → ℤ → Bool
eq_z (pos a) (pos b) = eqb a b
eq_z (pos a) (negsuc b) = false
eq_z (negsuc a) (pos b) = false
eq_z (negsuc a) (negsuc b) = eqb a b

-- "Place and rank together are its identity"
unfoldable pub has_identity : ℤ → ℤ → PlainSpot → Bool
has_identity place rank s = eq_z s.place place && eq_z s.rank rank

-- "The place order compares places, then ranks": s comes before r
unfoldable pub place_before : PlainSpot → PlainSpot → Bool
place_before s r = lt_z s.place r.place || (eq_z s.place r.place && lt_z s.rank r.rank)

-- "Among equal ranks Top shall list the lower place first and choose by it": s comes before r in a Top
unfoldable pub top_before : PlainSpot → PlainSpot → Bool
top_before s r = lt_z r.rank s.rank || (eq_z r.rank s.rank && lt_z s.place r.place)

-- "x1 ≤ place ≤ x2"; "A range whose first place is greater than its last now runs on past the door: all places from x1 up, followed by all places up to x2"
unfoldable pub of_places : ℤ → ℤ → PlainSpot → Bool
of_places x1 x2 s = cond (lt_z x2 x1) (le_z x1 s.place || le_z s.place x2) (le_z x1 s.place && le_z s.place x2)

-- "and rank ≥ y"
unfoldable pub of_report : ℤ → ℤ → ℤ → PlainSpot → Bool
of_report x1 x2 y s = of_places x1 x2 s && le_z y s.rank

-- the spots that pass a test, in order
abbrev pub chosen : (PlainSpot → Bool) → List PlainSpot → List PlainSpot
chosen f [] = []
chosen f (s ∷ ss) = cond (f s) (s ∷ chosen f ss) (chosen f ss)

-- "Report's order is from x1 onward": the spots from x1 up, followed by the others
unfoldable pub from_onward : ℤ → List PlainSpot → List PlainSpot
from_onward x1 ss = chosen (λ s. le_z x1 s.place) ss ++ chosen (λ s. lt_z s.place x1) ss

-- the spots of a Report, in its order
unfoldable pub reported : ℤ → ℤ → ℤ → List PlainSpot → List PlainSpot
reported x1 x2 y ss = from_onward x1 (chosen (of_report x1 x2 y) ss)

-- and those of the single report of a range
abbrev pub reported_in : List PlainSpot → Range → List PlainSpot
reported_in ss r = reported r.x1 r.x2 r.y ss

-- a spot put behind the spots that come before it
abbrev pub insert_by : (PlainSpot → PlainSpot → Bool) → PlainSpot → List PlainSpot → List PlainSpot
insert_by before s [] = s ∷ []
insert_by before s (x ∷ xs) = cond (before x s) (x ∷ insert_by before s xs) (s ∷ x ∷ xs)

abbrev pub sort_by : (PlainSpot → PlainSpot → Bool) → List PlainSpot → List PlainSpot
sort_by before [] = []
sort_by before (s ∷ ss) = insert_by before s (sort_by before ss)

-- a spot of this identity is in the list
abbrev pub listed : ℤ → ℤ → List PlainSpot → Bool
listed place rank [] = false
listed place rank (s ∷ ss) = has_identity place rank s || listed place rank ss

-- "the spot of this identity, if any, goes out"
unfoldable pub taken_out : ℤ → ℤ → List PlainSpot → List PlainSpot
taken_out place rank ss = chosen (λ s. not (has_identity place rank s)) ss

-- ".. and the new one comes in"; the list is kept in place order
unfoldable pub brought_in : PlainSpot → List PlainSpot → List PlainSpot
brought_in s ss = insert_by place_before s (taken_out s.place s.rank ss)

-- "of the live spots with x1 ≤ place ≤ x2, the k highest in rank order (all, if fewer), highest first"; among equal ranks by place, as 2026-02 has it
unfoldable pub highest : ℤ → ℤ → ℕ → List PlainSpot → List PlainSpot
highest x1 x2 k ss = take k (sort_by top_before (chosen (of_places x1 x2) ss))

-- "All numbers on it are big-endian, signed ones two's complement": four bytes
unfoldable pub four_bytes : ℕ → List ℕ
four_bytes v = v / 16777216 % 256 ∷ v / 65536 % 256 ∷ v / 256 % 256 ∷ v % 256 ∷ []

unfoldable pub complement : ℤ → ℕ
complement (pos n) = n
complement (negsuc n) = 4294967296 - suc n

-- "spots of 12 bytes: place, rank, track"
abbrev pub as_bytes : List PlainSpot → List ℕ
as_bytes [] = []
as_bytes (s ∷ ss) = (four_bytes (complement s.place) ++ four_bytes (complement s.rank) ++ four_bytes s.track) ++ as_bytes ss

-- request 2026-06: a change of a message, "1 add, 2 withdraw"
pub data PlainChange : Type 0 where
  hang : PlainSpot → PlainChange
  take_down : ℤ → ℤ → PlainChange

-- "all big-endian": the number in the first two of these bytes, and in the first four
unfoldable pub two_number : List ℕ → ℕ
two_number bytes = 256 * get_or bytes 0 0 + get_or bytes 1 0

unfoldable pub four_number : List ℕ → ℕ
four_number bytes = 16777216 * get_or bytes 0 0 + 65536 * get_or bytes 1 0 + 256 * get_or bytes 2 0 + get_or bytes 3 0

-- "signed ones two's complement": of 32 bits
unfoldable pub of_complement : ℕ → ℤ
of_complement u = cond (ltb (u % 4294967296) 2147483648) (pos (u % 4294967296)) (negsuc (4294967295 - u % 4294967296))

-- "12 or 8 bytes as on the card": place, rank and track, or the first two of them
unfoldable pub hung_by : List ℕ → PlainChange
hung_by bytes = hang (record { place = of_complement (four_number bytes); rank = of_complement (four_number (drop 4 bytes)); track = four_number (drop 8 bytes) })

unfoldable pub taken_down_by : List ℕ → PlainChange
taken_down_by bytes = take_down (of_complement (four_number bytes)) (of_complement (four_number (drop 4 bytes)))

-- a change in front of others, if these are there
abbrev pub followed_by : PlainChange → Option (List PlainChange) → Option (List PlainChange)
followed_by c none = none
followed_by c (some cs) = some (c ∷ cs)

-- "for each change a kind byte (1 add, 2 withdraw) and 12 or 8 bytes": so many changes, and nothing behind them
abbrev pub plain_changes : ℕ → List ℕ → Option (List PlainChange)
plain_changes zero [] = some []
plain_changes zero (b ∷ bytes) = none
plain_changes (suc n) [] = none
plain_changes (suc n) (b ∷ bytes) =
    cond (eqb b 1 && leb 12 (length bytes)) (followed_by (hung_by bytes) (plain_changes n (drop 12 bytes)))
    (cond (eqb b 2 && leb 8 (length bytes)) (followed_by (taken_down_by bytes) (plain_changes n (drop 8 bytes))) none)

-- "A message has its whole length in four bytes, version byte 1, a count in two bytes", which is not "of over 4,096"
unfoldable pub begins_right : List ℕ → Bool
begins_right m = leb 7 (length m) && eqb (four_number m) (length m) && eqb (get_or m 4 0) 1 && leb (two_number (drop 5 m)) 4096

-- ".. then for each change .."
unfoldable pub plain_message : List ℕ → Option (List PlainChange)
plain_message m = cond (begins_right m) (plain_changes (two_number (drop 5 m)) (drop 7 m)) none

-- what the model holds: "spots, no identity twice". What else "the list keeps beside its spots" stands beside them here.
pub record Plain : Type 0 where
  pub spots : List PlainSpot

-- "at first none"
abbrev pub begun_empty : Plain
begun_empty = record { spots = [] }

-- what the model answers, hands out (spots, and counts where there is one a range), and holds afterwards
pub record Reply : Type 0 where
  pub answer : Answer
  pub given : List PlainSpot
  pub counts : List ℕ
  pub next : Plain

-- "Accepted output is the spots, 12 bytes each as on the card, the rest of the output unchanged"; a refusal hands out none
unfoldable pub output_after : Reply → List ℕ → List ℕ
output_after r out = as_bytes r.given ++ drop (12 * length r.given) out

-- "The counts go to a lent list of 32-bit numbers, one a range"; a call that hands out none leaves the list as lent
unfoldable pub counts_after : Reply → List ℕ → List ℕ
counts_after r counts = r.counts ++ drop (length r.counts) counts

-- "A refused call leaves the list as it was"
unfoldable pub refuse : ℕ → ℕ → Plain → Reply
refuse number detail ps = record { answer = record { number = number; detail = detail }; given = []; counts = []; next = ps }

-- "An accepted call returns 0"
unfoldable pub accept : ℕ → List PlainSpot → List ℕ → Plain → Reply
accept detail given counts next = record { answer = record { number = 0; detail = detail }; given = given; counts = counts; next = next }

-- 1: "the table is not a whole number of blocks, or has under 9 or over 4,096"
unfoldable pub bad_table : ℕ → Bool
bad_table bytes = not (eqb (bytes % 2048) 0) || ltb (bytes / 2048) 9 || ltb 4096 (bytes / 2048)

-- 2: "the read map isn't 512 bytes, or the work area is shorter than the table", for the calls that are lent them; "one a range (another length gives 2)"
unfoldable pub bad_lent : Lengths → Kind → Bool
bad_lent l makes = false
bad_lent l updates = ltb l.scratch l.table
bad_lent l queries = not (eqb l.read_map 512)
bad_lent l (queries_each n) = not (eqb l.read_map 512) || not (eqb l.counts n)
bad_lent l tells = false

-- 6: "if there are more than 64 ranges"
unfoldable pub too_many : Kind → Bool
too_many makes = false
too_many updates = false
too_many queries = false
too_many (queries_each n) = ltb 64 n
too_many tells = false

-- 9, request 2026-07: a place that is not "in −1,000,000 to 1,000,000 centimetres"
unfoldable pub outside : ℤ → Bool
outside place = lt_z place (negsuc 999999) || lt_z (pos 1000000) place

-- the changes that a call asks for, if what it is handed says which
abbrev pub changes_in : Call → Option (List PlainChange)
changes_in format = some []
changes_in (add place rank track) = some (hang (record { place = place; rank = rank; track = track }) ∷ [])
changes_in (withdraw place rank) = some (take_down place rank ∷ [])
changes_in (report x1 x2 y) = some []
changes_in (top x1 x2 k) = some []
changes_in count = some []
changes_in check = some []
changes_in rebuild = some []
changes_in (report_many rs) = some []
changes_in (top_within x1 x2 k a) = some []
changes_in (apply m) = plain_message m

-- 8, request 2026-06: "if the length, version, a kind .. or the count of over 4,096 is wrong"
abbrev pub nothing_said : Option (List PlainChange) → Bool
nothing_said none = true
nothing_said (some cs) = false

unfoldable pub no_message : Call → Bool
no_message c = nothing_said (changes_in c)

-- the changes, or none
abbrev pub said_in : Option (List PlainChange) → List PlainChange
said_in none = []
said_in (some cs) = cs

abbrev pub place_of_change : PlainChange → ℤ
place_of_change (hang s) = s.place
place_of_change (take_down place rank) = place

-- one of them is outside, ".. with the first such position"
abbrev pub some_outside : List PlainChange → Bool
some_outside [] = false
some_outside (c ∷ cs) = outside (place_of_change c) || some_outside cs

abbrev pub position_outside : List PlainChange → ℕ
position_outside [] = 0
position_outside (c ∷ cs) = cond (outside (place_of_change c)) 0 (suc (position_outside cs))

-- "It refuses with 9 an addition, withdrawal .. outside the limits"; "applying a message give it there too"; "Range ends may be any number"
unfoldable pub changes_outside : Call → Bool
changes_outside c = some_outside (said_in (changes_in c))

-- 4: "the list has 16 spots for each block after block 0 and none of this identity"
unfoldable pub full : ℕ → ℤ → ℤ → List PlainSpot → Bool
full bytes place rank ss = leb (16 * (bytes / 2048 - 1)) (length ss) && not (listed place rank ss)

-- request 2026-06: whether a change "would be turned down", and the list after it
unfoldable pub turned_down : ℕ → PlainChange → List PlainSpot → Bool
turned_down bytes (hang s) ss = full bytes s.place s.rank ss
turned_down bytes (take_down place rank) ss = false

unfoldable pub changed_by : PlainChange → List PlainSpot → List PlainSpot
changed_by (hang s) ss = brought_in s ss
changed_by (take_down place rank) ss = taken_out place rank ss

-- "Applying it .. leaves the live spots that the changes one after another would. If any would be turned down, nothing is applied and the first such one's number
-- is returned, with its position from 0 as detail": i are carried out, which made ss of what was held, ps
abbrev pub applied : ℕ → ℕ → List PlainChange → List PlainSpot → Plain → Reply
applied bytes i [] ss ps = accept 0 [] [] (record { spots = ss })
applied bytes i (c ∷ cs) ss ps = cond (turned_down bytes c ss) (refuse 4 i ps) (applied bytes (suc i) cs (changed_by c ss) ps)

-- 5: "more spots than output length div 12", detail the number of spots; else they are handed out, with their counts
unfoldable pub hand_out : ℕ → List PlainSpot → List ℕ → Plain → Reply
hand_out bytes found counts ps = cond (ltb (bytes / 12) (length found)) (refuse 5 (length found) ps) (accept (length found) found counts ps)

-- what each call comes to once it is not refused by lengths and arguments alone
unfoldable pub own_reply : Lengths → Call → Plain → Reply
own_reply l format ps = accept 0 [] [] begun_empty
own_reply l (add place rank track) ps =
    cond (full l.table place rank ps.spots) (refuse 4 0 ps)
    (accept 0 [] [] (record { spots = brought_in (record { place = place; rank = rank; track = track }) ps.spots }))
own_reply l (withdraw place rank) ps = accept 0 [] [] (record { spots = taken_out place rank ps.spots })
own_reply l (report x1 x2 y) ps = hand_out l.output (reported x1 x2 y ps.spots) [] ps
own_reply l (top x1 x2 k) ps = hand_out l.output (highest x1 x2 k ps.spots) [] ps
own_reply l count ps = accept (length ps.spots) [] [] ps
own_reply l check ps = accept 1 [] [] ps
own_reply l rebuild ps = accept 0 [] [] ps
own_reply l (report_many rs) ps = hand_out l.output (for_each (reported_in ps.spots) rs) (count_each (reported_in ps.spots) rs) ps
own_reply l (top_within x1 x2 k a) ps = hand_out l.output (highest x1 x2 k ps.spots) [] ps
own_reply l (apply m) ps = applied l.table 0 (said_in (plain_message m)) ps.spots ps

-- "It refuses with 8, after 2 and before 3"; 9 "before 3 and after all others that come before 3"
abbrev pub by_changes : Lengths → Call → Plain → Reply
by_changes l c ps =
    cond (no_message c) (refuse 8 0 ps) (cond (changes_outside c) (refuse 9 (position_outside (said_in (changes_in c))) ps) (own_reply l c ps))

-- "Every call: 1 and 2 as the lengths give them; 3 never"; "The order is that of the table"; "It refuses with 6, after 2 and before 3"
unfoldable pub reply : Lengths → Call → Plain → Reply
reply l c ps =
    cond (bad_table l.table) (refuse 1 0 ps) (cond (bad_lent l (kind c)) (refuse 2 0 ps) (cond (too_many (kind c)) (refuse 6 0 ps) (by_changes l c ps)))

-- request 2026-10: how many spots a Top within an allowance can give hangs on the arrangement, of which the list knows nothing. Told that number, the list answers
-- as to a Top for so many; untold, as to a Top with no allowance. Every other call is as it is.
abbrev pub told_call : Call → ℕ → Call
told_call format n = format
told_call (add place rank track) n = add place rank track
told_call (withdraw place rank) n = withdraw place rank
told_call (report x1 x2 y) n = report x1 x2 y
told_call (top x1 x2 k) n = top x1 x2 k
told_call count n = count
told_call check n = check
told_call rebuild n = rebuild
told_call (report_many rs) n = report_many rs
told_call (top_within x1 x2 k a) n = top x1 x2 n
told_call (apply m) n = apply m
