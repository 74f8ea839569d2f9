-- Demands 1 and 2, each as one statement, from what the calls promise. Places and ranks are whole numbers here, and a spot is live by the paper's own
-- definition, one path down the tree: neither a walk nor the model stands between. Demand 3 is in History.
-- Assumes nothing.
use Rattle.std.specs.Prelude.{◌≡◌, ◌⊎◌, ◌↔◌, ℕ, ◌-◌, ◌*◌, ◌/◌, ◌≤◌, ◌<◌, Bool, true, false, cond, ◌&&◌, ◌||◌, length, drop, ℤ, pos, ◌-ℤ◌}
use mathlib.Core.List.{List, [], ◌∷◌, ◌++◌, Memᴰ}
use Rattle.std.proofs.Math.Option.{none, some}
use Rattle.std.specs.Int.Signed.{le_z, lt_z}
use Rattle.octets.specs.Lists.{every, has}
use Rattle.spot.specs.Keys.{key, signed32, in_limits}
use Rattle.spot.specs.Range.{of_range}
use Rattle.spot.specs.Query.{query, top_query}
use Rattle.block.specs.declared.Answer.{Answer}
use Rattle.block.specs.Answers.{answer}
use Rattle.block.specs.Table.{table_sized}
use Rattle.block.specs.Header.{head_of}
use Rattle.block.specs.Node.{store_of}
use Rattle.message.specs.Messages.{WritePost, ReadPost}
use Rattle.tree.specs.Part.{whole}
use Rattle.tree.specs.Lookup.{live}
use Rattle.tree.specs.Reach.{reach}
use Rattle.tree.specs.Sound.{sound}
use Rattle.ranges.specs.Ranges.{for_each, count_each}
use Rattle.ranges.specs.declared.Range.{Range}
use Rattle.table.specs.Calls.{Call, add, withdraw, report, top, count, rebuild, report_many, top_within, apply, is_query, is_counting, has_ceiling, has_position, arguments_fit}
use Rattle.table.specs.Answers.{lengths, early_number, spots_answer}
use Rattle.table.specs.Queries.{HandsOut, HandsOutEach, ReportPost, ManyPost, TopPost, TopWithinPost, CountPost, BlocksReadPost}
use Rattle.table.specs.Updates.{AddPost, WithdrawPost, RebuildPost, ApplyPost}
use Rattle.press.specs.Press.{PressPost}
use Rattle.tour.specs.Tour.{TourPost}
use Rattle.demands.specs.Model.{PlainSpot, PlainChange, hang, take_down, plain_message, has_identity, place_before, top_before, as_bytes, no_message, outside, some_outside, position_outside, changes_outside}
use Rattle.demands.specs.History.{Event, MetBy, SecondTable, SameOnSecond}
use Rattle.demands.specs.TopMarks.{MarksFew}

-- ---- demand 1

-- the numbers of a refusal: "6 and every later number join demand 1's five"
abbrev pub refusals : List ℕ
refusals = 1 ∷ 2 ∷ 3 ∷ 4 ∷ 5 ∷ 6 ∷ 7 ∷ 8 ∷ 9 ∷ []

-- those of them that come with a change's "position from 0 as detail" where a message is applied, requests 2026-06 and 2026-07
abbrev pub positioned : List ℕ
positioned = 4 ∷ 9 ∷ []

-- a call c, turned down at the table t
pub record TurnedDown (c : Call) (t : List ℕ) (e : Event) : Type 0 where
  -- "One that is turned down returns one of five numbers", or of those that joined them
  pub number : has e.answer.number refusals ≡ true
  -- "detail 0", but for 5, and for 4 and 9 of a message
  pub detail : (e.answer.number ≡ 5 → ⊥) → (has_position c ≡ true → has e.answer.number positioned ≡ false) → e.answer.detail ≡ 0
  -- "and changes no byte of it but scratch"
  pub table : e.table' ≡ t
  pub output : is_query c ≡ true → e.output' ≡ e.output
  pub read_map : is_query c ≡ true → e.read_map' ≡ e.read_map
  pub counts : is_counting c ≡ true → e.counts' ≡ e.counts
  -- the ceiling is a result: "(0 if refused)"
  pub ceiling : has_ceiling c ≡ true → e.ceiling' ≡ pos 0

-- "On an unsound table a call that isn't refused still hands out only spots of its range from blocks marked read"
pub record OnlyMarked (c : Call) (t : List ℕ) (e : Event) : Type 0 where
  pub reports : (x1 x2 y : ℤ) → c ≡ report x1 x2 y → HandsOut (query x1 x2 y) t e.output e.answer e.output' e.read_map'
  pub tops : (x1 x2 : ℤ) (k : ℕ) → c ≡ top x1 x2 k → HandsOut (top_query x1 x2 0) t e.output e.answer e.output' e.read_map'
  pub manys : (rs : List Range) → c ≡ report_many rs → HandsOutEach rs t e.output e.answer e.counts' e.output' e.read_map'
  pub withins : (x1 x2 : ℤ) (k a : ℕ) → c ≡ top_within x1 x2 k a → HandsOut (top_query x1 x2 0) t e.output e.answer e.output' e.read_map'

-- what is claimed of a call that ended
pub record AnyBytes (c : Call) (t : List ℕ) (e : Event) : Type 0 where
  pub turned_down : (e.answer.number ≡ 0 → ⊥) → TurnedDown c t e
  pub hands_out : e.answer.number ≡ 0 → OnlyMarked c t e
  -- the table is as long as it was
  pub sized : length e.table' ≡ length t

-- Demand 1: "every public call ends on arbitrary bytes and arguments and stays inside the memory lent to it. One that is turned down returns one of five
-- numbers and changes no byte of it but scratch." No public call has a `requires`, and of each the check proves that it ends and that no index leaves what it is
-- lent; the rest is said here of any bytes t, sound or not, any arguments, and anything lent.
abbrev pub Demand1 : Type 0
Demand1 = (t : List ℕ) (e : Event) → MetBy e.call t e → AnyBytes e.call t e

-- what turns down a call that is lent no table: one of the numbers, and of those that the call has; only those `told` come with a detail
pub record Refused (numbers told : List ℕ) (r : Answer) : Type 0 where
  pub number : has r.number refusals ≡ true
  pub own : has r.number numbers ≡ true
  pub detail : has r.number told ≡ false → r.detail ≡ 0

-- Demand 1 of the public calls that stand apart from the table, requests 2026-03 and 2026-06: "One that is turned down returns one of five numbers", or of those that
-- joined them, "and changes no byte", for any bytes, arguments and lengths
pub record Demand1Apart : Type 0 where
  -- "Pressing needs at least 32,768 lent bytes, else 2"; 7; 9 of a "spot to be pressed outside the limits"
  pub presses : (s lent : List ℕ) (r : Answer) (lent' : List ℕ) → PressPost s lent r lent' → (r.number ≡ 0 → ⊥)
      → Refused (2 ∷ 7 ∷ 9 ∷ []) [] r × (lent' ≡ lent)
  -- 1, 2, 3 and 5 as of a Report, 5 with the number of spots
  pub tours : (x1 x2 y : ℤ) (t out map : List ℕ) (r : Answer) (out'' map' : List ℕ) → TourPost x1 x2 y t out map r out'' map' → (r.number ≡ 0 → ⊥)
      → Refused (1 ∷ 2 ∷ 3 ∷ 5 ∷ []) (5 ∷ []) r × (out'' ≡ out) × (map' ≡ map)
  -- 8, "an output too short for writer or reader gives 2", and 9 "with the first such position"
  pub writes : (s lent : List ℕ) (r : Answer) (lent' : List ℕ) → WritePost s lent r lent' → (r.number ≡ 0 → ⊥)
      → Refused (8 ∷ 2 ∷ 9 ∷ []) (9 ∷ []) r × (lent' ≡ lent)
  pub reads : (m lent : List ℕ) (r : Answer) (lent' : List ℕ) → ReadPost m lent r lent' → (r.number ≡ 0 → ⊥)
      → Refused (8 ∷ 2 ∷ 9 ∷ []) (9 ∷ []) r × (lent' ≡ lent)
  -- "The number read is the count of ones": the map is lent to be read
  pub counted : (map : List ℕ) (r : Answer) → BlocksReadPost map r → (r.number ≡ 0 → ⊥) → Refused (2 ∷ []) [] r

-- ---- demand 2

-- "An identity is live exactly when, going from the root down the one path whose ranges hold it, the first node that names it does so in P or I. Its
-- track number is the one there": a live spot of t, "a place and a rank, both signed 32-bit, and a track number"
pub record LiveSpot (t : List ℕ) (s : PlainSpot) : Type 0 where
  pub place_fits : signed32 s.place ≡ true
  pub rank_fits : signed32 s.rank ≡ true
  pub there : live t (key s.place s.rank) ≡ some s.track

-- "of the live spots with x1 ≤ place ≤ x2"; of a ring "all places from x1 up, followed by all places up to x2". No test bounds the rank from above: "none shall
-- be added". L says which spots there are: the live ones of a table, or those of a list
pub record OfPlaces (x1 x2 : ℤ) (L : PlainSpot → Type 0) (s : PlainSpot) : Type 0 where
  pub alive : L s
  pub of : of_range x1 x2 s.place ≡ true

-- each comes before all that follow it: in order, and none twice
abbrev pub InOrder : (PlainSpot → PlainSpot → Bool) → List PlainSpot → Type 0
InOrder before [] = Unit {0}
InOrder before (s ∷ ss) = (every (before s) ss ≡ true) × InOrder before ss

-- "Report's order is from x1 onward": of two spots that lie both from x1 up, or both below it, the one before in place order comes first, else the one from x1 up
unfoldable pub report_before : ℤ → PlainSpot → PlainSpot → Bool
report_before x1 s r = cond (le_z x1 s.place) (lt_z r.place x1 || place_before s r) (lt_z r.place x1 && place_before s r)

-- all live spots, each once
pub record AllLive (t : List ℕ) (ss : List PlainSpot) : Type 0 where
  pub rise : InOrder place_before ss
  pub each : (s : PlainSpot) → Memᴰ s ss ↔ LiveSpot t s

-- "Report(x1, x2, y) gives all live spots with x1 ≤ place ≤ x2 and rank ≥ y, rising in place order"; of a ring "from x1 onward"; it "holds each live spot of its
-- range once, and nothing else"
pub record ReportOf (x1 x2 y : ℤ) (L : PlainSpot → Type 0) (given : List PlainSpot) : Type 0 where
  pub rise : InOrder (report_before x1) given
  pub each : (s : PlainSpot) → Memᴰ s given ↔ (OfPlaces x1 x2 L s × (le_z y s.rank ≡ true))

-- "Top(x1, x2, k) gives, of the live spots with x1 ≤ place ≤ x2, the k highest in rank order (all, if fewer), highest first"; and "Among equal ranks Top
-- shall list the lower place first and choose by it": the first by `fall`, the second by `highest`
pub record TopOf (x1 x2 : ℤ) (k : ℕ) (t : List ℕ) (given : List PlainSpot) : Type 0 where
  pub fall : InOrder top_before given
  pub wanted : (s : PlainSpot) → Memᴰ s given → OfPlaces x1 x2 (LiveSpot t) s
  pub most : length given ≤ k
  pub all : length given < k → (s : PlainSpot) → OfPlaces x1 x2 (LiveSpot t) s → Memᴰ s given
  pub highest : (s : PlainSpot) → OfPlaces x1 x2 (LiveSpot t) s → (Memᴰ s given → ⊥) → (r : PlainSpot) → Memᴰ r given → top_before r s ≡ true

-- request 2026-10: the first of the live spots of the places in Top's order, up to k, "whose rank is above every such child's", and the ceiling c: "no other live
-- spot of the range is above it"
pub record WithinOf (x1 x2 : ℤ) (k : ℕ) (t : List ℕ) (given : List PlainSpot) (r : Answer) (c : ℤ) : Type 0 where
  pub first : TopOf x1 x2 (length given) t given
  pub few : length given ≤ k
  pub over : r.number ≡ 0 → (s : PlainSpot) → OfPlaces x1 x2 (LiveSpot t) s → (Memᴰ s given → ⊥) → le_z s.rank c ≡ true

-- what a query answers and leaves of the output, where these are its spots
pub record HandedOut (given : List PlainSpot) (out : List ℕ) (r : Answer) (out'' : List ℕ) : Type 0 where
  -- 0, or 5: "more spots than output length div 12", with their number as the detail
  pub answer : r ≡ spots_answer (length out) (length given)
  -- "Accepted output is the spots, 12 bytes each as on the card, the rest of the output unchanged"
  pub output : r.number ≡ 0 → out'' ≡ as_bytes given ++ drop (12 * length given) out
  pub refused : (r.number ≡ 0 → ⊥) → out'' ≡ out

-- what is left of the counts, where these are the spots of each range: "one a range", "as the single reports give them"
pub record CountedOut (given : Range → List PlainSpot) (rs : List Range) (counts : List ℕ) (r : Answer) (counts' : List ℕ) : Type 0 where
  pub counted : r.number ≡ 0 → counts' ≡ count_each given rs
  pub refused : (r.number ≡ 0 → ⊥) → counts' ≡ counts

-- "Capacity is 16 spots for each block after block 0": so many are live
pub record AtCapacity (t : List ℕ) : Type 0 where
  pub spots : List PlainSpot
  pub all_live : AllLive t spots
  pub many : length spots ≡ 16 * (length t / 2048 - 1)

-- "Add puts the spot in; one of the same identity is replaced"
pub record AddedTo (place rank : ℤ) (track : ℕ) (t : List ℕ) (r : Answer) (t' : List ℕ) : Type 0 where
  -- 4: "capacity live spots and the identity not live"
  pub full : (r.number ≡ 4) ↔ (AtCapacity t × ((s : PlainSpot) → LiveSpot t s → has_identity place rank s ≡ false))
  pub accepted : (r.number ≡ 4 → ⊥) → r.number ≡ 0
  pub after : r.number ≡ 0 → (s : PlainSpot)
      → LiveSpot t' s ↔ ((s ≡ record { place = place; rank = rank; track = track }) ⊎ (LiveSpot t s × (has_identity place rank s ≡ false)))
  pub refused : (r.number ≡ 0 → ⊥) → t' ≡ t
  pub stays_sound : sound t' ≡ true

-- "Withdraw takes out the spot of that identity; where there is none the set is unchanged and the call is accepted"
pub record WithdrawnFrom (place rank : ℤ) (t : List ℕ) (r : Answer) (t' : List ℕ) : Type 0 where
  pub accepted : r.number ≡ 0
  pub after : (s : PlainSpot) → LiveSpot t' s ↔ (LiveSpot t s × (has_identity place rank s ≡ false))
  pub stays_sound : sound t' ≡ true

-- request 2026-06: which spots are live after a change, and after changes "one after another", where these are live before
abbrev pub AfterChange : PlainChange → (PlainSpot → Type 0) → PlainSpot → Type 0
AfterChange (hang x) L s = (s ≡ x) ⊎ (L s × (has_identity x.place x.rank s ≡ false))
AfterChange (take_down place rank) L s = L s × (has_identity place rank s ≡ false)

abbrev pub AfterAll : List PlainChange → (PlainSpot → Type 0) → PlainSpot → Type 0
AfterAll [] L = L
AfterAll (c ∷ cs) L = AfterAll cs (AfterChange c L)

-- "Capacity is 16 spots for each block after block 0": so many are these, each counted once
pub record SoMany (bytes : ℕ) (L : PlainSpot → Type 0) : Type 0 where
  pub spots : List PlainSpot
  pub rise : InOrder place_before spots
  pub each : (s : PlainSpot) → Memᴰ s spots ↔ L s
  pub many : length spots ≡ 16 * (bytes / 2048 - 1)

-- a change is turned down where these are live: 4, "capacity live spots and the identity not live"
abbrev pub TurnedDownAt : ℕ → PlainChange → (PlainSpot → Type 0) → Type 0
TurnedDownAt bytes (hang x) L = SoMany bytes L × ((s : PlainSpot) → L s → has_identity x.place x.rank s ≡ false)
TurnedDownAt bytes (take_down place rank) L = ⊥

-- none of the changes is, each judged on what the earlier ones leave
abbrev pub NoneDown : ℕ → List PlainChange → (PlainSpot → Type 0) → Type 0
NoneDown bytes [] L = Unit {0}
NoneDown bytes (c ∷ cs) L = (TurnedDownAt bytes c L → ⊥) × NoneDown bytes cs (AfterChange c L)

-- "the first such one .., with its position from 0": i come before it
pub record FirstDown (bytes i : ℕ) (cs : List PlainChange) (L : PlainSpot → Type 0) : Type 0 where
  pub earlier : List PlainChange
  pub change : PlainChange
  pub later : List PlainChange
  pub are : cs ≡ earlier ++ (change ∷ later)
  pub position : length earlier ≡ i
  pub accepted : NoneDown bytes earlier L
  pub down : TurnedDownAt bytes change (AfterAll earlier L)

-- "Applying it .. leaves the live spots that the changes one after another would. If any would be turned down, nothing is applied and the first such one's number
-- is returned"
pub record AppliedTo (cs : List PlainChange) (t : List ℕ) (r : Answer) (t' : List ℕ) : Type 0 where
  pub numbers : (r.number ≡ 0) ⊎ (r.number ≡ 4)
  pub turned_down : r.number ≡ 4 → FirstDown (length t) r.detail cs (LiveSpot t) × (t' ≡ t)
  pub accepted : r.number ≡ 0 → (r.detail ≡ 0) × NoneDown (length t) cs (LiveSpot t)
  pub after : r.number ≡ 0 → (s : PlainSpot) → LiveSpot t' s ↔ AfterAll cs (LiveSpot t) s
  pub stays_sound : sound t' ≡ true

-- "Rebuild leaves the live spots the same, track numbers included, and all waiting changes carried out": I and D of every node reached from the root are empty
pub record RebuiltFrom (t : List ℕ) (r : Answer) (t' : List ℕ) : Type 0 where
  pub accepted : r ≡ answer 0 0
  pub after : (s : PlainSpot) → LiveSpot t' s ↔ LiveSpot t s
  pub carried_out : (b : ℕ) → Memᴰ b (reach (head_of t').levels (store_of t') (whole (head_of t'))) → ((store_of t' b).inserts ≡ []) × ((store_of t' b).deletes ≡ [])
  pub stays_sound : sound t' ≡ true

-- a sound table, arguments within their 32 bits, and lengths that are not refused
pub record OnSound (c : Call) (t out map w counts : List ℕ) : Type 0 where
  pub table : sound t ≡ true
  pub arguments : arguments_fit c ≡ true
  pub lent : early_number (lengths t out map w counts) c ≡ 0

-- Demand 2: "On every sound table, addition, withdrawal, report and top k do what the paper's four definitions say of the live spots. A report holds each
-- live spot of its range once, and nothing else. The paper's search has no upper limit of rank, and since no tour uses one, none shall be added."
pub record Demand2 : Type 0 where
  pub adds : (place rank : ℤ) (track : ℕ) (t w : List ℕ) (r : Answer) (t' w' : List ℕ) → OnSound (add place rank track) t [] [] w []
      → AddPost place rank track t w r t' w'
      → AddedTo place rank track t r t'
  pub withdraws : (place rank : ℤ) (t w : List ℕ) (r : Answer) (t' w' : List ℕ) → OnSound (withdraw place rank) t [] [] w []
      → WithdrawPost place rank t w r t' w'
      → WithdrawnFrom place rank t r t'
  pub reports : (x1 x2 y : ℤ) (t out map : List ℕ) (r : Answer) (out'' map' : List ℕ) → OnSound (report x1 x2 y) t out map [] []
      → ReportPost x1 x2 y t out map r out'' map'
      → (given : List PlainSpot) × ReportOf x1 x2 y (LiveSpot t) given × HandedOut given out r out''
  pub tops : (x1 x2 : ℤ) (k : ℕ) (t out map : List ℕ) (r : Answer) (out'' map' : List ℕ) → OnSound (top x1 x2 k) t out map [] []
      → TopPost x1 x2 k t out map r out'' map'
      → (given : List PlainSpot) × TopOf x1 x2 k t given × HandedOut given out r out''
  -- request 2026-01: each range has the spots of its single report
  pub manys : (rs : List Range) (t counts out map : List ℕ) (r : Answer) (counts' out'' map' : List ℕ) → OnSound (report_many rs) t out map [] counts
      → ManyPost rs t counts out map r counts' out'' map'
      → (given : Range → List PlainSpot) × ((x : Range) → Memᴰ x rs → ReportOf x.x1 x.x2 x.y (LiveSpot t) (given x)) ×
      HandedOut (for_each given rs) out r out'' ×
      CountedOut given rs counts r counts'
  -- request 2026-10
  pub withins : (x1 x2 : ℤ) (k a : ℕ) (t out map : List ℕ) (r : Answer) (out'' map' : List ℕ) (c : ℤ) → OnSound (top_within x1 x2 k a) t out map [] []
      → TopWithinPost x1 x2 k a t out map r out'' map' c
      → (given : List PlainSpot) × WithinOf x1 x2 k t given r c × HandedOut given out r out''
  -- request 2026-06
  pub applies : (m t w : List ℕ) (r : Answer) (t' w' : List ℕ) → OnSound (apply m) t [] [] w [] → ApplyPost m t w r t' w'
      → (cs : List PlainChange) × (plain_message m ≡ some cs) × AppliedTo cs t r t'
  -- "Count gives the number of live spots"
  pub counts : (t : List ℕ) (r : Answer) → OnSound count t [] [] [] [] → CountPost t r → (ss : List PlainSpot) × AllLive t ss × (r ≡ answer 0 (length ss))
  pub rebuilds : (t w : List ℕ) (r : Answer) (t' w' : List ℕ) → OnSound rebuild t [] [] w [] → RebuildPost t w r t' w' → RebuiltFrom t r t'

-- ---- the second table

-- "On the second table the call has the same arguments and is lent an equal output and map; equal are number, detail, output and marks": an accepted call on any
-- sound table, so also on one that no history leaves
abbrev pub SecondOnSound : Call → Type 0
SecondOnSound c =
    (t u : List ℕ) (e f : Event) → sound t ≡ true → MetBy c t e → e.answer.number ≡ 0 → SecondTable c t e u f → SameOnSecond c e f

-- ---- request 2026-09

-- "on any sound table", so also on one that no history leaves: here y is the rank of the last spot of the list that the paper's definition of Top settles
pub record LittleReading : Type 0 where
  pub marks : (x1 x2 : ℤ) (k : ℕ) (t out map : List ℕ) (r : Answer) (out'' map' : List ℕ) → OnSound (top x1 x2 k) t out map [] []
      → TopPost x1 x2 k t out map r out'' map'
      → r.number ≡ 0
      → (given : List PlainSpot)
      → TopOf x1 x2 k t given
      → MarksFew x1 x2 k given t map'
  -- "Top's answer and marks follow the second-table rule"
  pub second : (x1 x2 : ℤ) (k : ℕ) → SecondOnSound (top x1 x2 k)

-- ---- request 2026-06

-- "It refuses with 8, after 2 and before 3, if the length, version, a kind .. or the count of over 4,096 is wrong": on every table whose lengths are right, sound or
-- not, with all that is lent as it was; and nothing else
pub record RefusedMessages : Type 0 where
  pub applies : (m t w : List ℕ) (r : Answer) (t' w' : List ℕ) → ApplyPost m t w r t' w' → table_sized (length t) ≡ true → length t ≤ length w
      → plain_message m ≡ none
      → (r ≡ answer 8 0) × (t' ≡ t) × (w' ≡ w)
  pub else : (t : List ℕ) (e : Event) → MetBy e.call t e → no_message e.call ≡ false → e.answer.number ≡ 8 → ⊥

-- ---- request 2026-07

-- "It refuses with 9 an addition, withdrawal .. outside the limits, before 3 and after all others that come before 3": on every table whose lengths are right, sound
-- or not, with all that is lent as it was; and nothing else: "Range ends may be any number"
pub record RefusedOutside : Type 0 where
  pub adds : (place rank : ℤ) (track : ℕ) (t w : List ℕ) (r : Answer) (t' w' : List ℕ) → AddPost place rank track t w r t' w'
      → table_sized (length t) ≡ true
      → length t ≤ length w
      → outside place ≡ true
      → (r ≡ answer 9 0) × (t' ≡ t) × (w' ≡ w)
  pub withdraws : (place rank : ℤ) (t w : List ℕ) (r : Answer) (t' w' : List ℕ) → WithdrawPost place rank t w r t' w'
      → table_sized (length t) ≡ true
      → length t ≤ length w
      → outside place ≡ true
      → (r ≡ answer 9 0) × (t' ≡ t) × (w' ≡ w)
  -- "applying a message give it there too, .. with the first such position"
  pub applies : (m t w : List ℕ) (r : Answer) (t' w' : List ℕ) (cs : List PlainChange) → ApplyPost m t w r t' w' → table_sized (length t) ≡ true
      → length t ≤ length w
      → plain_message m ≡ some cs
      → some_outside cs ≡ true
      → (r ≡ answer 9 (position_outside cs)) × (t' ≡ t) × (w' ≡ w)
  pub else : (t : List ℕ) (e : Event) → MetBy e.call t e → changes_outside e.call ≡ false → e.answer.number ≡ 9 → ⊥

-- "A place read from a card .. must lie in −1,000,000 to 1,000,000 centimetres", "The difference of any two such then fits in 32 bits"
pub record PlacesEnd : Type 0 where
  -- every live spot of a sound table
  pub live : (t : List ℕ) → sound t ≡ true → (s : PlainSpot) → LiveSpot t s → in_limits s.place ≡ true
  pub difference : (a b : ℤ) → in_limits a ≡ true → in_limits b ≡ true → signed32 (a -ℤ b) ≡ true
