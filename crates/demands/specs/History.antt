-- A whole history of calls on one table, and the claim that it answers as the model does: demand 3, as one statement.
-- Assumes nothing.
use Rattle.std.specs.Prelude.{◌≡◌, ◌⊎◌, ◌↔◌, ℕ, ◌+◌, ◌*◌, ◌/◌, ◌-◌, ◌≤◌, ◌<◌, true, false, length, take, ℤ, pos}
use mathlib.Core.List.{List, [], ◌∷◌, Memᴰ}
use Rattle.std.specs.Int.Signed.{le_z}
use Rattle.octets.specs.Bitmap.{bit}
use Rattle.spot.specs.Keys.{unbiased}
use Rattle.block.specs.declared.Answer.{Answer}
use Rattle.block.specs.Table.{block, table_sized}
use Rattle.block.specs.Header.{head_of}
use Rattle.block.specs.Fresh.{formatted}
use Rattle.tree.specs.ReadMap.{ones}
use Rattle.tree.specs.Sound.{sound}
use Rattle.tree.specs.Read.{ReadBlock}
use Rattle.within_theory.specs.Reading.{reading, given_of, ceiling_of, reads_in_all}
use Rattle.ranges.specs.declared.Range.{Range}
use Rattle.table.specs.Calls.{Call, format, add, withdraw, report, top, count, check, rebuild, report_many, top_within, apply, kind, may_change, is_query, is_counting, has_ceiling, Lengths, arguments_fit}
use Rattle.table.specs.Answers.{lengths}
use Rattle.table.specs.Queries.{ReportPost, ManyPost, TopPost, TopWithinPost, CountPost, CheckPost}
use Rattle.table.specs.Updates.{FormatPost, AddPost, WithdrawPost, RebuildPost, ApplyPost}
use Rattle.demands.specs.Model.{Plain, PlainSpot, begun_empty, Reply, reply, told_call, output_after, counts_after, outside, listed, of_places, highest}
use Rattle.demands.specs.TopMarks.{MarksFew}

-- a call as it happened: what it was lent beside the table, what it answered, and all that it left. "Outputs, maps and work areas may be of any length
-- and hold anything", and so may counts; what a call isn't lent is of no account. The ceiling is a result: "returned after the detail".
pub record Event : Type 0 where
  pub call : Call
  pub output : List ℕ
  pub read_map : List ℕ
  pub scratch : List ℕ
  pub counts : List ℕ
  pub answer : Answer
  pub output' : List ℕ
  pub read_map' : List ℕ
  pub scratch' : List ℕ
  pub counts' : List ℕ
  pub ceiling' : ℤ
  pub table' : List ℕ

-- what the call promises of an event on the table t
abbrev pub Promised : Call → List ℕ → Event → Type 0
Promised format t e = FormatPost t e.answer e.table'
Promised (add place rank track) t e = AddPost place rank track t e.scratch e.answer e.table' e.scratch'
Promised (withdraw place rank) t e = WithdrawPost place rank t e.scratch e.answer e.table' e.scratch'
Promised (report x1 x2 y) t e = ReportPost x1 x2 y t e.output e.read_map e.answer e.output' e.read_map'
Promised (top x1 x2 k) t e = TopPost x1 x2 k t e.output e.read_map e.answer e.output' e.read_map'
Promised count t e = CountPost t e.answer
Promised check t e = CheckPost t e.answer
Promised rebuild t e = RebuildPost t e.scratch e.answer e.table' e.scratch'
Promised (report_many rs) t e = ManyPost rs t e.counts e.output e.read_map e.answer e.counts' e.output' e.read_map'
Promised (top_within x1 x2 k a) t e = TopWithinPost x1 x2 k a t e.output e.read_map e.answer e.output' e.read_map' e.ceiling'
Promised (apply m) t e = ApplyPost m t e.scratch e.answer e.table' e.scratch'

-- the call met its post-condition on the table t; calls that are lent the table to be read leave it as it was
pub record MetBy (c : Call) (t : List ℕ) (e : Event) : Type 0 where
  pub promised : Promised c t e
  pub unchanged : may_change (kind c) ≡ false → e.table' ≡ t

-- "every call gets its bytes as the last one left them, accepted or refused"; its arguments are within their 32 bits
abbrev pub History : List ℕ → List Event → Type 0
History t [] = Unit {0}
History t (e ∷ es) = (arguments_fit e.call ≡ true) × MetBy e.call t e × History e.table' es

-- "the lengths of table, output, read map and work area", and of the counts, of an event on the table t
abbrev pub lengths_in : List ℕ → Event → Lengths
lengths_in t e = lengths t e.output e.read_map e.scratch e.counts

-- how many spots a Top within an allowance gives on the table t
abbrev pub certain_in : Call → List ℕ → ℕ
certain_in format t = 0
certain_in (add place rank track) t = 0
certain_in (withdraw place rank) t = 0
certain_in (report x1 x2 y) t = 0
certain_in (top x1 x2 k) t = 0
certain_in count t = 0
certain_in check t = 0
certain_in rebuild t = 0
certain_in (report_many rs) t = 0
certain_in (top_within x1 x2 k a) t = length (given_of k (reading t x1 x2 k a))
certain_in (apply m) t = 0

-- the model's reply to it, and what the model holds afterwards. That number is all that the model is told of the table.
abbrev pub reply_in : Call → List ℕ → Plain → Event → Reply
reply_in c t ps e = reply (lengths_in t e) (told_call c (certain_in c t)) ps

abbrev pub model_after : List ℕ → Plain → Event → Plain
model_after t ps e = (reply_in e.call t ps e).next

-- "On the second table the call has the same arguments and is lent an equal output and map", and equal counts where it takes them: the same call on a table u of the same length that has the
-- same bytes in every block marked
pub record SecondTable (c : Call) (t : List ℕ) (e : Event) (u : List ℕ) (f : Event) : Type 0 where
  pub met : MetBy c u f
  pub output : f.output ≡ e.output
  pub read_map : f.read_map ≡ e.read_map
  pub counts : is_counting c ≡ true → f.counts ≡ e.counts
  pub bytes : length u ≡ length t
  pub marked : (b : ℕ) → bit e.read_map' b ≡ true → block u b ≡ block t b

-- "equal are number, detail, output and marks"; request 2026-01: "counts, spots and marks follow the second-table rule"; request 2026-10: "Spots, ceiling and marks
-- follow the second-table rule"
pub record SameOnSecond (c : Call) (e f : Event) : Type 0 where
  pub answer : f.answer ≡ e.answer
  pub output : f.output' ≡ e.output'
  pub marks : f.read_map' ≡ e.read_map'
  pub counts : is_counting c ≡ true → f.counts' ≡ e.counts'
  pub ceiling : has_ceiling c ≡ true → f.ceiling' ≡ e.ceiling'

-- what is claimed of the call c at the table t, where the model answers `due` and leaves `left` of the output lent and `counted` of the counts
pub record Agreed (c : Call) (t : List ℕ) (due : Answer) (left counted : List ℕ) (e : Event) : Type 0 where
  pub answer : e.answer ≡ due
  pub output : is_query c ≡ true → e.output' ≡ left
  pub counts : is_counting c ≡ true → e.counts' ≡ counted
  -- "(0 if refused)"
  pub ceiling : has_ceiling c ≡ true → (e.answer.number ≡ 0 → ⊥) → e.ceiling' ≡ pos 0
  pub stays_sound : sound e.table' ≡ true
  -- "a Report marks at most 1 + 36h + 9 · (spots reported div 16)"; "Levels are those of the tree as lent to that report"
  pub bounded : (x1 x2 y : ℤ) → c ≡ report x1 x2 y → e.answer.number ≡ 0
      → ones e.read_map' ≤ 1 + 36 * (head_of t).levels + 9 * (e.answer.detail / 16)
  pub second : is_query c ≡ true → e.answer.number ≡ 0 → (u : List ℕ) (f : Event) → SecondTable c t e u f → SameOnSecond c e f

-- "With scratch enough, "full" comes exactly when the plain list holds 16 spots for each block after the first and the new spot's place and rank are not
-- among them"; request 2026-07: "What demand 3 says of "full" is said of spots inside the limits"
abbrev pub FullExactly : Call → List ℕ → Plain → Event → Type 0
FullExactly c t ps e =
    (place rank : ℤ) (track : ℕ) → c ≡ add place rank track → length t ≤ length e.scratch → outside place ≡ false
    → (e.answer.number ≡ 4) ↔ ((length ps.spots ≡ 16 * (length t / 2048 - 1)) × (listed place rank ps.spots ≡ false))

-- "Each accepted report marks exactly the blocks that the scope paper has it read"
abbrev pub MarksExactly : Call → List ℕ → Event → Type 0
MarksExactly c t e =
    (x1 x2 y : ℤ) → c ≡ report x1 x2 y → e.answer.number ≡ 0
    → (b : ℕ) → b < 4096 → (bit e.read_map' b ≡ true) ↔ ((b ≡ 0) ⊎ ReadBlock t x1 x2 y b)

-- request 2026-01: "The marks are block 0 and the union of the single reports' marks"
abbrev pub UnionMarked : Call → List ℕ → Event → Type 0
UnionMarked c t e =
    (rs : List Range) → c ≡ report_many rs → e.answer.number ≡ 0
    → (b : ℕ) → b < 4096 → (bit e.read_map' b ≡ true) ↔ ((b ≡ 0) ⊎ ((x : Range) × Memᴰ x rs × ReadBlock t x.x1 x.x2 x.y b))

-- request 2026-09: "Top shall mark no block that Report over the same places from rank y doesn't mark", with y from the spots that the model gives
abbrev pub TopMarksFew : Call → List ℕ → List PlainSpot → Event → Type 0
TopMarksFew c t given e = (x1 x2 : ℤ) (k : ℕ) → c ≡ top x1 x2 k → e.answer.number ≡ 0 → MarksFew x1 x2 k given t e.read_map'

-- request 2026-10, of an accepted call at the table t, where the model holds ps and these are the spots given
pub record SaidWithin (x1 x2 : ℤ) (k a : ℕ) (t : List ℕ) (ps : Plain) (given : List PlainSpot) (e : Event) : Type 0 where
  -- "in Top's order and up to k": the first of Top's spots
  pub first : given ≡ take (length given) (highest x1 x2 k ps.spots)
  -- "the highest rank of such a child's entry or of a live spot found in range and not given, else the least 32-bit rank"
  pub ceiling : e.ceiling' ≡ unbiased (ceiling_of k (reading t x1 x2 k a))
  -- "no other live spot of the range is above it"
  pub over : (s : PlainSpot) → Memᴰ s ps.spots → of_places x1 x2 s ≡ true → (Memᴰ s given → ⊥) → le_z s.rank e.ceiling' ≡ true
  -- "Where both are accepted, a larger allowance never shortens what is given or raises the ceiling"
  pub grows : (b : ℕ) (f : Event) → a ≤ b → MetBy (top_within x1 x2 k b) t f → f.answer.number ≡ 0
      → (e.answer.detail ≤ f.answer.detail) × (le_z f.ceiling' e.ceiling' ≡ true)
  -- block 0, and "the root, then always the unread child with spots, in range, whose entry shows the highest rank": the blocks of the reading order
  pub marks : (b : ℕ) → b < 4096 → (bit e.read_map' b ≡ true) ↔ ((b ≡ 0) ⊎ Memᴰ b (reading t x1 x2 k a).blocks)
  -- "With allowance or k 0 it reads only block 0 and gives no spot and ceiling 2147483647"
  pub none : (k ≡ 0) ⊎ (a ≡ 0) → (given ≡ []) × (e.ceiling' ≡ pos 2147483647) × ((reading t x1 x2 k a).blocks ≡ [])

abbrev pub WithinSaid : Call → List ℕ → Plain → List PlainSpot → Event → Type 0
WithinSaid c t ps given e =
    (x1 x2 : ℤ) (k a : ℕ) → c ≡ top_within x1 x2 k a → e.answer.number ≡ 0 → SaidWithin x1 x2 k a t ps given e

-- "If the allowance reaches what Top reads under this rule, the answer is Top's", a refusal with 5 too
abbrev pub TopReached : Call → List ℕ → Plain → Event → Type 0
TopReached c t ps e =
    (x1 x2 : ℤ) (k a : ℕ) → c ≡ top_within x1 x2 k a → reads_in_all t x1 x2 k ≤ a → reply_in c t ps e ≡ reply (lengths_in t e) (top x1 x2 k) ps

-- from the table t and what the model holds, ps, on
abbrev pub AllAgreed : List ℕ → Plain → List Event → Type 0
AllAgreed t ps [] = Unit {0}
AllAgreed t ps (e ∷ es) =
    let r = reply_in e.call t ps e in
    Agreed e.call t r.answer (output_after r e.output) (counts_after r e.counts) e × FullExactly e.call t ps e × MarksExactly e.call t e ×
    UnionMarked e.call t e ×
    TopMarksFew e.call t r.given e ×
    WithinSaid e.call t ps r.given e ×
    TopReached e.call t ps e ×
    AllAgreed e.table' (model_after t ps e) es

-- Demand 3, sentence by sentence:
--   "For every list of calls (..; any arguments, refused ones included)"            `es : List Event`, each with a `Call` whose arguments fit their 32 bits
--   "that starts on a freshly formatted table"                                      `formatted bytes`, for every length that Format accepts
--   "each call lent it whole as the one before left it, with no other writer"       `History`: the next event is met on `table'` of this one
--   "every call leaves the table sound"                                             `Agreed.stays_sound`
--   "gives the same number, detail and spots, in the same order, as the scope       `Agreed.answer`, `Agreed.output`: against `reply` of the model, begun
--    paper's plain list, begun empty and fed the same calls and lent lengths"       with `begun_empty`, and fed the call and `lengths_in` alone (`reply_in`)
--   "With scratch enough, "full" comes exactly when .."                             `FullExactly`, of spots inside the limits (request 2026-07)
--   "Each accepted report marks exactly the blocks that the scope paper has it read" `MarksExactly`: block 0 and `ReadBlock`
--   "at most 1, plus 36 for each level of the tree, plus 9 for each whole 16 spots" `Agreed.bounded`
--   "On a second table of that length, equal in the marked blocks, whatever the     `Agreed.second`: any table u of that length with the same bytes in the
--    others hold, that call gives the same report and marks."                       marked blocks, sound or not
-- and of request 2026-09:
--   "Top shall mark no block that Report over the same places from rank y doesn't   `TopMarksFew`: `MarksFew.within`, y = `rank_reached` of the spots that the
--    mark"; "For k = 0 only block 0 is marked"                                      model gives; `MarksFew.none`
--   "Top's answer and marks follow the second-table rule"                           `Agreed.second`, which speaks of all queries
-- and of request 2026-01:
--   "The counts .. one a range", "the spots .. in the order handed in, as the       `Agreed.counts`, `Agreed.output`: against `reply` of the model
--    single reports give them"
--   "The marks are block 0 and the union of the single reports' marks"              `UnionMarked`
--   "counts, spots and marks follow the second-table rule"                          `Agreed.second`: `SameOnSecond.counts`
-- and of request 2026-10:
--   number, detail and spots: how many are given hangs on the arrangement           `Agreed.answer`, `.output`: against `reply` of the model, told that number alone
--    (01: "each of their answers that doesn't hang on the arrangement is compared")  (`certain_in`); `SaidWithin.first`: the first of Top's spots
--   "the highest rank of such a child's entry or of a live spot found .. not given"  `SaidWithin.ceiling`, exactly
--   "no other live spot of the range is above it"                                   `SaidWithin.over`
--   "a larger allowance never shortens what is given or raises the ceiling"         `SaidWithin.grows`
--   "It reads the root, then always the unread child .."                            `SaidWithin.marks`, exactly
--   "With allowance or k 0 it reads only block 0 .."                                `SaidWithin.none`
--   "If the allowance reaches what Top reads under this rule, the answer is Top's"  `TopReached`
--   "(0 if refused)"; "Spots, ceiling and marks follow the second-table rule"       `Agreed.ceiling`; `SameOnSecond.ceiling`
-- and of request 2026-06:
--   "leaves the live spots that the changes one after another would"; "If any        `Agreed.answer`, and what the model holds afterwards: against `reply` of the
--    would be turned down, nothing is applied and the first such one's number is    model, which reads the message's bytes by itself (`plain_message`)
--    returned, with its position from 0 as detail"; "It refuses with 8 .."
-- and of request 2026-07:
--   "It refuses with 9 an addition, withdrawal .. outside the limits, before 3 ..": `Agreed.answer`: against `reply` of the model, which gives it by itself
--    "applying a message give it there too, .. with the first such position"
-- "Demand 3 is a single claim about a whole history. The table starts as an accepted Format leaves it, whatever its bytes were"
abbrev pub Demand3 : Type 0
Demand3 = (bytes : ℕ) → table_sized bytes ≡ true → (es : List Event) → History (formatted bytes) es → AllAgreed (formatted bytes) begun_empty es
