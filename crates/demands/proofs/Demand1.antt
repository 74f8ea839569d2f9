-- Demand 1, from the promises of the calls alone.
-- Assumes nothing.
use mathlib.Core.Path.{◌≡◌, refl, ap, ap₂, sym, subst, ◌∙◌}
use mathlib.Core.Logic.{⊎_elim}
use mathlib.Core.Bool.{Bool, true, false, cond, ◌||◌, false≢true}
use mathlib.Core.List.{List, [], ◌∷◌, ◌++◌, Memᴰ}
use mathlib.Core.Option.{Option}
use Prim.Native.Nat.{ℕ, zero, suc, ◌/◌}
use native.Mathlib.Omega.{arith}
use lib.Dec.{eqb, ltb}
use lib.IntN.{ℤ, pos}
use lib.ListN.{length}
use borrow.Author.Tests.{ne_eqb, eqb-false}
use Rattle.octets.specs.Lists.{every, has}
use Rattle.octets.specs.Bitmap.{bit}
use Rattle.octets.proofs.Lists.{mem-same}
use Rattle.octets.proofs.Order.{same_or_not}
use Rattle.octets.proofs.Sets.{has-mem}
use Rattle.octets.proofs.Tests.{every-mem, every-make, neither, or_left}
use Rattle.spot.specs.declared.Spot.{Spot}
use Rattle.spot.specs.Query.{query, wants}
use Rattle.block.specs.declared.Answer.{Answer}
use Rattle.block.specs.Answers.{answer}
use Rattle.block.specs.Table.{table_sized}
use Rattle.block.specs.Fresh.{formatted}
use Rattle.block.specs.Node.{store_of}
use Rattle.tree.specs.Walk.{Walk, broken, walked, spots, blocks_read, walk_table}
use Rattle.tree.specs.ReadMap.{read_map}
use Rattle.tree.specs.Report.{report_table}
use Rattle.tree.proofs.Fresh.{fresh-sized}
use Rattle.tree.proofs.Marks.{zero-marked}
use Rattle.tree.proofs.Sources.{walk-sources, read-in-table, read-marked}
use Rattle.ranges.specs.declared.Range.{Range}
use Rattle.report.specs.Joined.{report_of, joined, counts_of}
use Rattle.table.specs.Calls.{Call, format, add, withdraw, report, top, count, check, rebuild, report_many, top_within, apply, kind, is_query, is_counting, has_ceiling, has_position, Lengths}
use Rattle.table.specs.Answers.{of_table, with_scratch, with_output, with_counts, lent, few_enough, early_number, unless_refused, spots_answer, output_left, counts_left, outcomes}
use Rattle.table.specs.Queries.{walk_answer, count_answer, WalkPost, ReportPost, ManyPost, SearchPost, HandsOut, HandsOutEach}
use Rattle.table.specs.Updates.{UpdatePost}
use Rattle.table.proofs.Given.{report-limited}
use Rattle.table.proofs.Searching.{ceiling-refused}
use Rattle.table.proofs.Changes.{number_is_lem, detail-is, early-detail}
use Rattle.demands.specs.Model.{no_message, changes_outside}
use Rattle.demands.specs.History.{Event, MetBy}
use Rattle.demands.specs.Demands.{refusals, positioned, TurnedDown, OnlyMarked, Demand1}
use Rattle.demands.proofs.Plain.{argument-number}
use Rattle.demands.proofs.Histories.{map-accepted, walk-accepted, output-refused, map-refused, counts-refused, no-counts, no-ceiling}
use Rattle.report.proofs.Reports.{report-spots, report-blocks}
use Rattle.report.proofs.Joined.{spots-joined, blocks-joined, read-joined}
use Rattle.demands.proofs.Onward.{from-on-mem}

-- ---- the numbers

-- a number of a list that names 0 and the refusals alone
of-refusals : (n : ℕ) (xs : List ℕ) → every (λ m. eqb m 0 || has m refusals) xs ≡ true → has n xs ≡ true → (n ≡ 0 → ⊥) → has n refusals ≡ true
of-refusals n xs h i z = or_left (eqb n 0) (has n refusals) (every-mem (λ m. eqb m 0 || has m refusals) xs h (has-mem n xs i)) (ne_eqb n 0 z)

-- 1, 2, 6, 8 and 9, by lengths and arguments
abbrev early : List ℕ
early = 0 ∷ 1 ∷ 2 ∷ 6 ∷ 8 ∷ 9 ∷ []

by_lengths : (l : Lengths) (c : Call) → has (early_number l c) early ≡ true
unfolding early_number
by_lengths l c =
    ap (λ (n : ℕ). has (cond (table_sized l.table) (cond (lent l (kind c)) (cond (few_enough (kind c)) n 6) 2) 1) early) (argument-number c) ∙
    go (table_sized l.table) (lent l (kind c)) (few_enough (kind c)) (no_message c) (changes_outside c)
  where
    go : (a b d f g : Bool) → has (cond a (cond b (cond d (cond f 8 (cond g 9 0)) 6) 2) 1) early ≡ true
    go true true true true g = refl
    go true true true false true = refl
    go true true true false false = refl
    go true true false f g = refl
    go true false d f g = refl
    go false b d f g = refl

-- an answer that is 0, or a refusal with detail 0, but for 5
record Refusal (r : Answer) : Type 0 where
  number : (r.number ≡ 0 → ⊥) → has r.number refusals ≡ true
  detail : (r.number ≡ 0 → ⊥) → (r.number ≡ 5 → ⊥) → r.detail ≡ 0

refusal-zero : (d : ℕ) → Refusal (answer 0 d)
refusal-zero d = record { number = λ n. absurd (n refl); detail = λ n. absurd (n refl) }

refusal-plain : (n : ℕ) → has n refusals ≡ true → Refusal (answer n 0)
refusal-plain n h = record { number = λ z. h; detail = λ z y. refl }

refusal-many : (d : ℕ) → Refusal (answer 5 d)
refusal-many d = record { number = λ z. refl; detail = λ z y. absurd (y refl) }

-- refused by lengths and arguments, or as it is
refusal-lengths : (n : ℕ) (a : Answer) → has n early ≡ true → Refusal a → Refusal (unless_refused n a)
unfolding unless_refused
refusal-lengths zero a h r = r
refusal-lengths (suc n) a h r = refusal-plain (suc n) (of-refusals (suc n) early refl h (λ z. omega arith))

refusal-spots : (bytes n : ℕ) → Refusal (spots_answer bytes n)
unfolding spots_answer
refusal-spots bytes n = go (ltb (bytes / 12) n)
  where
    go : (b : Bool) → Refusal (record { number = cond b 5 0; detail = n })
    go true = refusal-many n
    go false = refusal-zero n

refusal-walk : (bytes : ℕ) (w : Walk) → Refusal (walk_answer bytes w)
unfolding walk_answer
refusal-walk bytes broken = refusal-plain 3 refl
refusal-walk bytes (walked found blocks) = refusal-spots bytes (length found)

refusal-count : (w : Walk) → Refusal (count_answer w)
unfolding count_answer
refusal-count broken = refusal-plain 3 refl
refusal-count (walked found blocks) = refusal-zero (length found)

-- ---- calls that change the table

module _ (c : Call) (due : Answer) (after : ℕ → Option ℕ) (t : List ℕ) (e : Event) (p : UpdatePost c due after t e.scratch e.answer e.table' e.scratch') where
  update-number : every (λ m. eqb m 0 || has m refusals) (outcomes c) ≡ true → (e.answer.number ≡ 0 → ⊥) → has e.answer.number refusals ≡ true
  update-number h z =
      ⊎_elim (λ l. of-refusals e.answer.number (outcomes c) h (p.numbers l) z)
      (λ l.
      of-refusals e.answer.number early refl
      (ap (λ (r : Answer). has r.number early) (p.refusals l) ∙ by_lengths (with_scratch t e.scratch) c)
      z)
      (same_or_not (early_number (with_scratch t e.scratch) c) 0)

  -- a refusal has detail 0, but for 4 and 9
  update-detail : has e.answer.number positioned ≡ false → e.answer.detail ≡ 0
  update-detail h =
      let n = neither (eqb e.answer.number 4) (has e.answer.number (9 ∷ [])) h in
      let early : ℕ = early_number (with_scratch t e.scratch) c in
      ⊎_elim (λ l. p.detail (eqb-false e.answer.number 4 n.0) l)
      (λ l.
      let a = p.refusals l in
      detail-is a ∙ early-detail c early (ap (λ (i : ℕ). eqb i 9) (sym (number_is_lem a)) ∙ (neither (eqb e.answer.number 9) false n.1).0))
      (same_or_not early 0)

  update-down : every (λ m. eqb m 0 || has m refusals) (outcomes c) ≡ true → is_query c ≡ false
      → ((has_position c ≡ true → has e.answer.number positioned ≡ false) → e.answer.detail ≡ 0)
      → (e.answer.number ≡ 0 → ⊥)
      → TurnedDown c t e
  update-down h q d z =
      record {
        number = update-number h z;
        detail = λ y. d;
        table = p.unchanged z;
        output = λ i. absurd (false≢true (sym q ∙ i));
        read_map = λ i. absurd (false≢true (sym q ∙ i));
        counts = λ i. absurd (false≢true (sym (no-counts c q) ∙ i));
        ceiling = λ i. absurd (false≢true (sym (no-ceiling c q) ∙ i));
      }

-- ---- calls that hand out no spots and leave the table

still-down : (c : Call) (t : List ℕ) (e : Event) → Refusal e.answer → e.table' ≡ t → is_query c ≡ false → (e.answer.number ≡ 0 → ⊥) → TurnedDown c t e
still-down c t e r same q z =
    record {
      number = r.number z;
      detail = λ y i. r.detail z y;
      table = same;
      output = λ i. absurd (false≢true (sym q ∙ i));
      read_map = λ i. absurd (false≢true (sym q ∙ i));
      counts = λ i. absurd (false≢true (sym (no-counts c q) ∙ i));
      ceiling = λ i. absurd (false≢true (sym (no-ceiling c q) ∙ i));
    }

-- ---- calls that hand out the spots of a walk, where lengths and arguments decide the number l

module _ (l : ℕ) (w : Walk) (e : Event) (p : WalkPost l w e.output e.read_map e.answer e.output' e.read_map') where
  walk-down : (c : Call) (t : List ℕ) → has l early ≡ true → e.table' ≡ t → (z : e.answer.number ≡ 0 → ⊥) → (is_counting c ≡ true → e.counts' ≡ e.counts) → has_ceiling c ≡ false → TurnedDown c t e
  walk-down c t h same z counts n =
      record {
        number = r.number z;
        detail = λ y i. r.detail z y;
        table = same;
        output = λ i. p.output ∙ output-refused e.answer.number (spots w) e.output z;
        read_map = λ i. p.marks ∙ map-refused e.answer.number (blocks_read w) e.read_map z;
        counts = counts;
        ceiling = λ i. absurd (false≢true (sym n ∙ i));
      }
    where
      r : Refusal e.answer
      r = subst Refusal (sym p.answered) (refusal-lengths l _ h (refusal-walk (length e.output) w))

-- a spot of a single report is of its range, and stands in a block read, which is not block 0
module _ (t : List ℕ) (x1 x2 y : ℤ) where
  walk-spot : (s : Spot) → Memᴰ s (spots (report_table t x1 x2 y)) → Memᴰ s (spots (walk_table t (query x1 x2 y)))
  walk-spot s i = from-on-mem _ (spots (walk_table t (query x1 x2 y))) (mem-same (report-spots t x1 x2 y) i)

  of_range : every (wants (query x1 x2 y)) (spots (report_table t x1 x2 y)) ≡ true
  of_range = every-make (wants (query x1 x2 y)) (spots (report_table t x1 x2 y)) (λ s i. (walk-sources t (query x1 x2 y) s (walk-spot s i)).0)

  from-read : (s : Spot) → Memᴰ s (spots (report_table t x1 x2 y))
      → (b : ℕ) × Memᴰ b (blocks_read (report_table t x1 x2 y)) × Memᴰ s ((store_of t b).points ++ (store_of t b).inserts) × (b ≡ 0 → ⊥)
  from-read s i =
      let r = (walk-sources t (query x1 x2 y) s (walk-spot s i)).1 in
      (r.0, mem-same (sym (report-blocks t x1 x2 y)) r.1, r.2, λ n. omega (arith, (read-in-table t (query x1 x2 y) r.0 r.1).some))

report-out : (x1 x2 y : ℤ) (t : List ℕ) (e : Event) → ReportPost x1 x2 y t e.output e.read_map e.answer e.output' e.read_map' → e.answer.number ≡ 0
    → HandsOut (query x1 x2 y) t e.output e.answer e.output' e.read_map'
report-out x1 x2 y t e p z =
    let q = query x1 x2 y in
    let marks : e.read_map' ≡ read_map (blocks_read (walk_table t q)) = p.marks ∙ map-accepted _ _ _ z ∙ ap read_map (report-blocks t x1 x2 y) in
    record {
      given = spots (report_table t x1 x2 y);
      output = p.output ∙ ap (λ (n : ℕ). output_left n (spots (report_table t x1 x2 y)) e.output) z;
      detail = (walk-accepted _ (length e.output) (report_table t x1 x2 y) e.answer p.answered z).1;
      wanted = of_range t x1 x2 y;
      marked = λ s i.
          let r = from-read t x1 x2 y s i in
          (r.0, ap (λ (m : List ℕ). bit m r.0) marks ∙ read-marked t q r.0 (mem-same (report-blocks t x1 x2 y) r.1), r.2, r.3);
      header = ap (λ (m : List ℕ). bit m 0) marks ∙ zero-marked (blocks_read (walk_table t q));
      limits = report-limited t x1 x2 y;
    }

-- ---- many ranges

many-out : (rs : List Range) (t : List ℕ) (e : Event) → ManyPost rs t e.counts e.output e.read_map e.answer e.counts' e.output' e.read_map' → e.answer.number ≡ 0
    → HandsOutEach rs t e.output e.answer e.counts' e.output' e.read_map'
unfolding counts_left
many-out rs t e p z =
    let a = walk-accepted _ (length e.output) (joined t rs) e.answer p.handed.answered z in
    let found = spots-joined t rs a.0 in
    let marks : e.read_map' ≡ read_map (blocks_read (joined t rs)) = p.handed.marks ∙ map-accepted _ _ _ z in
    record {
      given = λ r. spots (report_of t r);
      output = p.handed.output ∙ ap₂ (λ (n : ℕ) (ss : List Spot). output_left n ss e.output) z found;
      detail = a.1 ∙ ap length found;
      counted = p.counted ∙ ap (λ (n : ℕ). counts_left n (counts_of t rs) e.counts) z;
      wanted = λ x i. of_range t x.x1 x.x2 x.y;
      marked = λ x i s j.
          let r = from-read t x.x1 x.x2 x.y s j in
          (r.0, ap (λ (m : List ℕ). bit m r.0) marks ∙ read-joined t rs a.0 r.0 ((blocks-joined t rs a.0 r.0).1 (x, i, r.1)), r.2, r.3);
      header = ap (λ (m : List ℕ). bit m 0) marks ∙ zero-marked (blocks_read (joined t rs));
      limits = λ x i. report-limited t x.x1 x.x2 x.y;
    }

-- ---- Top, and Top within an allowance

module _ (c : Call) (x1 x2 : ℤ) (w : Walk) (once : Bool) (t : List ℕ) (e : Event) (same : e.table' ≡ t)
    (p : SearchPost c x1 x2 w once t e.output e.read_map e.answer e.output' e.read_map') where
  search-down : is_counting c ≡ false → (has_ceiling c ≡ true → (e.answer.number ≡ 0 → ⊥) → e.ceiling' ≡ pos 0) → (e.answer.number ≡ 0 → ⊥) → TurnedDown c t e
  search-down n ceiling z =
      record {
        number = r.number z;
        detail = λ y i. r.detail z y;
        table = same;
        output = λ i. p.unchanged z;
        read_map = λ i. p.marks ∙ map-refused e.answer.number (blocks_read w) e.read_map z;
        counts = λ i. absurd (false≢true (sym n ∙ i));
        ceiling = λ i. ceiling i z;
      }
    where
      r : Refusal e.answer
      r = subst Refusal (sym p.answered) (refusal-lengths _ _ (by_lengths (with_output t e.output e.read_map) c) (refusal-walk (length e.output) w))

-- ---- the demand

formatted-long : (t t' : List ℕ) → t' ≡ cond (table_sized (length t)) (formatted (length t)) t → length t' ≡ length t
formatted-long t t' w = ap length w ∙ go (table_sized (length t)) refl
  where
    go : (b : Bool) → table_sized (length t) ≡ b → length (cond b (formatted (length t)) t) ≡ length t
    go true e = fresh-sized (length t) e
    go false e = refl

-- a Format that is refused leaves the table
format-down : (t : List ℕ) (e : Event) → MetBy format t e → (e.answer.number ≡ 0 → ⊥) → e.table' ≡ t
unfolding early_number unless_refused
format-down t e p z = go (table_sized (length t)) p.promised.answered p.promised.written
  where
    go : (b : Bool) → e.answer ≡ unless_refused (cond b 0 1) (answer 0 0) → e.table' ≡ cond b (formatted (length t)) t → e.table' ≡ t
    go true a w = absurd (z (ap (λ (r : Answer). r.number) a))
    go false a w = w

-- turned down, each call changes nothing; and the table is as long as it was
ends : (c : Call) (t : List ℕ) (e : Event) → MetBy c t e → ((e.answer.number ≡ 0 → ⊥) → TurnedDown c t e) × (length e.table' ≡ length t)
ends format t e p =
    let r = subst Refusal (sym p.promised.answered) (refusal-lengths _ (answer 0 0) (by_lengths (of_table t) format) (refusal-zero 0)) in (
      λ z. record {
        number = r.number z;
        detail = λ y i. r.detail z y;
        table = format-down t e p z;
        output = λ i. absurd (false≢true i);
        read_map = λ i. absurd (false≢true i);
        counts = λ i. absurd (false≢true i);
        ceiling = λ i. absurd (false≢true i);
      },
      formatted-long t e.table' p.promised.written,
    )
ends (add place rank track) t e p = (update-down (add place rank track) _ _ t e p.promised.update refl refl (λ i. p.promised.detail), p.promised.update.sized)
ends (withdraw place rank) t e p = (update-down (withdraw place rank) _ _ t e p.promised.update refl refl (λ i. p.promised.detail), p.promised.update.sized)
ends (report x1 x2 y) t e p = (
  λ z. walk-down _ (report_table t x1 x2 y) e p.promised (report x1 x2 y) t (by_lengths (with_output t e.output e.read_map) (report x1 x2 y)) (p.unchanged refl) z
      (λ i. absurd (false≢true i))
      refl,
  ap length (p.unchanged refl),
)
ends (top x1 x2 k) t e p = (
  search-down (top x1 x2 k) x1 x2 _ _ t e (p.unchanged refl) p.promised refl (λ i. absurd (false≢true i)),
  ap length (p.unchanged refl),
)
ends count t e p = (
  still-down count t e (subst Refusal (sym p.promised.answered) (refusal-lengths _ _ (by_lengths (of_table t) count) (refusal-count _))) (p.unchanged refl) refl,
  ap length (p.unchanged refl),
)
ends check t e p = (
  still-down check t e (subst Refusal (sym p.promised.answered) (refusal-lengths _ _ (by_lengths (of_table t) check) (refusal-zero _))) (p.unchanged refl) refl,
  ap length (p.unchanged refl),
)
ends rebuild t e p = (update-down rebuild _ _ t e p.promised.update refl refl (λ i. p.promised.detail), p.promised.update.sized)
ends (report_many rs) t e p = (
  λ z. walk-down _ (joined t rs) e p.promised.handed (report_many rs) t (by_lengths (with_counts t e.output e.read_map e.counts) (report_many rs)) (p.unchanged refl) z
      (λ i. p.promised.counted ∙ counts-refused e.answer.number (counts_of t rs) e.counts z)
      refl,
  ap length (p.unchanged refl),
)
ends (top_within x1 x2 k a) t e p = (
  search-down (top_within x1 x2 k a) x1 x2 _ _ t e (p.unchanged refl) p.promised.search refl (λ i z. p.promised.ceiling ∙ ceiling-refused e.answer.number _ z),
  ap length (p.unchanged refl),
)
ends (apply m) t e p = (
  update-down (apply m) _ _ t e p.promised.update refl refl (λ i. update-detail (apply m) _ _ t e p.promised.update (i refl)),
  p.promised.update.sized,
)

only-marked : (c : Call) (t : List ℕ) (e : Event) → MetBy c t e → e.answer.number ≡ 0 → OnlyMarked c t e
only-marked c t e p z =
    record {
      reports = λ x1 x2 y q. let m : MetBy (report x1 x2 y) t e = subst (λ (d : Call). MetBy d t e) q p in report-out x1 x2 y t e m.promised z;
      tops = λ x1 x2 k q. let m : MetBy (top x1 x2 k) t e = subst (λ (d : Call). MetBy d t e) q p in m.promised.hands_out z;
      manys = λ rs q. let m : MetBy (report_many rs) t e = subst (λ (d : Call). MetBy d t e) q p in many-out rs t e m.promised z;
      withins = λ x1 x2 k a q. let m : MetBy (top_within x1 x2 k a) t e = subst (λ (d : Call). MetBy d t e) q p in m.promised.search.hands_out z;
    }

pub demand1 : Demand1
demand1 t e p =
    let r = ends e.call t e p in
    record { turned_down = r.0; hands_out = only-marked e.call t e p; sized = r.1 }
