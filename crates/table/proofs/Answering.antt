-- The posts of the reading calls, one law for each way that a call ends.
-- Assumes nothing.
use mathlib.Core.Path.{◌≡◌, refl, ap, sym, subst, ◌∙◌}
use mathlib.Core.Bool.{Bool, true, false, cond, not, true≢false, false≢true}
use mathlib.Core.List.{List, ◌++◌}
use Prim.Native.Nat.{ℕ, zero, suc, ◌/◌, ◌≤◌, ◌<◌}
use native.Mathlib.Omega.{arith}
use lib.ListN.{length, take, drop}
use lib.Seq.{take_all}
use lib.IntN.{ℤ}
use borrow.Author.Tests.{eq-eqb, lt-ltb, le-ltb, not-true, not-false}
use Rattle.octets.proofs.Lists.{over-all}
use Rattle.spot.specs.Query.{query, everything}
use Rattle.spot.specs.declared.Query.{Query}
use Rattle.block.specs.declared.Answer.{Answer}
use Rattle.block.specs.Answers.{answer}
use Rattle.block.specs.Table.{table_sized}
use Rattle.block.specs.Fresh.{formatted}
use Rattle.tree.specs.Walk.{Walk, broken, walked, is_broken, spots, blocks_read, walk_table}
use Rattle.tree.specs.ReadMap.{read_map}
use Rattle.tree.specs.Report.{report_table}
use Rattle.tree.specs.Sound.{sound}
use Rattle.query.specs.Walks.{TableCounted}
use Rattle.std.specs.Prelude.{Some, None}
use Rattle.tally.specs.declared.Tally.{Tally}
use Rattle.report.specs.Reports.{written}
use Rattle.report.proofs.Reports.{report-blocks, report-whole, report-length}
use Rattle.table.specs.Calls.{Call, format, report, count, check, kind, Lengths}
use Rattle.table.specs.Answers.{of_table, with_output, lent, few_enough, argument_number, early_number, unless_refused, spots_answer, output_left, map_left}
use Rattle.table.specs.Queries.{walk_answer, WalkPost, ReportPost, count_answer, CountPost, CheckPost}
use Rattle.table.specs.Updates.{FormatPost}

-- refused by lengths and arguments: 1, then 2, then 6, then 8 or 9; else the call's own answer
module _ (l : Lengths) (c : Call) where
  pub number_short : table_sized l.table ≡ false → early_number l c ≡ 1
  unfolding early_number
  number_short e = rw e

  pub number-lent : table_sized l.table ≡ true → lent l (kind c) ≡ false → early_number l c ≡ 2
  unfolding early_number
  number-lent e f = rw (e, f)

  pub number-over : table_sized l.table ≡ true → lent l (kind c) ≡ true → few_enough (kind c) ≡ false → early_number l c ≡ 6
  unfolding early_number
  number-over e f g = rw (e, f, g)

  pub number-argument : table_sized l.table ≡ true → lent l (kind c) ≡ true → few_enough (kind c) ≡ true → early_number l c ≡ argument_number c
  unfolding early_number
  number-argument e f g = rw (e, f, g)

  pub number-fine : table_sized l.table ≡ true → lent l (kind c) ≡ true → few_enough (kind c) ≡ true → argument_number c ≡ 0 → early_number l c ≡ 0
  number-fine e f g h = number-argument e f g ∙ h

  pub short-table : (a : Answer) → table_sized l.table ≡ false → unless_refused (early_number l c) a ≡ answer 1 0
  unfolding unless_refused
  short-table a e = ap (λ (n : ℕ). unless_refused n a) (number_short e)

  pub long-enough : (a : Answer) → table_sized l.table ≡ true → lent l (kind c) ≡ true → few_enough (kind c) ≡ true → argument_number c ≡ 0
      → unless_refused (early_number l c) a ≡ a
  unfolding unless_refused
  long-enough a e f g h = ap (λ (n : ℕ). unless_refused n a) (number-fine e f g h)

-- Format
pub formats : (t t' : List ℕ) (r : Answer) → r ≡ cond (table_sized (length t)) (answer 0 0) (answer 1 0) → t' ≡ cond (table_sized (length t)) (formatted (length t)) t
    → FormatPost t r t'
formats t t' r a w = record { answered = a ∙ go (table_sized (length t)) refl; written = w }
  where
    go : (b : Bool) → table_sized (length t) ≡ b → cond b (answer 0 0) (answer 1 0) ≡ unless_refused (early_number (of_table t) format) (answer 0 0)
    go true e = sym (long-enough (of_table t) format (answer 0 0) e refl refl refl)
    go false e = sym (short-table (of_table t) format (answer 0 0) e)

-- Count
pub count-short : (t : List ℕ) (r : Answer) → table_sized (length t) ≡ false → r ≡ answer 1 0 → CountPost t r
count-short t r e a = record { answered = a ∙ sym (short-table (of_table t) count _ e) }

broken-count : (w : Walk) → is_broken w ≡ true → answer 3 0 ≡ count_answer w
unfolding count_answer
broken-count broken h = refl
broken-count (walked found blocks) h = absurd (false≢true h)

whole-count : (w : Walk) → is_broken w ≡ false → answer 0 (length (spots w)) ≡ count_answer w
unfolding count_answer
whole-count broken h = absurd (true≢false h)
whole-count (walked found blocks) h = refl

pub count-broken : (t : List ℕ) (r : Answer) → table_sized (length t) ≡ true → is_broken (walk_table t everything) ≡ true → r ≡ answer 3 0 → CountPost t r
count-broken t r e b a = record { answered = a ∙ broken-count (walk_table t everything) b ∙ sym (long-enough (of_table t) count _ e refl refl refl) }

pub count-whole : (t : List ℕ) (r : Answer) → table_sized (length t) ≡ true → is_broken (walk_table t everything) ≡ false → r ≡ answer 0 (length (spots (walk_table t everything)))
    → CountPost t r
count-whole t r e b a = record { answered = a ∙ whole-count (walk_table t everything) b ∙ sym (long-enough (of_table t) count _ e refl refl refl) }

-- Check
pub check-short : (t : List ℕ) (r : Answer) → table_sized (length t) ≡ false → r ≡ answer 1 0 → CheckPost t r
check-short t r e a = record { answered = a ∙ sym (short-table (of_table t) check _ e) }

pub check-says : (t : List ℕ) (r : Answer) (b : Bool) → table_sized (length t) ≡ true → sound t ≡ b → r ≡ answer 0 (cond b 1 0) → CheckPost t r
check-says t r b e s a = record { answered = a ∙ ap (λ (x : Bool). answer 0 (cond x 1 0)) (sym s) ∙ sym (long-enough (of_table t) check _ e refl refl refl) }

-- a call that hands out the spots of a walk
module _ (w : Walk) (out map : List ℕ) where
  left_out : (n : ℕ) → 0 < n → out ≡ output_left n (spots w) out
  unfolding output_left
  left_out zero h = let z : ⊥ = omega arith in absurd z
  left_out (suc n) h = refl

  left-map : (n : ℕ) → 0 < n → map ≡ map_left n (blocks_read w) map
  unfolding map_left
  left-map zero h = let z : ⊥ = omega arith in absurd z
  left-map (suc n) h = refl

  -- refused: what it was lent is as it was
  refused-by : (early : ℕ) (r : Answer) (n d : ℕ) → 0 < n → r ≡ answer n d → unless_refused early (walk_answer (length out) w) ≡ answer n d → WalkPost early w out map r out map
  refused-by early r n d h a e =
      record {
        answered = a ∙ sym e;
        output = left_out n h ∙ ap (λ (x : Answer). output_left x.number (spots w) out) (sym a);
        marks = left-map n h ∙ ap (λ (x : Answer). map_left x.number (blocks_read w) map) (sym a);
      }

  -- by lengths and arguments
  pub walk-early : (n : ℕ) {early : ℕ} (r : Answer) → early ≡ suc n → r ≡ answer (suc n) 0 → WalkPost early w out map r out map
  unfolding unless_refused
  walk-early n {early} r e a = refused-by early r (suc n) 0 (omega arith) a (ap (λ (i : ℕ). unless_refused i (walk_answer (length out) w)) e)

  broken-answer : (v : Walk) → is_broken v ≡ true → walk_answer (length out) v ≡ answer 3 0
  unfolding walk_answer
  broken-answer broken h = refl
  broken-answer (walked found blocks) h = absurd (false≢true h)

  whole-answer : (v : Walk) → is_broken v ≡ false → walk_answer (length out) v ≡ spots_answer (length out) (length (spots v))
  unfolding walk_answer
  whole-answer broken h = absurd (true≢false h)
  whole-answer (walked found blocks) h = refl

  module _ {early : ℕ} (fine : early ≡ 0) (r : Answer) where
    by-walk : unless_refused early (walk_answer (length out) w) ≡ walk_answer (length out) w
    unfolding unless_refused
    by-walk = ap (λ (i : ℕ). unless_refused i (walk_answer (length out) w)) fine

    pub walk-broken : is_broken w ≡ true → r ≡ answer 3 0 → WalkPost early w out map r out map
    walk-broken b a = refused-by early r 3 0 (omega arith) a (by-walk ∙ broken-answer w b)

    pub walk-many : is_broken w ≡ false → length out / 12 < length (spots w) → r ≡ answer 5 (length (spots w)) → WalkPost early w out map r out map
    unfolding spots_answer
    walk-many b h a =
        refused-by early r 5 (length (spots w)) (omega arith) a (by-walk ∙ rw (lt-ltb (length out / 12) (length (spots w)) h) at (whole-answer w b))

    -- accepted: the spots, and the map of the blocks read
    pub walk-given : (out'' map' : List ℕ) → is_broken w ≡ false → length (spots w) ≤ length out / 12 → r ≡ answer 0 (length (spots w)) → out'' ≡ written (spots w) out
        → map' ≡ read_map (blocks_read w)
        → WalkPost early w out map r out'' map'
    unfolding spots_answer output_left map_left
    walk-given out'' map' b h a o m =
        record {
          answered = a ∙ sym (by-walk ∙ rw (le-ltb (length out / 12) (length (spots w)) h) at (whole-answer w b));
          output = o ∙ ap (λ (x : Answer). output_left x.number (spots w) out) (sym a);
          marks = m ∙ ap (λ (x : Answer). map_left x.number (blocks_read w) map) (sym a);
        }

-- a walk that is told not to be whole is broken, and one told to be whole is not
pub told-broken : (ok : Bool) (t : List ℕ) (q : Query) → ok ≡ not (is_broken (walk_table t q)) → ok ≡ false → is_broken (walk_table t q) ≡ true
told-broken ok t q e h = not-false (is_broken (walk_table t q)) (sym e ∙ h)

pub told-whole : (ok : Bool) (t : List ℕ) (q : Query) → ok ≡ not (is_broken (walk_table t q)) → ok ≡ true → is_broken (walk_table t q) ≡ false
told-whole ok t q e h = not-true (is_broken (walk_table t q)) (sym e ∙ h)

-- Report, counted
module _ (x1 x2 y : ℤ) (t out map : List ℕ) (e : table_sized (length t) ≡ true) (f : length map ≡ 512) (r : Answer) where
  fine : early_number (with_output t out map) (report x1 x2 y) ≡ 0
  fine = number-fine (with_output t out map) (report x1 x2 y) e (eq-eqb (length map) 512 f) refl refl

  pub report-broken : {seen : List ℕ} → TableCounted t (query x1 x2 y) seen None → r ≡ answer 3 0 → ReportPost x1 x2 y t out map r out map
  report-broken g a =
      walk-broken (report_table t x1 x2 y) out map fine r (report-whole t x1 x2 y ∙ told-broken false t (query x1 x2 y) g.ok refl) a

  module _ {seen : List ℕ} {s : Tally} (g : TableCounted t (query x1 x2 y) seen (Some s)) where
    whole : is_broken (report_table t x1 x2 y) ≡ false
    whole = report-whole t x1 x2 y ∙ told-whole true t (query x1 x2 y) g.ok refl

    many : s.spots ≡ length (spots (report_table t x1 x2 y))
    many = g.spots ∙ sym (report-length t x1 x2 y)

    pub report-many : length out / 12 < s.spots → r ≡ answer 5 s.spots → ReportPost x1 x2 y t out map r out map
    report-many l a =
        walk-many (report_table t x1 x2 y) out map fine r whole (subst (λ (i : ℕ). length out / 12 < i) many l) (a ∙ ap (answer 5) many)

    pub report-given : (out'' map' : List ℕ) → s.spots ≤ length out / 12 → r ≡ answer 0 s.spots → out'' ≡ written (spots (report_table t x1 x2 y)) out
        → map' ≡ seen
        → ReportPost x1 x2 y t out map r out'' map'
    report-given out'' map' l a o m =
        walk-given (report_table t x1 x2 y) out map fine r out'' map' whole (subst (λ (i : ℕ). i ≤ length out / 12) many l) (a ∙ ap (answer 0) many) o
        (m ∙ g.marks ∙ sym (ap read_map (report-blocks t x1 x2 y)))

-- the map that an accepted call leaves
pub map_is : (from to to' : List ℕ) → length from ≡ 512 → length to ≡ 512 → to' ≡ take 512 from ++ drop 512 to → to' ≡ from
map_is from to to' f t h = h ∙ over-all (take 512 from) to 512 (omega arith) ∙ take_all 512 from (omega arith)
