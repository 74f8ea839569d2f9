-- What the queries read and mark on every sound table, from their promises alone. The steps of a history start from any sound table: what they share with it is
-- taken from there.
-- Assumes nothing.
use mathlib.Core.Path.{◌≡◌, refl, ap, ap₂, sym, ◌∙◌}
use mathlib.Core.Bool.{true}
use mathlib.Core.List.{List, []}
use Prim.Native.Nat.{ℕ, ◌≤◌}
use lib.ListN.{length}
use lib.IntN.{ℤ, pos}
use Rattle.spot.specs.declared.Spot.{Spot}
use Rattle.block.specs.declared.Answer.{Answer}
use Rattle.block.specs.Header.{head_of}
use Rattle.block.proofs.Facts.{head-facts}
use Rattle.tree.specs.Walk.{spots}
use Rattle.tree.specs.Top.{top_table}
use Rattle.tree.specs.Sound.{sound}
use Rattle.tree.proofs.Tables.{sound-header}
use Rattle.tree.proofs.Tops.{top-finds}
use Rattle.within_theory.specs.Reading.{reading, given_of, within_table, reads_in_all}
use Rattle.within_theory.proofs.Certain.{within-top}
use Rattle.table.specs.Calls.{Call, report, top, report_many, top_within, is_query}
use Rattle.table.specs.Answers.{with_output, early_number, unless_refused, spots_answer, output_left}
use Rattle.table.specs.Queries.{walk_answer, QueryPost}
use Rattle.demands.specs.History.{Event, MetBy}
use Rattle.demands.specs.Demands.{SecondOnSound}
use Rattle.demands.specs.OnSound.{ReportReads, ManyReads, WithinReads}
use Rattle.demands.proofs.Histories.{step}
use Rattle.demands.proofs.Shown.{top-shows, within-shows}
use Rattle.demands.proofs.Reported.{found-answered}
use Rattle.demands.proofs.Demand.{tree_laws, marks-exactly, union-marked}
use Rattle.demands.proofs.Withins.{walk_is, within-left, left-within, left-grows}

-- a query that was answered, with all that it was lent
asked : Call → List ℕ → List ℕ → List ℕ → List ℕ → Answer → List ℕ → List ℕ → List ℕ → Event
asked c t out map counts r out'' map' counts' =
    record {
      call = c;
      output = out;
      read_map = map;
      scratch = [];
      counts = counts;
      answer = r;
      output' = out'';
      read_map' = map';
      scratch' = [];
      counts' = counts';
      ceiling' = pos 0;
      table' = t;
    }

pub second-on-sound : (c : Call) → is_query c ≡ true → SecondOnSound c
second-on-sound c q t u e f s m z h =
    (step tree_laws c t e (head-facts (length t) (head_of t) (sound-header t s)).sized s m).agreed.second q z u f h

pub report-reads : ReportReads
unfolding asked
report-reads =
    record {
      marks = λ x1 x2 y t out map r out'' map' h p z b l.
          marks-exactly (report x1 x2 y) t (asked (report x1 x2 y) t out map [] r out'' map' []) h.table h.arguments
          (record { promised = p; unchanged = λ i. refl })
          x1
          x2
          y
          refl
          z
          b
          l;
      bounded = λ x1 x2 y t out map r out'' map' h p z.
          (step tree_laws (report x1 x2 y) t (asked (report x1 x2 y) t out map [] r out'' map' []) (head-facts (length t) (head_of t) (sound-header t h.table)).sized h.table
          (record { promised = p; unchanged = λ i. refl })
          ).agreed.bounded
          x1
          x2
          y
          refl
          z;
      second = λ x1 x2 y. second-on-sound (report x1 x2 y) refl;
    }

pub many-reads : ManyReads
unfolding asked
many-reads =
    record {
      marks = λ rs t counts out map r counts' out'' map' h p z b l.
          union-marked (report_many rs) t (asked (report_many rs) t out map counts r out'' map' counts') h.table h.arguments
          (record { promised = p; unchanged = λ i. refl })
          rs
          refl
          z
          b
          l;
      second = λ rs. second-on-sound (report_many rs) refl;
    }

-- ---- Top within an allowance

-- lengths refuse it as they refuse Top
early-same : (t out map lent : List ℕ) (x1 x2 : ℤ) (k a : ℕ) → length lent ≡ length map
    → early_number (with_output t out map) (top_within x1 x2 k a) ≡ early_number (with_output t out lent) (top x1 x2 k)
unfolding early_number
early-same t out map lent x1 x2 k a e = rw e

-- once the allowance reaches what Top reads, the two walks find the same spots
module _ (x1 x2 : ℤ) (k a : ℕ) (t : List ℕ) (g : sound t ≡ true) (h : reads_in_all t x1 x2 k ≤ a) where
  same-spots : spots (within_table t x1 x2 k a) ≡ spots (top_table t x1 x2 k)
  same-spots = ap spots (walk_is t g x1 x2 k a) ∙ within-top t g x1 x2 k a h

  same_answer : (bytes : ℕ) → walk_answer bytes (within_table t x1 x2 k a) ≡ walk_answer bytes (top_table t x1 x2 k)
  unfolding walk_answer
  same_answer bytes =
      let top-is = (top-finds t g x1 x2 k).1 in
      ap (walk_answer bytes) (walk_is t g x1 x2 k a)
      ∙ ap (λ (ss : List Spot). spots_answer bytes (length ss)) (within-top t g x1 x2 k a h ∙ ap spots top-is)
      ∙ sym (ap (walk_answer bytes) top-is)

  top_reached : (e f : Event) → MetBy (top_within x1 x2 k a) t e → MetBy (top x1 x2 k) t f → f.output ≡ e.output → length f.read_map ≡ length e.read_map
      → (e.answer ≡ f.answer) × (e.output' ≡ f.output')
  top_reached e f m n o l = (
    answers,
    p.output ∙ ap₂ (λ (r : Answer) (ss : List Spot). output_left r.number ss e.output) answers same-spots ∙
        ap (output_left f.answer.number (spots (top_table t x1 x2 k))) (sym o) ∙
        sym q.output,
  )
    where
      p : QueryPost (top_within x1 x2 k a) (within_table t x1 x2 k a) t e.output e.read_map e.answer e.output' e.read_map'
      p = within-shows t g x1 x2 k a m.promised

      q : QueryPost (top x1 x2 k) (top_table t x1 x2 k) t f.output f.read_map f.answer f.output' f.read_map'
      q = top-shows t g x1 x2 k n.promised

      answers : e.answer ≡ f.answer
      answers =
          p.answered
          ∙ ap₂ unless_refused (early-same t e.output e.read_map f.read_map x1 x2 k a l) (same_answer (length e.output))
          ∙ ap (λ (out : List ℕ). unless_refused (early_number (with_output t out f.read_map) (top x1 x2 k)) (walk_answer (length out) (top_table t x1 x2 k))) (sym o)
          ∙ sym q.answered

pub within-reads : WithinReads
within-reads =
    record {
      many = λ x1 x2 k a t out map r out'' map' c h p.
          found-answered _ (within_table t x1 x2 k a) (given_of k (reading t x1 x2 k a)) ((reading t x1 x2 k a).blocks, walk_is t h.table x1 x2 k a) (length out) r h.lent
          (within-shows t h.table x1 x2 k a p).answered;
      left = λ x1 x2 k a t out map r out'' map' c h p z.
          left-within x1 x2 k a t r map' c (within-left t h.table x1 x2 k a out map r out'' map' c p z);
      grows = λ x1 x2 k a b t e f g h m z n y.
          left-grows t g x1 x2 k a b h
          (within-left t g x1 x2 k a e.output e.read_map e.answer e.output' e.read_map' e.ceiling' m.promised z)
          (within-left t g x1 x2 k b f.output f.read_map f.answer f.output' f.read_map' f.ceiling' n.promised y);
      reached = λ x1 x2 k a t e f g h m n o l. top_reached x1 x2 k a t g h e f m n o l;
      second = λ x1 x2 k a. second-on-sound (top_within x1 x2 k a) refl;
    }
