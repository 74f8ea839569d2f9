-- Request 2026-03: Report of a pressed tour is the Report of the list pressed, and that of a sound table with the same spots; from the promises of the calls alone.
-- Assumes nothing.
use mathlib.Core.Path.{◌≡◌, ap, ap₂, sym, subst, ◌∙◌}
use mathlib.Core.Logic.{◌↔◌}
use mathlib.Core.Bool.{Bool, true, cond}
use mathlib.Core.List.{List}
use Prim.Native.Nat.{ℕ}
use lib.ListN.{length}
use lib.Dec.{eqb}
use lib.IntN.{ℤ}
use borrow.Author.Tests.{eq-eqb}
use Rattle.octets.proofs.Tests.{every-mem}
use Rattle.spot.specs.declared.Spot.{Spot}
use Rattle.spot.specs.Keys.{limited}
use Rattle.spot.specs.Spots.{keys}
use Rattle.spot.specs.Query.{query}
use Rattle.spot.proofs.Buffers.{keys-mem}
use Rattle.spot.proofs.Limits.{limited-small}
use Rattle.spot.proofs.Signed.{signed-fits, fits_signed}
use Rattle.block.specs.declared.Answer.{Answer}
use Rattle.block.specs.Header.{head_of}
use Rattle.block.proofs.Facts.{head-facts}
use Rattle.tree.specs.Walk.{Walk, spots, Finds, live_spots}
use Rattle.tree.specs.Report.{report_table}
use Rattle.tree.specs.Sound.{sound}
use Rattle.tree.proofs.Tables.{sound-header, report-finds}
use Rattle.report.proofs.Reports.{report-turned}
use Rattle.table.specs.Calls.{report, arguments_fit}
use Rattle.table.specs.Answers.{early_number, with_output, unless_refused, spots_answer, output_left}
use Rattle.table.specs.Queries.{walk_answer, ReportPost}
use Rattle.sweep.specs.Pressed.{Pressable}
use Rattle.press.specs.Press.{spots_given}
use Rattle.press.proofs.Accepting.{accepted-spots}
use Rattle.tour.specs.Tour.{TourPost}
use Rattle.tour.specs.Promises.{OnPressed}
use Rattle.tour.proofs.FromPress.{tour-reports}
use Rattle.demands.specs.Model.{PlainSpot}
use Rattle.demands.specs.Demands.{LiveSpot}
use Rattle.demands.specs.Tours.{ListedSpot, PressedFrom, ToursAgree}
use Rattle.demands.proofs.Keyed.{singly}
use Rattle.demands.proofs.Plain.{three-fit}
use Rattle.demands.proofs.Alive.{plain}
use Rattle.demands.proofs.Reported.{Listed, live_table, one_list, singly-few, report-of, handed-by}

-- the number that the length of a read map decides: 2, or 0
abbrev by_map : List ℕ → ℕ
by_map map = cond (eqb (length map) 512) 0 2

-- ---- a tour

module _ (s tour : List ℕ) (g : PressedFrom s tour) where
  given : Pressable (spots_given s)
  given = accepted-spots (length g.lent) s (sym (ap (λ (x : Answer). x.number) g.promised.answered) ∙ g.accepted) g.bytes

  listed : Listed (spots_given s) (ListedSpot (spots_given s))
  listed =
      record {
        rises = given.rise;
        small = λ x i. limited-small x.key (every-mem limited (keys (spots_given s)) given.limits (keys-mem (spots_given s) i));
        each = λ p. (
          λ h. (record { place = signed-fits p.place h.place_fits; rank = signed-fits p.rank h.rank_fits }, h.there),
          λ m. record { place_fits = fits_signed p.place m.0.place; rank_fits = fits_signed p.rank m.0.rank; there = m.1 },
        );
      }

  module _ (x1 x2 y : ℤ) (out map : List ℕ) (r : Answer) (out'' map' : List ℕ) (p : TourPost x1 x2 y tour out map r out'' map') where
    on-pressed : OnPressed (spots_given s) x1 x2 y out map r out'' map'
    on-pressed =
        tour-reports.pressing s g.lent g.answer g.lent' g.bytes g.promised g.accepted x1 x2 y out map r out'' map'
        (subst (λ (t : List ℕ). TourPost x1 x2 y t out map r out'' map') g.is p)

    tour-answered : r ≡ unless_refused (by_map map) (spots_answer (length out) (length (singly x1 x2 y (spots_given s))))
    tour-answered = on-pressed.answered

    tour-output : out'' ≡ output_left r.number (singly x1 x2 y (spots_given s)) out
    tour-output = on-pressed.output

-- ---- a table

module _ (t : List ℕ) (g : sound t ≡ true) (x1 x2 y : ℤ) (out map : List ℕ) (r : Answer) (out'' map' : List ℕ) (p : ReportPost x1 x2 y t out map r out'' map') where
  finds : Finds (report_table t x1 x2 y) (singly x1 x2 y (live_spots t))
  finds = report-turned t x1 x2 y _ (report-finds t g (query x1 x2 y))

  table-early : early_number (with_output t out map) (report x1 x2 y) ≡ by_map map
  unfolding early_number
  table-early = ap (λ (b : Bool). cond b (by_map map) 1) (head-facts (length t) (head_of t) (sound-header t g)).sized

  table-answered : r ≡ unless_refused (by_map map) (spots_answer (length out) (length (singly x1 x2 y (live_spots t))))
  unfolding walk_answer
  table-answered = p.answered ∙ ap₂ (λ (n : ℕ) (w : Walk). unless_refused n (walk_answer (length out) w)) table-early finds.1

  table-output : out'' ≡ output_left r.number (singly x1 x2 y (live_spots t)) out
  table-output = p.output ∙ ap (λ (w : Walk). output_left r.number (spots w) out) finds.1

-- ---- both

same_lists : (s tour t : List ℕ) → PressedFrom s tour → sound t ≡ true → ((p : PlainSpot) → LiveSpot t p ↔ ListedSpot (spots_given s) p) → spots_given s ≡ live_spots t
same_lists s tour t g h same =
    one_list (spots_given s) (live_spots t) (LiveSpot t)
    (record {
      rises = l.rises;
      small = l.small;
      each = λ p. (λ a. (l.each p).0 ((same p).0 a), λ m. (same p).1 ((l.each p).1 m));
    })
    (live_table t h)
  where
    l : Listed (spots_given s) (ListedSpot (spots_given s))
    l = listed s tour g

pub tours-agree : ToursAgree
unfolding arguments_fit unless_refused
tours-agree =
    record {
      reports = λ s tour g x1 x2 y out map r out'' map' fit long p.
          let f = three-fit x1 x2 y fit in
          let l = listed s tour g in
          let due = spots_answer (length out) (length (singly x1 x2 y (spots_given s))) in (
            plain (singly x1 x2 y (spots_given s)),
            report-of (spots_given s) (ListedSpot (spots_given s)) l x1 x2 y f.0 f.1 f.2,
            handed-by (singly x1 x2 y (spots_given s)) (singly-few (spots_given s) (ListedSpot (spots_given s)) l x1 x2 y) out r out''
                (tour-answered s tour g x1 x2 y out map r out'' map' p ∙ ap (λ (b : Bool). unless_refused (cond b 0 2) due) (eq-eqb (length map) 512 long))
                (tour-output s tour g x1 x2 y out map r out'' map' p),
          );
      agrees = λ s tour t g h same x1 x2 y out map r out'' map' p map₂ r₂ out₂' map₂' q long.
          let e = same_lists s tour t g h same in
          let answers : r₂ ≡ r =
          tour-answered s tour g x1 x2 y out map₂ r₂ out₂' map₂' q
          ∙ ap₂ (λ (n : ℕ) (ss : List Spot). unless_refused (cond (eqb n 512) 0 2) (spots_answer (length out) (length (singly x1 x2 y ss)))) long e
          ∙ sym (table-answered t h x1 x2 y out map r out'' map' p) in (
            answers,
            tour-output s tour g x1 x2 y out map₂ r₂ out₂' map₂' q
                ∙ ap₂ (λ (a : Answer) (ss : List Spot). output_left a.number (singly x1 x2 y ss) out) answers e
                ∙ sym (table-output t h x1 x2 y out map r out'' map' p),
          );
    }
