-- Request 2026-03 of the Report of a tour that pressing made.
-- Assumes nothing.
use mathlib.Core.Path.{◌≡◌, ap, ap₂, ◌∙◌}
use mathlib.Core.Bool.{Bool, cond}
use mathlib.Core.List.{List}
use Prim.Native.Nat.{ℕ, ◌≤◌}
use native.Mathlib.Omega.{arith}
use lib.ListN.{length}
use lib.IntN.{ℤ}
use lib.Dec.{eqb}
use Rattle.octets.specs.Lists.{keep}
use Rattle.octets.specs.Bitmap.{bit}
use Rattle.spot.specs.Query.{query, from_of, wants}
use Rattle.spot.specs.declared.Spot.{Spot}
use Rattle.block.specs.declared.Answer.{Answer}
use Rattle.tree.specs.Walk.{Walk, spots}
use Rattle.tree.specs.ReadMap.{read_map, ones}
use Rattle.sort.proofs.Turning.{from-on-length}
use Rattle.table.specs.Answers.{unless_refused, spots_answer, output_left}
use Rattle.table.specs.Queries.{walk_answer, GivenInside}
use Rattle.table.proofs.Given.{walk_inside}
use Rattle.sweep.specs.Pressed.{Pressable, pressed}
use Rattle.sweep.specs.Report.{most_read}
use Rattle.sweep.specs.Laws.{SweepLaws}
use Rattle.catalogue.specs.Catalogue.{tiles_read}
use Rattle.catalogue.proofs.Blocks.{sized-pressed}
use Rattle.tour.specs.Tour.{tour_report, tour_number, TourPost}
use Rattle.tour.specs.Promises.{list_report, OnPressed}
use Rattle.tour.proofs.Accepted.{accepted}
use Rattle.tour.proofs.HandsOut.{places-inside}
use Rattle.tour.proofs.Marks.{marks-met, ones-met}
use Rattle.tour.proofs.Pressed.{report-is}

module _ (ss : List Spot) (g : Pressable ss) (w : SweepLaws ss) (x1 x2 y : ℤ) (out map : List ℕ) (r : Answer) (out'' map' : List ℕ)
    (p : TourPost x1 x2 y (pressed ss) out map r out'' map') where
  -- a pressed tour has its length
  number_is_lem : tour_number (length (pressed ss)) (length map) ≡ cond (eqb (length map) 512) 0 2
  unfolding tour_number
  number_is_lem = ap (λ (b : Bool). cond b (cond (eqb (length map) 512) 0 2) 1) (sized-pressed ss g w)

  answered : r ≡ unless_refused (cond (eqb (length map) 512) 0 2) (spots_answer (length out) (length (list_report x1 x2 y ss)))
  unfolding walk_answer
  answered = p.answered ∙ ap₂ (λ (n : ℕ) (v : Walk). unless_refused n (walk_answer (length out) v)) number_is_lem (report-is ss g w x1 x2 y)

  map_is : r.number ≡ 0 → map' ≡ read_map (tiles_read (pressed ss) (query x1 x2 y))
  map_is z = (accepted x1 x2 y (pressed ss) out map r out'' map' p z).marks

  detail : r.number ≡ 0 → r.detail ≡ length (keep (wants (query x1 x2 y)) ss)
  detail z =
      (accepted x1 x2 y (pressed ss) out map r out'' map' p z).detail ∙ ap (λ (v : Walk). length (spots v)) (report-is ss g w x1 x2 y)
      ∙ from-on-length (from_of (query x1 x2 y)) (keep (wants (query x1 x2 y)) ss)

  few : r.number ≡ 0 → ones map' ≤ most_read (query x1 x2 y) r.detail
  few z =
      let q = query x1 x2 y in
      omega (arith, ap ones (map_is z), ones-met ss g w q, (w.enough q).few, ap (most_read q) (detail z))

  pub pressing : OnPressed ss x1 x2 y out map r out'' map'
  pressing =
      record {
        answered = answered;
        output = p.output ∙ ap (λ (v : Walk). output_left r.number (spots v) out) (report-is ss g w x1 x2 y);
        marks = λ z b l. ap (λ (m : List ℕ). bit m b) (map_is z) ∙ marks-met ss g w (query x1 x2 y) b l;
        few = few;
      }

-- what an accepted call handed out is all in the output, with places inside the limits
pub tour-inside : (x1 x2 y : ℤ) (t out map : List ℕ) (r : Answer) (out'' map' : List ℕ) → TourPost x1 x2 y t out map r out'' map' → GivenInside r out''
tour-inside x1 x2 y t out map r out'' map' p z =
    walk_inside _ (tour_report t x1 x2 y) out map r out'' map' (places-inside x1 x2 y t r map' (accepted x1 x2 y t out map r out'' map' p z)) p z
