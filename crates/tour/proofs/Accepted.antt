-- A Report of a tour that is accepted: the tour has its length, and all that is read keeps its layout.
-- Assumes nothing.
use mathlib.Core.Path.{◌≡◌, refl, sym, ap, ◌∙◌}
use mathlib.Core.Bool.{Bool, true, false, cond, true≢false}
use mathlib.Core.List.{List}
use Prim.Native.Nat.{ℕ, zero, suc}
use native.Mathlib.Omega.{arith}
use lib.ListN.{length}
use lib.IntN.{ℤ}
use lib.Dec.{eqb}
use Rattle.spot.specs.Query.{query}
use Rattle.block.specs.Table.{map_bytes}
use Rattle.block.specs.declared.Answer.{Answer}
use Rattle.tree.specs.ReadMap.{read_map}
use Rattle.tree.specs.Walk.{Walk, broken, walked, is_broken, spots, blocks_read}
use Rattle.table.specs.Answers.{unless_refused, spots_answer, map_left}
use Rattle.table.specs.Queries.{walk_answer}
use Rattle.table.proofs.Given.{walk-detail}
use Rattle.catalogue.specs.Catalogue.{tour_sized, tiles_read, tour_fine}
use Rattle.tour.specs.Tour.{tour_report, tour_number, TourPost}
use Rattle.tour.proofs.Answering.{report-whole, report-broken}

record Answered (early : ℕ) (w : Walk) : Type 0 where
  on-time : early ≡ 0
  whole : is_broken w ≡ false

answered : (early bytes : ℕ) (w : Walk) (r : Answer) → r ≡ unless_refused early (walk_answer bytes w) → r.number ≡ 0 → Answered early w
unfolding unless_refused walk_answer spots_answer
answered zero bytes broken r a z = let h : ◌≡◌ {A = ℕ} 3 0 = sym (ap (λ (x : Answer). x.number) a) ∙ z in let y : ⊥ = omega arith in absurd y
answered zero bytes (walked found blocks) r a z = record { on-time = refl; whole = refl }
answered (suc early) bytes w r a z = let h : suc early ≡ 0 = sym (ap (λ (x : Answer). x.number) a) ∙ z in let y : ⊥ = omega arith in absurd y

number-sized : (bytes map : ℕ) → tour_number bytes map ≡ 0 → tour_sized bytes ≡ true
unfolding tour_number
number-sized bytes map h = go (tour_sized bytes) refl h
  where
    go : (b : Bool) → tour_sized bytes ≡ b → ◌≡◌ {A = ℕ} (cond b (cond (eqb map map_bytes) 0 2) 1) 0 → tour_sized bytes ≡ true
    go true e k = e
    go false e k = let y : ⊥ = omega arith in absurd y

pub record Accepted (x1 x2 y : ℤ) (t : List ℕ) (r : Answer) (map' : List ℕ) : Type 0 where
  pub sized : tour_sized (length t) ≡ true
  pub fine : tour_fine t (query x1 x2 y) ≡ true
  pub detail : r.detail ≡ length (spots (tour_report t x1 x2 y))
  pub marks : map' ≡ read_map (tiles_read t (query x1 x2 y))

pub accepted : (x1 x2 y : ℤ) (t out map : List ℕ) (r : Answer) (out'' map' : List ℕ) → TourPost x1 x2 y t out map r out'' map' → r.number ≡ 0 → Accepted x1 x2 y t r map'
unfolding map_left
accepted x1 x2 y t out map r out'' map' p z =
    record {
      sized = number-sized (length t) (length map) a.on-time;
      fine = fine;
      detail = walk-detail (tour_number (length t) (length map)) (length out) (tour_report t x1 x2 y) r p.answered z;
      marks = p.marks ∙ ap (λ (n : ℕ). map_left n (blocks_read (tour_report t x1 x2 y)) map) z ∙ ap (λ (w : Walk). read_map (blocks_read w)) (report-whole t x1 x2 y fine);
    }
  where
    a : Answered (tour_number (length t) (length map)) (tour_report t x1 x2 y)
    a = answered (tour_number (length t) (length map)) (length out) (tour_report t x1 x2 y) r p.answered z

    go : (b : Bool) → tour_fine t (query x1 x2 y) ≡ b → tour_fine t (query x1 x2 y) ≡ true
    go true e = e
    go false e = absurd (true≢false (sym (ap is_broken (report-broken t x1 x2 y e)) ∙ a.whole))

    fine : tour_fine t (query x1 x2 y) ≡ true
    fine = go (tour_fine t (query x1 x2 y)) refl
