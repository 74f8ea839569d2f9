-- The post of a Report of a tour, one law for each way that it ends.
-- Assumes nothing.
use mathlib.Core.Path.{◌≡◌, refl, sym, ap, subst, ◌∙◌}
use mathlib.Core.Bool.{Bool, true, false, ◌&&◌}
use mathlib.Core.List.{List, []}
use Prim.Native.Nat.{ℕ, ◌/◌, ◌≤◌, ◌<◌}
use lib.ListN.{length}
use lib.IntN.{ℤ}
use borrow.Author.Tests.{eq-eqb, ne_eqb}
use Rattle.octets.proofs.Records.{length-records}
use Rattle.spot.specs.Query.{query, from_of}
use Rattle.spot.specs.Spots.{spot_at, spots_in, from_on}
use Rattle.spot.specs.declared.Spot.{Spot}
use Rattle.spot.specs.declared.Query.{Query}
use Rattle.block.specs.Answers.{answer}
use Rattle.block.specs.Table.{block}
use Rattle.block.specs.declared.Answer.{Answer}
use Rattle.tree.specs.Walk.{Walk, broken, walked, is_broken, spots, blocks_read}
use Rattle.tree.specs.ReadMap.{read_map}
use Rattle.sort.proofs.Turning.{from-on-length}
use Rattle.report.specs.Reports.{written}
use Rattle.table.proofs.Answering.{walk-early, walk-broken, walk-many, walk-given}
use Rattle.catalogue.specs.Catalogue.{tour_sized, catalogue_fine, tiles_read, tour_fine}
use Rattle.tour.specs.Tour.{gathered, tour_walk, tour_report, tour_number, TourPost}
use Rattle.tour.specs.Gathering.{blocks_fine, TourRead}

-- ---- by lengths

module _ (bytes map : ℕ) where
  number_short : tour_sized bytes ≡ false → tour_number bytes map ≡ 1
  unfolding tour_number
  number_short e = rw e

  number-lent : tour_sized bytes ≡ true → (map ≡ 512 → ⊥) → tour_number bytes map ≡ 2
  unfolding tour_number
  number-lent e f = rw (e, ne_eqb map 512 f)

  number-fine : tour_sized bytes ≡ true → map ≡ 512 → tour_number bytes map ≡ 0
  unfolding tour_number
  number-fine e f = rw (e, eq-eqb map 512 f)

-- ---- by what is read

fine-is : (t : List ℕ) (q : Query) → tour_fine t q ≡ catalogue_fine (length t) (block t 0) && blocks_fine t q
unfolding tour_fine
fine-is t q = refl

module _ (t : List ℕ) (x1 x2 y : ℤ) where
  -- the spots of a tour that keeps its layout, from x1 onward
  pub report-whole : tour_fine t (query x1 x2 y) ≡ true
      → tour_report t x1 x2 y ≡ walked (from_on (from_of (query x1 x2 y)) (gathered t (query x1 x2 y) (tiles_read t (query x1 x2 y)) [])) (tiles_read t (query x1 x2 y))
  unfolding tour_report tour_walk
  report-whole h = rw h

  pub report-broken : tour_fine t (query x1 x2 y) ≡ false → tour_report t x1 x2 y ≡ broken
  unfolding tour_report tour_walk
  report-broken h = rw h

-- by the name that the promise has for the query
pub read-for : {t seen found : List ℕ} {p q : Query} {n : ℕ} → q ≡ p → TourRead t q seen found n → TourRead t p seen found n
read-for {t} {seen} {found} {p} {q} {n} e = subst (λ (x : Query). TourRead t x seen found n) e

module _ (x1 x2 y : ℤ) (t out map : List ℕ) (r : Answer) where
  abbrev q : Query
  q = query x1 x2 y

  pub tour-short : tour_sized (length t) ≡ false → r ≡ answer 1 0 → TourPost x1 x2 y t out map r out map
  tour-short e a = walk-early (tour_report t x1 x2 y) out map 0 r (number_short (length t) (length map) e) a

  pub tour-lent : tour_sized (length t) ≡ true → (length map ≡ 512 → ⊥) → r ≡ answer 2 0 → TourPost x1 x2 y t out map r out map
  tour-lent e f a = walk-early (tour_report t x1 x2 y) out map 1 r (number-lent (length t) (length map) e f) a

  module _ (z : tour_sized (length t) ≡ true) (f : length map ≡ 512) where
    early : tour_number (length t) (length map) ≡ 0
    early = number-fine (length t) (length map) z f

    breaks : tour_fine t q ≡ false → r ≡ answer 3 0 → TourPost x1 x2 y t out map r out map
    breaks h a = walk-broken (tour_report t x1 x2 y) out map early r (ap is_broken (report-broken t x1 x2 y h)) a

    pub tour-uncatalogued : catalogue_fine (length t) (block t 0) ≡ false → r ≡ answer 3 0 → TourPost x1 x2 y t out map r out map
    tour-uncatalogued h = breaks (fine-is t q ∙ ap (λ (b : Bool). b && blocks_fine t q) h)

    module _ (k : catalogue_fine (length t) (block t 0) ≡ true) where
      told : tour_fine t q ≡ blocks_fine t q
      told = fine-is t q ∙ ap (λ (b : Bool). b && blocks_fine t q) k

      pub tour-broken : {p : Query} → p ≡ q → blocks_fine t p ≡ false → r ≡ answer 3 0 → TourPost x1 x2 y t out map r out map
      tour-broken e h = breaks (told ∙ ap (blocks_fine t) (sym e) ∙ h)

      module _ {seen found : List ℕ} {n : ℕ} (g : TourRead t q seen found n) where
        w : tour_report t x1 x2 y ≡ walked (from_on (from_of q) (spots_in found n)) (tiles_read t q)
        w = report-whole t x1 x2 y (told ∙ g.fine) ∙ ap (λ (ss : List Spot). walked (from_on (from_of q) ss) (tiles_read t q)) (sym g.spots)

        count : length (spots (tour_report t x1 x2 y)) ≡ n
        count = ap (λ (x : Walk). length (spots x)) w ∙ from-on-length (from_of q) (spots_in found n) ∙ length-records (spot_at found) 12 n 0

        pub tour-many : length out / 12 < n → r ≡ answer 5 n → TourPost x1 x2 y t out map r out map
        tour-many l a =
            walk-many (tour_report t x1 x2 y) out map early r (ap is_broken w) (subst (λ (i : ℕ). length out / 12 < i) (sym count) l) (a ∙ ap (answer 5) (sym count))

        pub tour-given : (out'' map' : List ℕ) → n ≤ length out / 12 → r ≡ answer 0 n → out'' ≡ written (from_on (from_of q) (spots_in found n)) out → map' ≡ seen
            → TourPost x1 x2 y t out map r out'' map'
        tour-given out'' map' l a o m =
            walk-given (tour_report t x1 x2 y) out map early r out'' map' (ap is_broken w) (subst (λ (i : ℕ). i ≤ length out / 12) (sym count) l) (a ∙ ap (answer 0) (sym count))
            (o ∙ ap (λ (x : Walk). written (spots x) out) (sym w))
            (m ∙ g.marks ∙ ap (λ (x : Walk). read_map (blocks_read x)) (sym w))
