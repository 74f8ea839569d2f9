-- Request 2026-03: a Report of a pressed tour is the Report of the list that was pressed, and agrees with that of every sound table with the same spots. Places and
-- ranks are whole numbers here, and one definition of a Report serves both.
-- Assumes nothing.
use Rattle.std.specs.Prelude.{◌≡◌, ◌↔◌, ℕ, true, length, take, ℤ}
use mathlib.Core.List.{List, Memᴰ}
use Rattle.octets.specs.Bytes.{be}
use Rattle.spot.specs.Keys.{key, signed32}
use Rattle.spot.specs.declared.Spot.{Spot}
use Rattle.block.specs.declared.Answer.{Answer}
use Rattle.tree.specs.Sound.{sound}
use Rattle.table.specs.Calls.{report, arguments_fit}
use Rattle.table.specs.Queries.{ReportPost}
use Rattle.press.specs.Press.{spots_given, PressPost}
use Rattle.tour.specs.Tour.{TourPost}
use Rattle.tour.specs.Promises.{AreBytes}
use Rattle.demands.specs.Model.{PlainSpot}
use Rattle.demands.specs.Demands.{LiveSpot, ReportOf, HandedOut}

-- a spot of a list, "a place and a rank, both signed 32-bit, and a track number"
pub record ListedSpot (ss : List Spot) (s : PlainSpot) : Type 0 where
  pub place_fits : signed32 s.place ≡ true
  pub rank_fits : signed32 s.rank ≡ true
  pub there : Memᴰ (record { key = key s.place s.rank; track = s.track }) ss

-- "From up to 512 spots in place order a read-only table is made": pressing accepted the bytes s, and this is the tour, as many of the lent bytes as its first four say
pub record PressedFrom (s tour : List ℕ) : Type 0 where
  pub bytes : AreBytes s
  pub lent : List ℕ
  pub answer : Answer
  pub lent' : List ℕ
  pub promised : PressPost s lent answer lent'
  pub accepted : answer.number ≡ 0
  pub is : tour ≡ take (be 4 lent' 0) lent'

pub record ToursAgree : Type 0 where
  -- the Report of the spots pressed: from x1 onward, each of its range once, and nothing else
  pub reports : (s tour : List ℕ) → PressedFrom s tour
      → (x1 x2 y : ℤ) (out map : List ℕ) (r : Answer) (out'' map' : List ℕ) → arguments_fit (report x1 x2 y) ≡ true → length map ≡ 512
      → TourPost x1 x2 y tour out map r out'' map'
      → (given : List PlainSpot) × ReportOf x1 x2 y (ListedSpot (spots_given s)) given × HandedOut given out r out''
  -- "Report on it agrees with Report on the same set": with every sound table whose live spots are those pressed, for all arguments and everything lent
  pub agrees : (s tour t : List ℕ) → PressedFrom s tour → sound t ≡ true → ((p : PlainSpot) → LiveSpot t p ↔ ListedSpot (spots_given s) p)
      → (x1 x2 y : ℤ) (out : List ℕ)
      → (map : List ℕ) (r : Answer) (out'' map' : List ℕ) → ReportPost x1 x2 y t out map r out'' map'
      → (map₂ : List ℕ) (r₂ : Answer) (out₂' map₂' : List ℕ) → TourPost x1 x2 y tour out map₂ r₂ out₂' map₂'
      → length map₂ ≡ length map
      → (r₂ ≡ r) × (out₂' ≡ out'')
