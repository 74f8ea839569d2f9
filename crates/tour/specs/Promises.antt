-- What holds of a Report of a tour, and more of one that pressing made.
-- Assumes nothing.
use Rattle.std.specs.Prelude.{◌≡◌, ℕ, ◌≤◌, ◌<◌, true, cond, ◌||◌, length, take, get_or, eqb, ℤ}
use mathlib.Core.List.{List, Memᴰ}
use Rattle.octets.specs.Lists.{keep, every, has, distinct}
use Rattle.octets.specs.Bitmap.{bit}
use Rattle.octets.specs.Bytes.{be}
use Rattle.spot.specs.Keys.{limited}
use Rattle.spot.specs.Spots.{keys, from_on}
use Rattle.spot.specs.Query.{query, from_of, wants}
use Rattle.spot.specs.declared.Spot.{Spot}
use Rattle.block.specs.Table.{block}
use Rattle.block.specs.declared.Answer.{Answer}
use Rattle.tree.specs.Walk.{spots, live_spots}
use Rattle.tree.specs.Sound.{sound}
use Rattle.tree.specs.Report.{report_table}
use Rattle.tree.specs.ReadMap.{ones}
use Rattle.table.specs.Answers.{unless_refused, spots_answer, output_left}
use Rattle.sweep.specs.Report.{blocks_met, numbers, most_read}
use Rattle.press.specs.Press.{spots_given, PressPost}
use Rattle.catalogue.specs.Catalogue.{tile_spots}
use Rattle.tour.specs.Tour.{TourPost}

-- all spots of a list with a place of the range and a rank of at least y, from x1 onward
abbrev pub list_report : ℤ → ℤ → ℤ → List Spot → List Spot
list_report x1 x2 y ss = from_on (from_of (query x1 x2 y)) (keep (wants (query x1 x2 y)) ss)

-- a Report of a pressed tour, with any arguments, output and map
pub record OnPressed (ss : List Spot) (x1 x2 y : ℤ) (out map : List ℕ) (r : Answer) (out'' map' : List ℕ) : Type 0 where
  -- "1 if its length isn't 1 to 16 whole blocks", "3 if a block read breaks its layout, never on a pressed one", whose length is right
  pub answered : r ≡ unless_refused (cond (eqb (length map) 512) 0 2) (spots_answer (length out) (length (list_report x1 x2 y ss)))
  pub output : out'' ≡ output_left r.number (list_report x1 x2 y ss) out
  -- "reads just the catalogue and each block standing once all ranks under y are passed whose span of places meets the range"
  pub marks : r.number ≡ 0 → (b : ℕ) → b < 4096 → bit map' b ≡ eqb b 0 || has b (numbers (blocks_met (query x1 x2 y) ss))
  -- "at most 4 + 2 · (spots reported div 64) blocks"
  pub few : r.number ≡ 0 → ones map' ≤ most_read (query x1 x2 y) r.detail

-- "any other counts as an unsound table": "a call that isn't refused still hands out only spots of its range from blocks marked read"
pub record TourHandsOut (x1 x2 y : ℤ) (t out : List ℕ) (r : Answer) (out'' map' : List ℕ) : Type 0 where
  pub given : List Spot
  pub output : out'' ≡ output_left 0 given out
  pub detail : r.detail ≡ length given
  pub wanted : every (wants (query x1 x2 y)) given ≡ true
  pub marked : (s : Spot) → Memᴰ s given → (b : ℕ) × (bit map' b ≡ true) × Memᴰ s (tile_spots t b) × (b ≡ 0 → ⊥)
  pub header : bit map' 0 ≡ true
  pub limits : every limited (keys given) ≡ true
  -- blocks that stand at one time have no identity in common, as the catalogue shows
  pub once : distinct (keys given) ≡ true

-- "The marks follow the second-table rule": on a second tour of that length, equal in the marked blocks, an accepted call gives the same report and marks
pub record SameTour (r r₂ : Answer) (out'' out₂' map' map₂' : List ℕ) : Type 0 where
  pub answered : r₂ ≡ r
  pub output : out₂' ≡ out''
  pub marks : map₂' ≡ map'

-- each is a byte, as in every lent slice
abbrev pub AreBytes : List ℕ → Type 0
AreBytes s = (i : ℕ) → get_or s i 0 < 256

-- request 2026-03, of the Report of a tour
pub record TourReports : Type 0 where
  -- on every tour that pressing made, for all arguments: it is as many bytes as its first four say
  pub pressing : (s lent : List ℕ) (a : Answer) (lent' : List ℕ) → AreBytes s → PressPost s lent a lent' → a.number ≡ 0
      → (x1 x2 y : ℤ) (out map : List ℕ) (r : Answer) (out'' map' : List ℕ)
      → TourPost x1 x2 y (take (be 4 lent' 0) lent') out map r out'' map'
      → OnPressed (spots_given s) x1 x2 y out map r out'' map'
  -- "Report on it agrees with Report on the same set": that of every sound table with these live spots
  pub agrees : (t : List ℕ) → sound t ≡ true → (x1 x2 y : ℤ) → spots (report_table t x1 x2 y) ≡ list_report x1 x2 y (live_spots t)
  -- on every tour, whatever its bytes are
  pub hands_out : (x1 x2 y : ℤ) (t out map : List ℕ) (r : Answer) (out'' map' : List ℕ) → TourPost x1 x2 y t out map r out'' map' → r.number ≡ 0
      → TourHandsOut x1 x2 y t out r out'' map'
  pub second : (x1 x2 y : ℤ) (t u out map : List ℕ) (r r₂ : Answer) (out'' map' out₂' map₂' : List ℕ) → TourPost x1 x2 y t out map r out'' map' → r.number ≡ 0
      → length u ≡ length t
      → ((b : ℕ) → bit map' b ≡ true → block u b ≡ block t b)
      → TourPost x1 x2 y u out map r₂ out₂' map₂'
      → SameTour r r₂ out'' out₂' map' map₂'
