-- What the parts of pressing need and leave.
-- Assumes nothing.
use Rattle.std.specs.Prelude.{◌≡◌, ℕ, suc, ◌*◌, ◌≤◌, cond, List, ◌++◌, length, drop, eqb}
use Rattle.octets.specs.Bytes.{bytes_of}
use Rattle.spot.specs.Spots.{key_bytes}
use Rattle.spot.specs.declared.Spot.{Spot}
use Rattle.sweep.specs.Pressed.{first_key_of, last_key_of, pressed}
use Rattle.plan.specs.declared.Piece.{Piece}
use Rattle.plan.specs.declared.Plan.{Plan}
use Rattle.plan.specs.Plans.{Spots, PieceFits, SweepPlanned}
use Rattle.press.specs.declared.Extent.{Extent}
use Rattle.press.specs.Press.{count_given, spots_given}

-- all the bytes are spots that may be pressed
abbrev pub PressReady : List ℕ → Type 0
PressReady s = Spots s (count_given s)

-- so are they, and a piece of them or a plan can be written
pub record PieceReady (s : List ℕ) (p : Piece) : Type 0 where
  pub ready : PressReady s
  pub fits : PieceFits (spots_given s) p

pub record PlanReady (s : List ℕ) (p : Plan) : Type 0 where
  pub ready : PressReady s
  pub planned : SweepPlanned (spots_given s) p

-- what the catalogue says of spots
abbrev pub extent_of : List Spot → Extent
extent_of ss = record { n = length ss; low = first_key_of ss; high = last_key_of ss }

-- the same with one key more, above the others
unfoldable pub with_higher : Extent → ℕ → Extent
with_higher e k = record { n = suc e.n; low = cond (eqb e.n 0) k e.low; high = k }

-- the bytes of an entry, field by field
unfoldable pub fields_bytes : Extent → ℕ → ℕ → List ℕ
fields_bytes e made ended = bytes_of 4 e.n ++ key_bytes e.low ++ key_bytes e.high ++ key_bytes made ++ key_bytes ended

-- the first eight bytes of a catalogue of n blocks; the last four are the version and three zeros
unfoldable pub head_bytes : ℕ → List ℕ
head_bytes n = bytes_of 4 (2048 * suc n) ++ bytes_of 4 16777216

-- the tour of these spots at the front of what was lent, the bytes behind it as they were
pub record TourWritten (ss : List Spot) (tour tour' : List ℕ) : Type 0 where
  pub bytes : tour' ≡ pressed ss ++ drop (length (pressed ss)) tour
  pub short : length (pressed ss) ≤ 16 * 2048
