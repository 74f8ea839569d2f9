-- A Report is the walk over its places with the spots turned to begin at x1: what it reads and how much it finds is the walk's.
-- Assumes nothing.
use mathlib.Core.Path.{◌≡◌, refl, ap, sym, ◌∙◌}
use mathlib.Core.Bool.{true, false}
use mathlib.Core.List.{List, [], Memᴰ}
use Prim.Native.Nat.{ℕ}
use lib.IntN.{ℤ}
use lib.ListN.{length}
use borrow.Author.Tests.{le-leb}
use Rattle.octets.proofs.Tests.{every-make}
use Rattle.spot.specs.declared.Spot.{Spot}
use Rattle.spot.specs.Spots.{from_on}
use Rattle.spot.specs.Query.{query, from_of, is_ring, wants}
use Rattle.spot.proofs.Places.{placed-from, wants-placed}
use Rattle.tree.specs.Walk.{Walk, broken, walked, map_spots, is_broken, spots, blocks_read, Finds, walk_table}
use Rattle.tree.specs.Report.{report_table}
use Rattle.tree.proofs.Sources.{walk-sources}
use Rattle.sort.proofs.Turning.{from-on-length, from-on-all}

module _ (f : List Spot → List Spot) where
  mapped-blocks : (w : Walk) → blocks_read (map_spots f w) ≡ blocks_read w
  mapped-blocks broken = refl
  mapped-blocks (walked found blocks) = refl

  mapped-broken : (w : Walk) → is_broken (map_spots f w) ≡ is_broken w
  mapped-broken broken = refl
  mapped-broken (walked found blocks) = refl

  mapped-spots : f [] ≡ [] → (w : Walk) → spots (map_spots f w) ≡ f (spots w)
  mapped-spots e broken = sym e
  mapped-spots e (walked found blocks) = refl

  mapped-finds : (w : Walk) (ss : List Spot) → Finds w ss → Finds (map_spots f w) (f ss)
  mapped-finds w ss h = (h.0, ap (map_spots f) h.1)

module _ (t : List ℕ) (x1 x2 y : ℤ) where
  pub report-blocks : blocks_read (report_table t x1 x2 y) ≡ blocks_read (walk_table t (query x1 x2 y))
  unfolding report_table
  report-blocks = mapped-blocks _ (walk_table t (query x1 x2 y))

  pub report-whole : is_broken (report_table t x1 x2 y) ≡ is_broken (walk_table t (query x1 x2 y))
  unfolding report_table
  report-whole = mapped-broken _ (walk_table t (query x1 x2 y))

  pub report-spots : spots (report_table t x1 x2 y) ≡ from_on (from_of (query x1 x2 y)) (spots (walk_table t (query x1 x2 y)))
  unfolding report_table from_on
  report-spots = mapped-spots (from_on (from_of (query x1 x2 y))) refl (walk_table t (query x1 x2 y))

  pub report-length : length (spots (report_table t x1 x2 y)) ≡ length (spots (walk_table t (query x1 x2 y)))
  report-length = ap length report-spots ∙ from-on-length _ (spots (walk_table t (query x1 x2 y)))

  pub report-turned : (ss : List Spot) → Finds (walk_table t (query x1 x2 y)) ss → Finds (report_table t x1 x2 y) (from_on (from_of (query x1 x2 y)) ss)
  unfolding report_table
  report-turned ss h = mapped-finds _ (walk_table t (query x1 x2 y)) ss h

  pub report-same : (u : List ℕ) → walk_table u (query x1 x2 y) ≡ walk_table t (query x1 x2 y) → report_table u x1 x2 y ≡ report_table t x1 x2 y
  unfolding report_table
  report-same u e = ap (map_spots (from_on (from_of (query x1 x2 y)))) e

-- of a plain range no spot lies below x1: the report is the walk as it is
pub report-plain : (t : List ℕ) (x1 x2 y : ℤ) → is_ring (query x1 x2 y) ≡ false → report_table t x1 x2 y ≡ walk_table t (query x1 x2 y)
unfolding report_table
report-plain t x1 x2 y r = go (walk_table t (query x1 x2 y)) (λ s i. (walk-sources t (query x1 x2 y) s i).0)
  where
    go : (w : Walk) → ((s : Spot) → Memᴰ s (spots w) → wants (query x1 x2 y) s ≡ true) → map_spots (from_on (from_of (query x1 x2 y))) w ≡ w
    go broken h = refl
    go (walked found blocks) h =
        let q = query x1 x2 y in
        ap (λ (ss : List Spot). walked ss blocks)
        (from-on-all (from_of q) found (every-make _ found (λ s i. le-leb (from_of q) s.key (placed-from q s.key r (wants-placed q s.key (h s i))))))
