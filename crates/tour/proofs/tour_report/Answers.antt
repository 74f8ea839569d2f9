-- `tour::tour_report` meets its contract: the blocks are read, then the spots and the map are handed out.
use mathlib.Core.Path.{◌≡◌, refl, sym, ◌∙◌}
use mathlib.Core.Bool.{true}
use mathlib.Core.List.{List}
use Prim.Native.Nat.{ℕ}
use lib.ListN.{length}
use mir.Syntax.{w32}
use mir.ValLaws.{to_z-of_z}
use borrow.Author.Rules.{rules}
use native.Mathlib.Omega.{arith}
use Rattle.spot.specs.Query.{query}
use Rattle.block.specs.Table.{block}
use Rattle.block.proofs.Frames.{block-length}
use Rattle.report.specs.Reports.{Turnable}
use Rattle.report.proofs.Reporting.{query-same, turn-asks, held-order, held-turned}
use Rattle.table.proofs.Answering.{map_is}
use Rattle.catalogue.specs.Catalogue.{tour_sized, catalogue_fine}
use Rattle.catalogue.proofs.Lengths.{sized-lengths}
use Rattle.tour.proofs.Answering.{read-for, tour-short, tour-lent, tour-uncatalogued, tour-broken, tour-many, tour-given}
use Rattle.tour.proofs.tour_report.Goals as goal
use Rattle.tour.proofs.tour_report.Goals.{Else-not-sized, Else-read_map-ne512, Else-not-catalogue_ok, After-gather, Else-output-n}

pub returns-then-not-sized : goal.returns-then-not-sized
returns-then-not-sized c =
    let args = c.args in
    tour-short _ _ _ args.tour.now _ _ _ (sym c.sized.ensures ∙ c.if-not-sized.true) refl

-- the tour has 1 to 16 whole blocks
long : (c : Else-not-sized) → tour_sized (length c.args.tour.now) ≡ true
long c = sym c.sized.ensures ∙ c.if-not-sized.false

pub returns-then-read_map-ne512 : goal.returns-then-read_map-ne512
returns-then-read_map-ne512 c =
    let args = c.args in
    tour-lent _ _ _ args.tour.now _ args.read_map.now _ (long (goal.at.returns-then-read_map-ne512 c).Else-not-sized) (λ h. omega (arith, h, c.if-read_map-ne512.true)) refl

-- and the map its bytes
module _ (c : Else-read_map-ne512) where
  abbrev tour : List ℕ
  tour = c.args.tour.now

  mapped : length c.args.read_map.now ≡ 512
  mapped = omega (arith, c.if-read_map-ne512.false)

pub slice_bounds-catalogue_ok-end : goal.slice_bounds-catalogue_ok-end
slice_bounds-catalogue_ok-end c = let l = sized-lengths (length (tour (goal.at.slice_bounds-catalogue_ok-end c).Else-read_map-ne512)) (long (goal.at.slice_bounds-catalogue_ok-end c).Else-not-sized) in omega (arith, l.whole, l.some)

pub catalogue_ok-requires : goal.catalogue_ok-requires
catalogue_ok-requires c =
    let l = sized-lengths (length (tour (goal.at.catalogue_ok-requires c).Else-read_map-ne512)) (long (goal.at.catalogue_ok-requires c).Else-not-sized) in
    (long (goal.at.catalogue_ok-requires c).Else-not-sized, block-length (tour (goal.at.catalogue_ok-requires c).Else-read_map-ne512) 0 (omega (arith, l.whole, l.some)))

pub returns-then-not-catalogue_ok : goal.returns-then-not-catalogue_ok
returns-then-not-catalogue_ok c =
    tour-uncatalogued _ _ _ (tour (goal.at.returns-then-not-catalogue_ok c).Else-read_map-ne512) _ _ _ (long (goal.at.returns-then-not-catalogue_ok c).Else-not-sized) (mapped (goal.at.returns-then-not-catalogue_ok c).Else-read_map-ne512) (sym c.catalogue_ok.ensures ∙ c.if-not-catalogue_ok.true) refl

-- the catalogue is in order
module _ (c : Else-not-catalogue_ok) where
  listed : catalogue_fine (length c.args.tour.now) (block c.args.tour.now 0) ≡ true
  listed = sym c.catalogue_ok.ensures ∙ c.if-not-catalogue_ok.false

pub gather-requires : goal.gather-requires
gather-requires c = record { sized = long (goal.at.gather-requires c).Else-not-sized; catalogue = listed (goal.at.gather-requires c).Else-not-catalogue_ok; blank = refl; buffer = refl }

-- the blocks are read
module _ (c : After-gather) where
  same : c.make_query-q.result ≡ query c.args.x1 c.args.x2 c.args.y
  same =
      let fits = c.ranges in
      query-same _ _ _ _ _ _ _ (to_z-of_z w32 _ fits.x1) (to_z-of_z w32 _ fits.x2) (to_z-of_z w32 _ fits.y) c.make_query-q.ensures

pub returns-in_default : goal.returns-in_default
returns-in_default c =
    tour-broken _ _ _ (tour (goal.at.returns-in_default c).Else-read_map-ne512) _ _ _ (long (goal.at.returns-in_default c).Else-not-sized) (mapped (goal.at.returns-in_default c).Else-read_map-ne512) (listed (goal.at.returns-in_default c).Else-not-catalogue_ok) (same (goal.at.returns-in_default c).After-gather) c.in_default.ensures refl

pub returns-then-output-n : goal.returns-then-output-n
returns-then-output-n c =
    tour-many _ _ _ (tour (goal.at.returns-then-output-n c).Else-read_map-ne512) _ _ _ (long (goal.at.returns-then-output-n c).Else-not-sized) (mapped (goal.at.returns-then-output-n c).Else-read_map-ne512) (listed (goal.at.returns-then-output-n c).Else-not-catalogue_ok) (read-for (same (goal.at.returns-then-output-n c).After-gather) c.in-Some.ensures) (omega (arith, c.if-output-n.true)) refl

-- all is in order, and the output has room for the spots
module _ (c : Else-output-n) where
  turnable : Turnable c.gather.new.found c.args.output.now c.in-Some.n
  turnable =
      let few = c.in-Some.ensures.few in
      record { held = omega (arith, few, c.gather.auto.found); room = omega (arith, c.if-output-n.false); order = c.in-Some.ensures.order }

pub from_on-requires : goal.from_on-requires
from_on-requires c =
    turn-asks _ _ (omega (arith, (turnable (goal.at.from_on-requires c).Else-output-n).room, c.copy.auto.to)) (held-order (turnable (goal.at.from_on-requires c).Else-output-n) c.copy.ensures)

pub returns : goal.returns
returns c =
    tour-given _ _ _ (tour (goal.at.returns c).Else-read_map-ne512) _ _ _ (long (goal.at.returns c).Else-not-sized) (mapped (goal.at.returns c).Else-read_map-ne512) (listed (goal.at.returns c).Else-not-catalogue_ok) (read-for (same (goal.at.returns c).After-gather) c.in-Some.ensures) _ _ (omega (arith, c.if-output-n.false)) refl
    (held-turned (turnable (goal.at.returns c).Else-output-n) (same (goal.at.returns c).After-gather) c.from_key.ensures c.copy.ensures c.from_on.ensures c.copy.auto.to (λ i. search rules))
    (map_is _ c.args.read_map.now _ c.gather.auto.seen (mapped (goal.at.returns c).Else-read_map-ne512) c.copy-2.ensures)
