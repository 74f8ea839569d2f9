-- `tour::gather` meets its contract: block after block, what is read so far is marked, in order, and its spots stand at the front of the buffer.
use mathlib.Core.Path.{◌≡◌, sym, ap, subst, ◌∙◌}
use mathlib.Core.Bool.{true}
use mathlib.Core.List.{List}
use Prim.Native.Nat.{ℕ, ◌*◌, ◌+◌, ◌<◌, ◌≤◌}
use native.Mathlib.Omega.{arith}
use lib.ListN.{length, length-replicate}
use Rattle.octets.proofs.Bits.{set_bit-length}
use Rattle.block.specs.Table.{blocks_of, block}
use Rattle.block.proofs.Frames.{block-length, part-is}
use Rattle.catalogue.specs.Catalogue.{tile_entry, tile_fine, asks}
use Rattle.catalogue.proofs.Lengths.{Lengths, sized-lengths}
use Rattle.catalogue.specs.Reading.{LimitedEntry}
use Rattle.catalogue.proofs.Facts.{entry_of}
use Rattle.tour.specs.Gathering.{Gatherable}
use Rattle.tour.proofs.Steps.{read-start, read_as, seen-length, read-skip, read-stop, read-gatherable, read_next, read-end}
use Rattle.tour.proofs.gather.Goals as goal
use Rattle.tour.proofs.gather.Goals.{then-asks+else-not-tile_ok, else-asks, In-loop-b, At-loop-b, After-asks, After-tile_ok}

pub loop-b-init : goal.loop-b-init
loop-b-init c = read-start c.args.tour.now c.args.q c.requires

-- what is known in a turn
module _ (c : In-loop-b) where
  abbrev tour : List ℕ
  tour = c.args.tour.now

  abbrev b : ℕ
  b = c.loop-b.b

  lengths : Lengths (length tour)
  lengths = sized-lengths (length tour) c.requires.sized

  more : b < blocks_of (length tour)
  more = omega arith

  inside : b * 2048 + 2048 ≤ length tour
  inside = omega (arith, more, lengths.whole)

  low : b ≤ 15
  low = omega (arith, more, lengths.few)

-- and of the block that is asked for
module _ (c : After-asks) where
  entry : c.read_entry-e.result ≡ tile_entry c.args.tour.now c.loop-b.b
  entry = c.read_entry-e.ensures.0 ∙ sym (entry_of c.args.tour.now c.loop-b.b)

  facts : LimitedEntry c.read_entry-e.result
  facts = c.read_entry-e.ensures.1

pub slice_bounds-read_entry-end : goal.slice_bounds-read_entry-end
slice_bounds-read_entry-end c = omega (arith, inside (goal.at.slice_bounds-read_entry-end c).In-loop-b)

pub read_entry-e-requires : goal.read_entry-e-requires
read_entry-e-requires c =
    record {
      long = block-length (tour (goal.at.read_entry-e-requires c).In-loop-b) 0 (omega (arith, inside (goal.at.read_entry-e-requires c).In-loop-b));
      bytes = length (tour (goal.at.read_entry-e-requires c).In-loop-b);
      sized = c.requires.sized;
      fine = c.requires.catalogue;
      some = c.loop-b.invariant.some;
      below = more (goal.at.read_entry-e-requires c).In-loop-b;
    }

pub slice_bounds-tile-end : goal.slice_bounds-tile-end
slice_bounds-tile-end c = omega (arith, inside (goal.at.slice_bounds-tile-end c).In-loop-b)

pub tile_ok-requires : goal.tile_ok-requires
tile_ok-requires c =
    ((facts (goal.at.tile_ok-requires c).After-asks).some, (facts (goal.at.tile_ok-requires c).After-asks).few, ap length (part-is (tour (goal.at.tile_ok-requires c).In-loop-b) (b (goal.at.tile_ok-requires c).In-loop-b)) ∙ block-length (tour (goal.at.tile_ok-requires c).In-loop-b) (b (goal.at.tile_ok-requires c).In-loop-b) (inside (goal.at.tile_ok-requires c).In-loop-b))

-- the lengths of the map and of the buffer
module _ (c : At-loop-b) where
  map-long : length c.loop-b.seen ≡ length c.args.seen.now
  map-long = seen-length c.args.tour.now c.args.q c.loop-b.invariant ∙ sym (ap length c.requires.blank ∙ length-replicate {A = ℕ} 512 0)

  buffer-long : length c.loop-b.found ≡ length c.args.found.now
  buffer-long = c.loop-b.invariant.buffer ∙ sym c.requires.buffer

pub shape_of-seen-then-not-tile_ok : goal.shape_of-seen-then-not-tile_ok
shape_of-seen-then-not-tile_ok c = map-long (goal.at.shape_of-seen-then-not-tile_ok c).At-loop-b

pub shape_of-found-then-not-tile_ok : goal.shape_of-found-then-not-tile_ok
shape_of-found-then-not-tile_ok c = buffer-long (goal.at.shape_of-found-then-not-tile_ok c).At-loop-b

-- a block that is asked for, and whether it is in order
module _ (c : After-tile_ok) where
  fine-is : c.tile_ok.result ≡ tile_fine (blocks_of (length c.args.tour.now)) c.loop-b.b c.read_entry-e.result (block c.args.tour.now c.loop-b.b)
  fine-is = c.tile_ok.ensures ∙ ap (tile_fine (blocks_of (length c.args.tour.now)) c.loop-b.b c.read_entry-e.result) (part-is c.args.tour.now c.loop-b.b)

pub returns-then-not-tile_ok : goal.returns-then-not-tile_ok
returns-then-not-tile_ok c =
    read-stop (tour (goal.at.returns-then-not-tile_ok c).In-loop-b) c.args.q c.loop-b.invariant (more (goal.at.returns-then-not-tile_ok c).In-loop-b) (entry (goal.at.returns-then-not-tile_ok c).After-asks) (sym c.asks.ensures ∙ c.if-asks.true)
    (sym (fine-is (goal.at.returns-then-not-tile_ok c).After-tile_ok) ∙ c.if-not-tile_ok.true)

pub set_bit-requires : goal.set_bit-requires
set_bit-requires c =
    omega (arith, low (goal.at.set_bit-requires c).In-loop-b, seen-length (tour (goal.at.set_bit-requires c).In-loop-b) c.args.q c.loop-b.invariant)

pub gather_tile-n-requires : goal.gather_tile-n-requires
gather_tile-n-requires c =
    let e = c.read_entry-e.result in
    subst (λ (s : List ℕ). Gatherable s e c.loop-b.found c.loop-b.n) (sym (part-is (tour (goal.at.gather_tile-n-requires c).In-loop-b) (b (goal.at.gather_tile-n-requires c).In-loop-b)))
    (read-gatherable (tour (goal.at.gather_tile-n-requires c).In-loop-b) c.args.q c.loop-b.invariant (more (goal.at.gather_tile-n-requires c).In-loop-b) (entry (goal.at.gather_tile-n-requires c).After-asks) (sym c.asks.ensures ∙ c.if-asks.true)
    (sym (fine-is (goal.at.gather_tile-n-requires c).After-tile_ok) ∙ c.if-not-tile_ok.false) c.requires.sized (facts (goal.at.gather_tile-n-requires c).After-asks))

pub loop-b-preserved : goal.loop-b-preserved
loop-b-preserved c =
    let at-loop = (goal.at.loop-b-preserved c).In-loop-b in
    let at-asks = (goal.at.loop-b-preserved c).After-asks in
    let l = c.loop-b in
    let t = c.args.tour.now in
    let q = c.args.q in
    elim c.if-asks.branch [
      | then-asks+else-not-tile_ok w ↦
          let yes : asks q (blocks_of (length t)) l.b c.read_entry-e.result ≡ true = sym c.asks.ensures ∙ w.if-asks.true in
          let good : tile_fine (blocks_of (length t)) l.b c.read_entry-e.result (block t l.b) ≡ true =
          sym (w.tile_ok.ensures ∙ ap (tile_fine (blocks_of (length t)) l.b c.read_entry-e.result) (part-is t l.b)) ∙ w.if-not-tile_ok.false
          in
          read_as t q w.seen-is w.found-is w.n-is
          (read_next t q l.invariant (more at-loop) (entry at-asks) yes good w.set_bit.ensures (rw (part-is t l.b) at w.gather_tile-n.ensures))
      | else-asks w ↦ read_as t q w.seen-is w.found-is w.n-is (read-skip t q l.invariant (more at-loop) (entry at-asks) (sym c.asks.ensures ∙ w.if-asks.false))
    ]

pub set_bit-requires-2 : goal.set_bit-requires-2
set_bit-requires-2 c =
    omega (arith, seen-length c.args.tour.now c.args.q c.loop-b.invariant)

pub shape_of-seen : goal.shape_of-seen
shape_of-seen c =
    ap length c.set_bit-2.ensures ∙ set_bit-length c.loop-b.seen 0 ∙ map-long (goal.at.shape_of-seen c).At-loop-b

pub shape_of-found : goal.shape_of-found
shape_of-found c = buffer-long (goal.at.shape_of-found c).At-loop-b

pub returns : goal.returns
returns c =
    let ended : blocks_of (length c.args.tour.now) ≤ c.loop-b.b = omega arith in
    read-end c.args.tour.now c.args.q c.loop-b.invariant c.requires.sized ended c.set_bit-2.ensures
