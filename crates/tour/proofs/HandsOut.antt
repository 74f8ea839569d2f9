-- On every tour, whatever its bytes are, an accepted Report hands out only spots of its range, from blocks marked read.
-- Assumes nothing.
use mathlib.Core.Path.{◌≡◌, refl, sym, ap, subst, ◌∙◌}
use mathlib.Core.Logic.{⊎_elim}
use mathlib.Core.Bool.{Bool, true}
use mathlib.Core.List.Memᴰ
use mathlib.Core.List.{List, [], Memᴰ}
use Prim.Native.Nat.{ℕ, ◌+◌, ◌*◌, ◌≤◌, ◌<◌}
use native.Mathlib.Omega.{arith}
use lib.ListN.{length}
use lib.IntN.{ℤ}
use lib.Dec.{leb, ltb}
use borrow.Author.Tests.{leb-true, ltb-true}
use Rattle.octets.specs.Lists.{every, keep, distinct}
use Rattle.octets.specs.Bitmap.{bit}
use Rattle.octets.proofs.Order.{same_or_not}
use Rattle.octets.proofs.Lists.{mem-same, mem-at}
use Rattle.octets.proofs.Records.{length-records, records-at}
use Rattle.octets.proofs.Sets.{distinct-join}
use Rattle.octets.proofs.Rising.{rising-distinct}
use Rattle.octets.proofs.Tests.{and_left, and_right, every-mem, every-make, keep-mem, keep-in}
use Rattle.spot.specs.Keys.{limited}
use Rattle.spot.specs.Query.{query, from_of, wants, wants_key}
use Rattle.spot.specs.Spots.{keys, key_at, keys_from, spots_in, from_on}
use Rattle.spot.specs.declared.Spot.{Spot}
use Rattle.spot.specs.declared.Query.{Query}
use Rattle.spot.proofs.Buffers.{keys-append, keys-mem, keys_from_lem, keys-records, only-mem, keep-distinct}
use Rattle.spot.proofs.Limits.{limited-spots}
use Rattle.block.specs.Table.{blocks_of, block}
use Rattle.block.specs.declared.Answer.{Answer}
use Rattle.tree.specs.Walk.{Walk, spots}
use Rattle.tree.proofs.Marks.{map-bit, read_mem, zero-marked}
use Rattle.table.specs.Answers.{output_left}
use Rattle.catalogue.specs.Catalogue.{catalogue_fine, tile_entry, tile_fine, tile_spots, tiles_read, tour_fine}
use Rattle.catalogue.specs.declared.Entry.{Entry}
use Rattle.catalogue.specs.Reading.{LimitedEntry}
use Rattle.catalogue.proofs.Facts.{entry_of, entry-limits, tile-facts}
use Rattle.catalogue.proofs.Disjoint.{stood-beside}
use Rattle.catalogue.proofs.Lengths.{sized-lengths}
use Rattle.tour.specs.Tour.{gathered, tour_report, TourPost}
use Rattle.tour.specs.Promises.{TourHandsOut}
use Rattle.tour.proofs.Tiles.{tile-span, tile-limited}
use Rattle.tour.proofs.Steps.{fine, read-inside, read-once, read-stands}
use Rattle.tour.proofs.Answering.{report-whole}
use Rattle.tour.proofs.Pressed.{own, gathered-from, gathered-rises}
use Rattle.tour.proofs.Accepted.{Accepted, accepted}

from-on-mem : (k : ℕ) (ss : List Spot) {s : Spot} → Memᴰ s (from_on k ss) → Memᴰ s ss
unfolding from_on
from-on-mem k ss i =
    let from : Spot → Bool = λ s. leb k s.key in
    let below : Spot → Bool = λ s. ltb s.key k in
    ⊎_elim (keep-in from ss) (keep-in below ss) (Memᴰ.append_cases (keep from ss) i)

from-on-distinct : (k : ℕ) (ss : List Spot) → distinct (keys ss) ≡ true → distinct (keys (from_on k ss)) ≡ true
unfolding from_on
from-on-distinct k ss d =
    let from : Spot → Bool = λ s. leb k s.key in
    let below : Spot → Bool = λ s. ltb s.key k in
    ap distinct (keys-append (keep from ss) (keep below ss))
    ∙ distinct-join (keys (keep from ss)) (keys (keep below ss)) (keep-distinct from ss d) (keep-distinct below ss d) off
  where
    off : (z : ℕ) → Memᴰ z (keys (keep (λ s. leb k s.key) ss)) → Memᴰ z (keys (keep (λ s. ltb s.key k) ss)) → ⊥
    off z i j = omega (arith, leb-true k z (only-mem (λ x. leb k x) ss i).1, ltb-true z k (only-mem (λ x. ltb x k) ss j).1)

-- a spot that is wanted and stands in one of these blocks
record Source (t : List ℕ) (q : Query) (bs : List ℕ) (s : Spot) : Type 0 where
  wanted : wants q s ≡ true
  at : ℕ
  read : Memᴰ at bs
  held : Memᴰ s (tile_spots t at)

module _ (x1 x2 y : ℤ) (t : List ℕ) (r : Answer) (map' : List ℕ) (a : Accepted x1 x2 y t r map') where
  abbrev q : Query
  q = query x1 x2 y

  source : (s : Spot) → Memᴰ s (spots (tour_report t x1 x2 y)) → Source t q (tiles_read t q) s
  source s i =
      ⊎_elim (λ j. absurd (Memᴰ.not-nil j))
      (λ o. let h = keep-mem (wants q) (tile_spots t o.0) o.2 in record { wanted = h.1; at = o.0; read = o.1; held = h.0 })
      (gathered-from t q (tiles_read t q) [] (from-on-mem (from_of q) (gathered t q (tiles_read t q) []) (mem-same (ap spots (report-whole t x1 x2 y a.fine)) i)))

  listed : catalogue_fine (length t) (block t 0) ≡ true
  unfolding tour_fine
  listed = and_left (catalogue_fine (length t) (block t 0)) (every (fine t q) (tiles_read t q)) a.fine

  kept : every (fine t q) (tiles_read t q) ≡ true
  unfolding tour_fine
  kept = and_right (catalogue_fine (length t) (block t 0)) (every (fine t q) (tiles_read t q)) a.fine

  limits : (b : ℕ) → 1 ≤ b → b < blocks_of (length t) → LimitedEntry (tile_entry t b)
  limits b h l = subst LimitedEntry (sym (entry_of t b)) (entry-limits (length t) (block t 0) b listed h l)

  source-limited : (s : Spot) → Source t q (tiles_read t q) s → limited s.key ≡ true
  unfolding tile_spots
  source-limited s o =
      let l = read-inside t q o.at o.read in
      let e = tile_entry t o.at in
      every-mem limited (keys (spots_in (block t o.at) e.size))
      (sym (limited-spots (block t o.at) e.size 0) ∙ tile-limited (blocks_of (length t)) o.at e (block t o.at) (limits o.at l.0 l.1) (every-mem (fine t q) (tiles_read t q) kept o.read))
      (keys-mem (spots_in (block t o.at) e.size) o.held)

  from-marked : (s : Spot) → Source t q (tiles_read t q) s → (b : ℕ) × (bit map' b ≡ true) × Memᴰ s (tile_spots t b) × (b ≡ 0 → ⊥)
  from-marked s o =
      let l = read-inside t q o.at o.read in (
        o.at,
        ap (λ (m : List ℕ). bit m o.at) a.marks ∙ map-bit (tiles_read t q) o.at (omega (arith, l.1, (sized-lengths (length t) a.sized).few)) ∙ read_mem (tiles_read t q) o.at o.read,
        o.held,
        λ n. omega (arith, l.0, n),
      )

  -- ---- no identity stands twice

  module _ (b : ℕ) (i : Memᴰ b (tiles_read t q)) where
    abbrev e : Entry
    e = tile_entry t b

    in_order : tile_fine (blocks_of (length t)) b e (block t b) ≡ true
    in_order = every-mem (fine t q) (tiles_read t q) kept i

    tile-keys : keys (tile_spots t b) ≡ keys_from (block t b) 12 e.size 0
    unfolding tile_spots
    tile-keys = keys-records (block t b) 12 e.size 0

    spanned : {k : ℕ} → Memᴰ k (keys (tile_spots t b)) → (e.low ≤ k) × (k ≤ e.high)
    spanned {k} j =
        let l = read-inside t q b i in
        let n = e.size in
        let r = mem-at (keys_from (block t b) 12 n 0) 0 (mem-same tile-keys j) in
        let u : r.0 < n = omega (arith, r.1, length-records (key_at (block t b)) 12 n 0) in
        let p : key_at (block t b) (0 + 12 * r.0) ≡ k = sym (records-at (key_at (block t b)) 12 n 0 r.0 0 u) ∙ r.2 in
        let s = tile-span (blocks_of (length t)) b e (block t b) (limits b l.0 l.1) in_order r.0 u in
        (omega (arith, s.0), omega (arith, s.1))

    block-once : distinct (keys (own t q b)) ≡ true
    block-once =
        keep-distinct (wants q) (tile_spots t b)
        (ap distinct tile-keys ∙ rising-distinct 0 (keys_from (block t b) 12 e.size 0) (tile-facts (blocks_of (length t)) b e (block t b) in_order).rise)

  one_block : (b c k : ℕ) → Memᴰ b (tiles_read t q) → Memᴰ c (tiles_read t q) → Memᴰ k (keys (own t q b)) → Memᴰ k (keys (own t q c)) → b ≡ c
  unfolding tile_entry
  one_block b c k i j g h =
      let u = spanned b i (only-mem (wants_key q) (tile_spots t b) g).0 in
      let v = spanned c j (only-mem (wants_key q) (tile_spots t c) h).0 in
      let x = read-inside t q b i in
      let y = read-inside t q c j in
      ⊎_elim (λ (p : b ≡ c). p)
      (λ (d : b ≡ c → ⊥).
      absurd
      (⊎_elim (λ (s : (tile_entry t b).high < (tile_entry t c).low). omega (arith, u.1, v.0)) (λ (s : (tile_entry t c).high < (tile_entry t b).low). omega (arith, u.0, v.1))
      (stood-beside (length t) (block t 0) listed q b c x.0 x.1 y.0 y.1 (read-stands t q b i) (read-stands t q c j) d)))
      (same_or_not b c)

  pub given-once : distinct (keys (spots (tour_report t x1 x2 y))) ≡ true
  given-once =
      let bs = tiles_read t q in
      let found = gathered t q bs [] in
      ap (λ (w : Walk). distinct (keys (spots w))) (report-whole t x1 x2 y a.fine)
      ∙ from-on-distinct (from_of q) found
      (rising-distinct 0 (keys found) (gathered-rises t q bs [] (read-once t q) (record { each = block-once; one = one_block }) refl (λ b k i j h. Memᴰ.not-nil h)))

  -- its places are inside the limits
  pub places-inside : every limited (keys (spots (tour_report t x1 x2 y))) ≡ true
  places-inside =
      let ss = spots (tour_report t x1 x2 y) in
      every-make limited (keys ss) (λ k i. let h = keys_from_lem ss i in ap limited h.2 ∙ source-limited h.0 (source h.0 h.1))

pub hands_out_lem : (x1 x2 y : ℤ) (t out map : List ℕ) (r : Answer) (out'' map' : List ℕ) → TourPost x1 x2 y t out map r out'' map' → r.number ≡ 0 → TourHandsOut x1 x2 y t out r out'' map'
hands_out_lem x1 x2 y t out map r out'' map' p z =
    let a = accepted x1 x2 y t out map r out'' map' p z in
    let ss = spots (tour_report t x1 x2 y) in
    let from : (s : Spot) → Memᴰ s ss → Source t (query x1 x2 y) (tiles_read t (query x1 x2 y)) s = source x1 x2 y t r map' a in
    record {
      given = ss;
      output = p.output ∙ ap (λ (n : ℕ). output_left n ss out) z;
      detail = a.detail;
      wanted = every-make (wants (query x1 x2 y)) ss (λ s i. (from s i).wanted);
      marked = λ s i. from-marked x1 x2 y t r map' a s (from s i);
      header = ap (λ (m : List ℕ). bit m 0) a.marks ∙ zero-marked (tiles_read t (query x1 x2 y));
      limits = places-inside x1 x2 y t r map' a;
      once = given-once x1 x2 y t r map' a;
    }
