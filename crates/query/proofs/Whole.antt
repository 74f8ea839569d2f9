-- The walk of a whole table, counted.
-- Assumes nothing.
use mathlib.Core.Path.{◌≡◌, refl, ap, ap₂, sym, subst, ◌∙◌}
use mathlib.Core.Bool.{Bool, true, false, cond, not, ◌&&◌}
use mathlib.Core.List.{List, [], ◌∷◌, Memᴰ}
use Prim.Native.Nat.{ℕ, zero, suc, ◌+◌, ◌-◌, ◌≤◌, ◌<◌}
use native.Mathlib.Omega.{arith}
use lib.ListN.{length, replicate, length-replicate}
use Rattle.octets.specs.Lists.{distinct}
use Rattle.octets.specs.Bitmap.{bit, set_bit, ones_below, digit}
use Rattle.octets.proofs.Tests.{and_left}
use Rattle.octets.proofs.Bits.{set_bit-length, set_bit-other, ones_none, ones-suc, ones-set_bit, ones-le-bits, bit-zeros}
use Rattle.spot.specs.Keys.{all_keys}
use Rattle.spot.specs.declared.Query.{Query}
use Rattle.spot.specs.declared.Spot.{Spot}
use Rattle.block.specs.declared.Asked.TheVariants.{Root}
use Rattle.block.specs.Header.{head_of}
use Rattle.block.specs.HeaderRules.{header_ok}
use Rattle.block.specs.Node.{store_of}
use Rattle.tree.specs.Part.{Part, whole}
use Rattle.tree.specs.Walk.{Walk, walked, broken, walk_table, is_broken, spots, blocks_read}
use Rattle.tree.specs.Trace.{obeys, visits, gains, tally, unseen, marked, named_by}
use Rattle.tree.specs.ReadMap.{read_map, ones}
use Rattle.tree.proofs.Onto.{onto}
use Rattle.tree.proofs.MapBits.{unseen-zeros, marks-make, read-onto}
use Rattle.tree.proofs.Traces.{table-trace, gains-length}
use Rattle.tree.proofs.Sources.{InTable, header-few, table-visits}
use Rattle.visit.specs.declared.Span.{Span}
use Rattle.visit.specs.declared.Path.{Path}
use Rattle.visit.specs.Visit.{above, end_of, part_of}
use Rattle.visit.proofs.Roots.{levels-are, root-part}
use Rattle.tally.specs.declared.Tally.{Tally}
use Rattle.std.specs.Prelude.{Option, None, Some, is_some}
use Rattle.query.specs.Walks.{Tallied, Counted, TableCounted}

-- no bit of an empty map is set
ones-zeros : (k n : ℕ) → ones_below (replicate k 0) n ≡ 0
ones-zeros k zero = ones_none (replicate k 0)
ones-zeros k (suc n) = ones-suc (replicate k 0) n ∙ ap₂ (λ (x : ℕ) (b : Bool). x + digit b) (ones-zeros k n) (bit-zeros k n)

pub none-tallied : {z : List ℕ} {y : Tally} → z ≡ replicate 512 0 → y.blocks ≡ 0 → y.spots ≡ 0 → Tallied z y
none-tallied {z} e b s =
    let n : ones_below z 4096 ≡ 0 = ap (λ (m : List ℕ). ones_below m 4096) e ∙ ones-zeros 512 4096 in
    record { blocks = omega arith; spots = omega arith }

-- marks of other blocks leave block 0 as it is
still-clear : (m bs : List ℕ) → length m ≡ 512 → ((b : ℕ) → Memᴰ b bs → (1 ≤ b) × (b < 4096)) → bit m 0 ≡ false → bit (marked m bs) 0 ≡ false
still-clear m [] l h e = e
still-clear m (b ∷ bs) l h e =
    let i = h b (Memᴰ.head refl) in
    still-clear (set_bit m b) bs (set_bit-length m b ∙ l) (λ c j. h c (Memᴰ.tail j)) (set_bit-other m b 0 (omega (arith, i.1)) (λ z. omega (arith, i.0, z)) ∙ e)

module _ (t : List ℕ) (q : Query) where
  abbrev L : ℕ
  L = (head_of t).levels

  abbrev W : Part
  W = whole (head_of t)

  abbrev read : List ℕ
  read = visits L (store_of t) q W

  abbrev found : List Spot
  found = gains L (store_of t) q [] W []

  -- a walk that is not whole
  no_table : {map' : List ℕ} → length map' ≡ 512
      → header_ok (length t) (head_of t) && (obeys L (store_of t) q W && distinct read) ≡ false
      → TableCounted t q map' None
  no_table l e =
      let b : is_broken (walk_table t q) ≡ true = ap is_broken (table-trace t q ∙ ap (λ (x : Bool). cond x (walked found (onto read [])) broken) e) in
      record {
        ok = sym (ap not b);
        sized = l;
        spots = tt;
        blocks = tt;
        few = tt;
        marks = tt;
      }

  pub no_header : {map' : List ℕ} → length map' ≡ 512 → header_ok (length t) (head_of t) ≡ false → TableCounted t q map' None
  no_header l e = no_table l (ap (λ (x : Bool). x && (obeys L (store_of t) q W && distinct read)) e)

  module _ {z seen : List ℕ} {path : Path} {y : Tally} {r : Option Tally} (ok : header_ok (length t) (head_of t) ≡ true) (e : z ≡ replicate 512 0)
      (k : Counted t z seen L q path W y r) where
    fresh-is : obeys L (store_of t) q W && distinct read ≡ is_some r
    fresh-is =
        ap (λ (x : Bool). obeys L (store_of t) q W && x) (sym (unseen-zeros 512 read)) ∙ ap (λ (m : List ℕ). obeys L (store_of t) q W && unseen m read) (sym e)
        ∙ sym k.ok

    both : header_ok (length t) (head_of t) && (obeys L (store_of t) q W && distinct read) ≡ is_some r
    both = ap (λ (x : Bool). x && (obeys L (store_of t) q W && distinct read)) ok ∙ fresh-is

    long : length seen ≡ 512
    long = k.sized ∙ ap length e ∙ length-replicate {A = ℕ} 512 0

    pub no_walk : r ≡ None → TableCounted t q seen None
    no_walk n = no_table long (both ∙ ap is_some n)

  module _ {z seen : List ℕ} {path : Path} {y r : Tally} (ok : header_ok (length t) (head_of t) ≡ true) (e : z ≡ replicate 512 0)
      (k : Counted t z seen L q path W y (Some r)) where
    node : (b : ℕ) → Memᴰ b read → InTable t b
    node = table-visits t ok q (and_left (obeys L (store_of t) q W) (distinct read) (fresh-is ok e k))

    low : (b : ℕ) → Memᴰ b read → b < 4096
    low b i = omega (arith, (node b i).low, header-few t ok)

    marks-are : seen ≡ marked (replicate 512 0) read
    marks-are = k.seen ∙ ap (λ (m : List ℕ). marked m read) e

    -- block 0 adds a one
    more-ones : ones (set_bit seen 0) ≡ suc (ones seen)
    more-ones =
        ones-set_bit seen 0 4096 (omega arith) (omega (arith, long ok e k))
        (ap (λ (m : List ℕ). bit m 0) marks-are ∙ still-clear (replicate 512 0) read (length-replicate {A = ℕ} 512 0) (λ b i. ((node b i).some, low b i)) (bit-zeros 512 0))

    -- so that there is room for it
    pub walk-room : (r.blocks < 4096) × (r.spots ≤ 524288)
    walk-room =
        let l : r.blocks < 4096 = omega (arith, k.tallied.blocks, more-ones, ones-le-bits (set_bit seen 0) 4096) in
        (l, omega (arith, k.tallied.spots))

    pub whole-walk : {seen' : List ℕ} {r' : Tally} → above path ≡ [] → y.spots ≡ 0 → seen' ≡ set_bit seen 0
        → r'.blocks ≡ r.blocks + 1 → r'.spots ≡ r.spots + 0 → TableCounted t q seen' (Some r')
    whole-walk p s d blocks found_All =
        record {
          ok = sym (ap (λ (x : Walk). not (is_broken x)) w);
          sized = ap length d ∙ set_bit-length seen 0 ∙ long ok e k;
          spots = omega (
            arith,
            k.spots,
            ap (λ (bs : List ℕ). tally L (store_of t) q (named_by (store_of t) bs) W) p,
            gains-length L (store_of t) q [] W [],
            ap (λ (x : Walk). length (spots x)) w,
          );
          blocks = omega (arith, k.tallied.blocks, more-ones, ap ones d);
          few = omega (arith, walk-room.1);
          marks =
              d ∙ ap (λ (m : List ℕ). set_bit m 0) marks-are ∙ marks-make read low ∙ sym (read-onto read)
              ∙ sym (ap (λ (x : Walk). read_map (blocks_read x)) w);
        }
      where
        w : walk_table t q ≡ walked found (onto read [])
        w = table-trace t q ∙ ap (λ (x : Bool). cond x (walked found (onto read [])) broken) (both ok e k)

-- the walk from the root, as the code calls it
pub at-root : (t : List ℕ) (q : Query) (span : Span) {z seen : List ℕ} {path : Path} {y : Tally} {r : Option Tally} {root level : ℕ} → header_ok (length t) (head_of t) ≡ true
    → root ≡ (head_of t).root → level ≡ (head_of t).levels → span.lo ≡ 0 → end_of span ≡ all_keys
    → Counted t z seen (suc (level - 1)) q path (part_of root (Root root) span) y r
    → Counted t z seen (head_of t).levels q path (whole (head_of t)) y r
at-root t q span {z} {seen} {path} {y} {r} {root} {level} ok p l lo hi k =
    subst (λ (x : Part). Counted t z seen (head_of t).levels q path x y r) (root-part t span p lo hi)
    (subst (λ (n : ℕ). Counted t z seen n q path (part_of root (Root root) span) y r) (levels-are t ok p l) k)

-- a query that the code has made
pub counted-as : {t map' : List ℕ} {p q : Query} {r : Option Tally} → q ≡ p → TableCounted t q map' r → TableCounted t p map' r
counted-as {t} {map'} {p} {q} {r} e = subst (λ (x : Query). TableCounted t x map' r) e
