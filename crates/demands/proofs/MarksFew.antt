-- Request 2026-09, from the promise of Top alone: Top marks no block that a Report over the same places, from the rank of the last spot given, doesn't mark.
-- Assumes nothing.
use mathlib.Core.Path.{◌≡◌, refl, ap, sym, subst, ◌∙◌}
use mathlib.Core.Logic.{◌⊎◌, inl, ⊎_elim, ◌↔◌}
use mathlib.Core.Bool.{Bool, true, false, cond, not, ◌&&◌}
use mathlib.Core.List.{List, [], ◌∷◌, ◌++◌, Memᴰ}
use Prim.Native.Nat.{ℕ, zero, suc, ◌<◌}
use native.Mathlib.Omega.{arith}
use lib.ListN.{length}
use lib.Dec.{eqb}
use lib.IntN.{ℤ}
use borrow.Author.Tests.{eqb-true, ne_eqb}
use Rattle.octets.specs.Bitmap.{bit}
use Rattle.spot.specs.declared.Spot.{Spot}
use Rattle.spot.specs.Keys.{biased, key, rank_of, signed32}
use Rattle.spot.specs.Query.{query, top_query}
use Rattle.spot.proofs.Signed.{Fits, unbiased-biased, fits_signed, signed-fits}
use Rattle.spot.proofs.Orders.{rank-of}
use Rattle.tree.specs.Walk.{walk_table, blocks_read, spots}
use Rattle.tree.specs.Top.{top_table}
use Rattle.tree.specs.Read.{ReadBlock}
use Rattle.tree.specs.ReadMap.{read_map}
use Rattle.tree.specs.Sound.{sound}
use Rattle.tree.proofs.Marks.{map-bit, read-in, read_mem, zero-marked}
use Rattle.tree.proofs.Sources.{read-marked}
use Rattle.tree.proofs.ReadWords.{marks-exact-words}
use Rattle.tree.proofs.TopMarks.{top_within, top-within-all, top-zero}
use Rattle.demands.specs.Model.{PlainSpot}
use Rattle.demands.specs.TopMarks.{least_rank, last_rank, rank_reached, MarksFew}
use Rattle.demands.proofs.Plain.{to_key_spot, keyed, SpotFits, AllFit, keyed-length}

-- what a map of the blocks read marks: block 0 and those
pub map-words : (bs : List ℕ) (b : ℕ) → b < 4096 → (bit (read_map bs) b ≡ true) ↔ ((b ≡ 0) ⊎ Memᴰ b bs)
map-words bs b l = (
  λ m. mathlib.Core.List.Memᴰ.cases_cons (read-in bs b (sym (map-bit bs b l) ∙ m)),
  ⊎_elim (λ (q : b ≡ 0). rw q (zero-marked bs)) (λ i. map-bit bs b l ∙ read_mem bs b i),
)

-- ---- the last spot of a list

-- a list with a spot in it ends with one, and its rank is that of the last
record Ends (r : ℤ) (ss : List PlainSpot) : Type 0 where
  before : List PlainSpot
  last : PlainSpot
  made : keyed ss ≡ keyed before ++ (to_key_spot last ∷ [])
  fewer : length ss ≡ suc (length before)
  ranked : last_rank r ss ≡ last.rank
  fits : SpotFits last

ends : (r : ℤ) (s : PlainSpot) (ss : List PlainSpot) → AllFit (s ∷ ss) → Ends r (s ∷ ss)
ends r s [] f = record { before = []; last = s; made = refl; fewer = refl; ranked = refl; fits = f.0 }
ends r s (x ∷ xs) f =
    let e = ends s.rank x xs f.1 in
    record {
      before = s ∷ e.before;
      last = e.last;
      made = ap (λ (l : List Spot). to_key_spot s ∷ l) e.made;
      fewer = ap suc e.fewer;
      ranked = e.ranked;
      fits = e.fits;
    }

-- ---- the rank reached

-- a query from a rank, biased or not
from-rank : (x1 x2 y : ℤ) → Fits y → top_query x1 x2 (biased y) ≡ query x1 x2 y
unfolding top_query query
from-rank x1 x2 y f = rw (unbiased-biased y f)

least_fits : signed32 least_rank ≡ true
unfolding signed32
least_fits = refl

from-least : (x1 x2 : ℤ) → top_query x1 x2 0 ≡ query x1 x2 least_rank
from-least x1 x2 = from-rank x1 x2 least_rank (signed-fits least_rank least_fits)

module _ (t : List ℕ) (g : sound t ≡ true) (x1 x2 : ℤ) (h1 : signed32 x1 ≡ true) (h2 : signed32 x2 ≡ true) where
  -- the blocks of the walk from rank y are those that the scope paper has the Report read
  in_words : (y : ℤ) → signed32 y ≡ true → (b : ℕ) → b < 4096 → Memᴰ b (blocks_read (walk_table t (query x1 x2 y))) → (b ≡ 0) ⊎ ReadBlock t x1 x2 y b
  in_words y hy b l i = (marks-exact-words t x1 x2 y g h1 h2 hy b l).0 (read-marked t (query x1 x2 y) b i)

  least-words : (k b : ℕ) → b < 4096 → Memᴰ b (blocks_read (top_table t x1 x2 (suc k))) → (b ≡ 0) ⊎ ReadBlock t x1 x2 least_rank b
  least-words k b l i = in_words least_rank least_fits b l (rw (← from-least x1 x2) (top-within-all t g x1 x2 k b i))

  -- k were found, and k is not 0
  found-words : (k : ℕ) (given : List PlainSpot) → keyed given ≡ spots (top_table t x1 x2 (suc k)) → length given ≡ suc k → Ends least_rank given → (b : ℕ) → b < 4096
      → Memᴰ b (blocks_read (top_table t x1 x2 (suc k))) → (b ≡ 0) ⊎ ReadBlock t x1 x2 (last_rank least_rank given) b
  found-words k given same n e b l i =
      let y = e.last.rank in
      let many : length (keyed e.before) ≡ k = keyed-length e.before ∙ omega (arith, n, e.fewer) in
      let j : Memᴰ b (blocks_read (walk_table t (top_query x1 x2 (rank_of (to_key_spot e.last).key)))) =
      top_within t g x1 x2 k (keyed e.before) (to_key_spot e.last) (sym same ∙ e.made) many b i in
      let q : top_query x1 x2 (rank_of (key e.last.place y)) ≡ query x1 x2 y =
      ap (top_query x1 x2) (rank-of e.last.place y e.fits.rank e.fits.place) ∙ from-rank x1 x2 y e.fits.rank in
      subst (λ (z : ℤ). (b ≡ 0) ⊎ ReadBlock t x1 x2 z b) (sym e.ranked) (in_words y (fits_signed y e.fits.rank) b l (rw q at j))

  -- the blocks of Top's walk, by whether k were found
  reached : (k : ℕ) (given : List PlainSpot) → AllFit given → keyed given ≡ spots (top_table t x1 x2 k) → (b : ℕ) → b < 4096
      → Memᴰ b (blocks_read (top_table t x1 x2 k)) → (b ≡ 0) ⊎ ReadBlock t x1 x2 (rank_reached k given) b
  unfolding rank_reached
  reached zero given f same b l i = absurd (mathlib.Core.List.Memᴰ.not-nil (rw (top-zero t g x1 x2) at i))
  reached (suc k) [] f same b l i = rw (ne_eqb 0 (suc k) (λ h. omega arith)) (least-words k b l i)
  reached (suc k) (s ∷ ss) f same b l i = go (eqb (length (s ∷ ss)) (suc k)) refl
    where
      go : (c : Bool) → eqb (length (s ∷ ss)) (suc k) ≡ c → (b ≡ 0) ⊎ ReadBlock t x1 x2 (cond (c && not (eqb (suc k) 0)) (last_rank least_rank (s ∷ ss)) least_rank) b
      go true e = rw (ne_eqb (suc k) 0 (λ h. omega arith)) (found-words k (s ∷ ss) same (eqb-true _ _ e) (ends least_rank s ss f) b l i)
      go false e = least-words k b l i

  pub marks-few : (k : ℕ) (given : List PlainSpot) → AllFit given → keyed given ≡ spots (top_table t x1 x2 k) → (map : List ℕ) → map ≡ read_map (blocks_read (top_table t x1 x2 k))
      → MarksFew x1 x2 k given t map
  marks-few k given f same map e =
      record {
        within = λ b l m. ⊎_elim inl (reached k given f same b l) ((map-words (blocks_read (top_table t x1 x2 k)) b l).0 (rw e at m));
        none = λ z b l. (
          λ m. ⊎_elim (λ (q : b ≡ 0). q) (λ i. absurd (mathlib.Core.List.Memᴰ.not-nil (rw (z, top-zero t g x1 x2) at i))) ((map-words (blocks_read (top_table t x1 x2 k)) b l).0 (rw e at m)),
          λ q. rw (e, q) (zero-marked (blocks_read (top_table t x1 x2 k))),
        );
      }
