-- The blocks that a Report reads, said over keys and said in the paper's words over places and ranks: they are the same blocks, and those that a sound
-- table's report marks.
-- Assumes nothing.
use mathlib.Core.Path.{◌≡◌, refl, ap, sym, subst⁻¹, ◌∙◌}
use mathlib.Core.Logic.{◌⊎◌, inl, inr, ⊎_elim, ◌↔◌}
use mathlib.Core.Bool.{true, false, true≢false}
use mathlib.Core.List.Memᴰ
use mathlib.Core.List.{List, [], ◌∷◌, map, Memᴰ}
use Prim.Native.Nat.{ℕ, zero, suc, ◌+◌, ◌/◌, ◌%◌, ◌≤◌, ◌<◌}
use native.Mathlib.Omega.{arith}
use lib.Dec.{leb}
use lib.IntN.{ℤ}
use lib.Signed.{le_z}
use borrow.Author.Tests.{leb-true, le-leb}
use Rattle.octets.specs.Lists.{is_empty, maximum, records}
use Rattle.octets.specs.Bitmap.{bit}
use Rattle.octets.specs.Bytes.{be}
use Rattle.octets.proofs.Tests.{every-make}
use Rattle.octets.proofs.Extremes.{maximum-ge, maximum-mem}
use Rattle.spot.specs.declared.Spot.{Spot}
use Rattle.spot.specs.declared.Query.{Query}
use Rattle.spot.specs.Keys.{word, all_keys, signed32, biased, key, place_of, rank_in, rank_key, rank_of, within}
use Rattle.spot.specs.Spots.{keys}
use Rattle.spot.specs.Query.{query, least_of, placed}
use Rattle.spot.proofs.Signed.{Fits, signed-fits, fits_signed, biased-unbiased, le_z-biased}
use Rattle.spot.proofs.Halves.{rank-of-low}
use Rattle.spot.proofs.Orders.{place-fits, rank-fits, key-of-parts, range-placed}
use Rattle.spot.proofs.Card.{key_at-lt}
use Rattle.spot.proofs.Places.{within-to}
use Rattle.spot.proofs.Buffers.{keys-mem, keys_from_lem, spots-small}
use Rattle.block.specs.Table.{version1, block}
use Rattle.block.specs.declared.Entry.{Entry}
use Rattle.block.specs.Node.{Node, points_from, store_of, node_of, node_from, entry_at}
use Rattle.block.specs.NodeRules.{rank_keys}
use Rattle.block.proofs.Views.{open-all}
use Rattle.tree.specs.Part.{Part, next_low, parts}
use Rattle.tree.specs.Sound.{sound}
use Rattle.tree.specs.Walk.{blocks_read, walk_table}
use Rattle.tree.specs.ReadMap.{read_map}
use Rattle.tree.specs.Read.{HighEnough, HoldsPlace, Read, start, child, ReadBlock}
use Rattle.tree.proofs.Empty.{held-some}
use Rattle.tree.proofs.ReadKeys.{KeyRead, first, next, KeyReadBlock}
use Rattle.tree.proofs.Exact.{marks-exact}

-- ---- the keys of a table have 64 bits

-- every key of P has 64 bits
abbrev Small : Node → Type 0
Small n = (s : Spot) → Memᴰ s n.points → s.key < all_keys

-- those of a table are so
points-small : (t : List ℕ) (b : ℕ) → Small (store_of t b)
unfolding store_of node_of node_from
points-small t b s i = spots-small (block t b) version1.spot (be 1 (block t b) 4) (points_from version1 (be 1 (block t b) 7)) i

-- so has the lowest identity that an entry names
lows-small : (s : List ℕ) (n at : ℕ) (e : Entry) → Memᴰ e (records (entry_at s) 28 n at) → e.low < all_keys
unfolding entry_at
lows-small s zero at e i = absurd (Memᴰ.not-nil i)
lows-small s (suc n) at e i =
    ⊎_elim (λ (q : e ≡ entry_at s at). subst⁻¹ (λ (x : Entry). x.low < all_keys) q (key_at-lt s (at + 4))) (λ j. lows-small s n (at + 28) e j)
    (Memᴰ.cases_cons i)

entries-small : (t : List ℕ) (b : ℕ) (e : Entry) → Memᴰ e (store_of t b).entries → e.low < all_keys
unfolding store_of node_of node_from
entries-small t b e i =
    open-all (λ (x : Entry). x.low < all_keys) (λ x h. omega arith) (records (entry_at (block t b)) 28 (be 1 (block t b) 7) 8)
    (lows-small (block t b) (be 1 (block t b) 7) 8) e i

next_small : (es : List Entry) (hi : ℕ) → hi ≤ all_keys → ((e : Entry) → Memᴰ e es → e.low < all_keys) → next_low es hi ≤ all_keys
next_small [] hi h f = h
next_small (e ∷ es) hi h f = omega (arith, f e (Memᴰ.head refl))

-- a range ends where its parent's does or at such an identity: its keys have 64 bits
parts-small : (lo hi : ℕ) (es : List Entry) → hi ≤ all_keys → ((e : Entry) → Memᴰ e es → e.low < all_keys) → {c : Part} → Memᴰ c (parts lo hi es) → c.hi ≤ all_keys
parts-small lo hi [] h f i = absurd (Memᴰ.not-nil i)
parts-small lo hi (e ∷ es) h f {c} i =
    let g : (x : Entry) → Memᴰ x es → x.low < all_keys = λ x j. f x (Memᴰ.tail j) in
    ⊎_elim (λ q. subst⁻¹ (λ (x : Part). x.hi ≤ all_keys) q (next_small es hi h g)) (λ j. parts-small (next_low es hi) hi es h g j) (Memᴰ.cases_cons i)

read_small : (t : List ℕ) (q : Query) {p c : Part} → p.hi ≤ all_keys → KeyRead (store_of t) q p c → c.hi ≤ all_keys
read_small t q h (first e) = subst⁻¹ (λ (x : Part). x.hi ≤ all_keys) e h
read_small t q h (next {d = d} r k s) = parts-small d.lo d.hi (store_of t d.block).entries (read_small t q h r) (entries-small t d.block) k

-- ---- the highest of P

-- a spot of P is no higher than the highest
below-highest : (n : Node) {s : Spot} → Memᴰ s n.points → rank_key s.key ≤ maximum (rank_keys n)
unfolding rank_keys
below-highest n i = maximum-ge (map rank_key (keys n.points)) (Memᴰ.map rank_key (keys-mem n.points i))

-- and some spot of P is that high
highest : (n : Node) → is_empty n.points ≡ false → (s : Spot) × Memᴰ s n.points × (maximum (rank_keys n) ≡ rank_key s.key)
unfolding rank_keys
highest n h = go n.points h
  where
    go : (ss : List Spot) → is_empty ss ≡ false → (s : Spot) × Memᴰ s ss × (maximum (map rank_key (keys ss)) ≡ rank_key s.key)
    go [] e = absurd (true≢false e)
    go (s ∷ ss) e =
        let r = Memᴰ.of_map rank_key (keys (s ∷ ss)) (maximum-mem (rank_key s.key) (map rank_key (keys ss))) in
        let k = keys_from_lem (s ∷ ss) r.1 in
        (k.0, k.1, sym r.2 ∙ ap rank_key k.2)

-- ---- ranks and places as whole numbers

rank-words : (y : ℤ) → Fits y → (k : ℕ) → k < all_keys → le_z y (rank_in k) ≡ leb (biased y) (rank_of k)
unfolding rank_in
rank-words y f k h = le_z-biased y (rank_in k) f (rank-fits k) ∙ ap (leb (biased y)) (biased-unbiased (k % word) ∙ sym (rank-of-low k h))

module _ (x1 x2 y : ℤ) (f1 : Fits x1) (f2 : Fits x2) (fy : Fits y) where
  -- a key of a range of 64 bits
  holds-words : (lo hi k : ℕ) → k < all_keys → within lo hi k ≡ true → placed (query x1 x2 y) k ≡ true → HoldsPlace x1 x2 lo hi
  holds-words lo hi k small w h =
      let fp = place-fits k small in
      record {
        place = place_of k;
        rank = rank_in k;
        place_fits = fits_signed (place_of k) fp;
        rank_fits = fits_signed (rank_in k) (rank-fits k);
        inside = ap (within lo hi) (key-of-parts k) ∙ w;
        of = range-placed x1 x2 f1 f2 (place_of k) (rank_in k) fp (rank-fits k) y ∙ ap (placed (query x1 x2 y)) (key-of-parts k) ∙ h;
      }

  words-hold : (lo hi : ℕ) → HoldsPlace x1 x2 lo hi → (k : ℕ) × (within lo hi k ≡ true) × (placed (query x1 x2 y) k ≡ true)
  words-hold lo hi h = (
    key h.place h.rank,
    h.inside,
    sym (range-placed x1 x2 f1 f2 h.place h.rank (signed-fits h.place h.place_fits) (signed-fits h.rank h.rank_fits) y) ∙ h.of,
  )

  high-words : (n : Node) → Small n → is_empty n.points ≡ false
      → least_of (query x1 x2 y) ≤ maximum (rank_keys n) / word
      → HighEnough y n
  unfolding query least_of
  high-words n small held high =
      let s = highest n held in
      record {
        spot = s.0;
        held = s.1;
        highest = every-make _ n.points (λ x i. le-leb (rank_key x.key) (rank_key s.0.key) (rw (← s.2) (below-highest n i)));
        ranked = rank-words y fy s.0.key (small s.0 s.1) ∙ le-leb (biased y) (rank_of s.0.key) (rw s.2 at high);
      }

  words-high : (n : Node) → Small n → HighEnough y n → least_of (query x1 x2 y) ≤ maximum (rank_keys n) / word
  unfolding query least_of
  words-high n small h =
      let a : biased y ≤ rank_key h.spot.key / word = leb-true (biased y) (rank_of h.spot.key) (sym (rank-words y fy h.spot.key (small h.spot h.held)) ∙ h.ranked) in
      omega (arith, below-highest n h.held)

  -- ---- the parts read

  module _ (t : List ℕ) where
    to-words : {p c : Part} → p.hi ≤ all_keys → KeyRead (store_of t) (query x1 x2 y) p c → Read (store_of t) x1 x2 y p c
    to-words full (first e) = start e
    to-words full (next {c = c} r k h) =
        child (to-words full r) k (high-words (store_of t c.block) (points-small t c.block) h.held h.high)
        (holds-words c.lo c.hi h.meets.0
        (omega (arith, within-to c.lo c.hi h.meets.0 h.meets.1, read_small t (query x1 x2 y) full (next r k h))) h.meets.1 h.meets.2)

    from-words : {p c : Part} → Read (store_of t) x1 x2 y p c → KeyRead (store_of t) (query x1 x2 y) p c
    from-words (start e) = first e
    from-words (child {c = c} r k h g) =
        next (from-words r) k
        (record {
          held = held-some (store_of t c.block).points h.held;
          high = words-high (store_of t c.block) (points-small t c.block) h;
          meets = words-hold c.lo c.hi g;
        })

-- the same blocks, on every table
read-words : (t : List ℕ) (x1 x2 y : ℤ) → signed32 x1 ≡ true → signed32 x2 ≡ true → signed32 y ≡ true
    → (b : ℕ) → KeyReadBlock t (query x1 x2 y) b ↔ ReadBlock t x1 x2 y b
read-words t x1 x2 y h1 h2 hy b = (
  λ r. (r.0, to-words x1 x2 y (signed-fits x1 h1) (signed-fits x2 h2) (signed-fits y hy) t (omega arith) r.1, r.2),
  λ r. (r.0, from-words x1 x2 y (signed-fits x1 h1) (signed-fits x2 h2) (signed-fits y hy) t r.1, r.2),
)

-- "On a sound table an accepted Report reads and marks exactly block 0, the root, and those children of nodes read where .."
pub marks-exact-words : (t : List ℕ) (x1 x2 y : ℤ) → sound t ≡ true → signed32 x1 ≡ true → signed32 x2 ≡ true → signed32 y ≡ true → (b : ℕ) → b < 4096
    → (bit (read_map (blocks_read (walk_table t (query x1 x2 y)))) b ≡ true) ↔ ((b ≡ 0) ⊎ ReadBlock t x1 x2 y b)
marks-exact-words t x1 x2 y s h1 h2 hy b l =
    let e = marks-exact t s (query x1 x2 y) b l in
    let r = read-words t x1 x2 y h1 h2 hy b in (
      λ k. ⊎_elim inl (λ j. inr (r.0 j)) (e.0 k),
      λ k. e.1 (⊎_elim inl (λ j. inr (r.1 j)) k),
    )
