-- Top marks no block that a Report over the same places, from the rank of the last spot given, doesn't mark.
-- Assumes nothing.
use mathlib.Core.Path.{◌≡◌, refl, ap, sym, subst, ◌∙◌}
use mathlib.Core.Logic.{⊎_elim}
use mathlib.Core.Bool.{Bool, true, false, cond, true≢false}
use mathlib.Core.List.{List, [], ◌∷◌, ◌++◌, Memᴰ}
use Prim.Native.Nat.{ℕ, zero, suc, ◌≤◌, ◌<◌}
use native.Mathlib.Omega.{arith}
use lib.ListN.{length, take, drop, take-append-drop}
use lib.IntN.{ℤ}
use borrow.Author.Tests.{le-leb}
use Rattle.octets.specs.Lists.{keep}
use Rattle.octets.proofs.Order.{less-or-not}
use Rattle.octets.proofs.UpTo.{largest-above}
use Rattle.spot.specs.declared.Spot.{Spot}
use Rattle.spot.specs.Keys.{rank_of, word}
use Rattle.spot.specs.Spots.{by_top}
use Rattle.spot.specs.Query.{top_query, wants}
use Rattle.spot.proofs.TopKeys.{top-rank}
use Rattle.spot.proofs.Ranks.{tk, Falls, top-falls, top-keep, top-length, by_top-from, of_rank}
use Rattle.tree.specs.Walk.{walk_table, blocks_read, spots, live_spots}
use Rattle.tree.specs.Top.{threshold, top_walk, top_table, enough}
use Rattle.tree.specs.Sound.{sound}
use Rattle.tree.proofs.Tables.{report-finds, sound-header}
use Rattle.tree.proofs.Tops.{ranked, ranked-high, top-finds}
use Rattle.tree.proofs.TopSecond.{W, W-sub, best-blocks}
use Rattle.tree.proofs.Sources.{table-source}
use Rattle.tree.proofs.BestFirstParts.{rank-word, held_small}

-- the last of a falling list is its lowest
falls-last : (a : ℕ) (us : List Spot) (x : Spot) → Falls a (us ++ (x ∷ [])) → tk x ≤ a
falls-last a [] x f = f.0
falls-last a (u ∷ us) x f = let z = falls-last (tk u) us x f.1 in omega (arith, f.0, z)

falls-take : (a n : ℕ) (xs : List Spot) → Falls a xs → Falls a (take n xs)
falls-take a zero xs f = tt
falls-take a (suc n) [] f = tt
falls-take a (suc n) (x ∷ xs) f = (f.0, falls-take (tk x) n xs f.1)

-- so all have its rank at least
all-high : (a : ℕ) (us : List Spot) (x : Spot) → Falls a (us ++ (x ∷ [])) → length (keep (of_rank (rank_of x.key)) (us ++ (x ∷ []))) ≡ suc (length us)
all-high a [] x f = rw (le-leb (rank_of x.key) (rank_of x.key) (omega arith))
all-high a (u ∷ us) x f =
    let z = falls-last (tk u) us x f.1 in
    rw (le-leb (rank_of x.key) (rank_of u.key) (omega (arith, z, top-rank x.key, top-rank u.key))) (ap suc (all-high (tk u) us x f.1))

keep-take : (f : Spot → Bool) (n : ℕ) (xs : List Spot) → length (keep f (take n xs)) ≤ length (keep f xs)
keep-take f zero xs = omega arith
keep-take f (suc n) [] = omega arith
keep-take f (suc n) (x ∷ xs) = go (f x) (keep-take f n xs)
  where
    go : (b : Bool) → length (keep f (take n xs)) ≤ length (keep f xs) → length (cond b (x ∷ keep f (take n xs)) (keep f (take n xs))) ≤ length (cond b (x ∷ keep f xs) (keep f xs))
    go true h = omega arith
    go false h = h

module _ (t : List ℕ) (s : sound t ≡ true) (x1 x2 : ℤ) where
  -- what is given are the highest of all that are wanted
  given-are : (k : ℕ) (us : List Spot) (x : Spot) → spots (top_table t x1 x2 (suc k)) ≡ us ++ (x ∷ []) → take (suc k) (by_top (keep (wants (top_query x1 x2 0)) (live_spots t))) ≡ us ++ (x ∷ [])
  given-are k us x e = sym (ap spots (top-finds t s x1 x2 (suc k)).1) ∙ e

  -- its keys stand on the table, so its ranks have 32 bits
  given-rank : (k : ℕ) (us : List Spot) (x : Spot) → spots (top_table t x1 x2 (suc k)) ≡ us ++ (x ∷ []) → rank_of x.key < word
  given-rank k us x e =
      let q = top_query x1 x2 0 in
      let ss = keep (wants q) (live_spots t) in
      let first : Memᴰ x (take (suc k) (by_top ss)) = subst (Memᴰ x) (sym (given-are k us x e)) (mathlib.Core.List.Memᴰ.append_right us (mathlib.Core.List.Memᴰ.head refl)) in
      let all : Memᴰ x ss = by_top-from ss (subst (Memᴰ x) (take-append-drop (suc k) (by_top ss)) (mathlib.Core.List.Memᴰ.append_left (drop (suc k) (by_top ss)) first)) in
      let r = table-source t q x (subst (Memᴰ x) (sym (ap spots (report-finds t s q).1)) all) in
      rank-word x.key (held_small t r.block r.held)

  -- a Report from the rank of the last of k spots given finds k spots
  finds-given : (k : ℕ) (us : List Spot) (x : Spot) → spots (top_table t x1 x2 (suc k)) ≡ us ++ (x ∷ []) → length us ≡ k → suc k ≤ length (ranked t s x1 x2 (rank_of x.key))
  unfolding ranked
  finds-given k us x e n =
      let L = by_top (keep (wants (top_query x1 x2 0)) (live_spots t)) in
      let y = rank_of x.key in
      let same : take (suc k) L ≡ us ++ (x ∷ []) = given-are k us x e in
      let fall = falls-take (top-falls (keep (wants (top_query x1 x2 0)) (live_spots t))).0 (suc k) L (top-falls (keep (wants (top_query x1 x2 0)) (live_spots t))).1 in
      let high = all-high _ us x (subst (Falls _) same fall) in
      let few = keep-take (of_rank y) (suc k) L in
      let made : length (keep (of_rank y) (take (suc k) L)) ≡ suc (length us) = ap (λ (l : List Spot). length (keep (of_rank y) l)) same ∙ high in
      let turn : length (keep (of_rank y) L) ≡ length (keep (wants (top_query x1 x2 y)) (live_spots t)) =
      ap length (sym (top-keep (of_rank y) (keep (wants (top_query x1 x2 0)) (live_spots t)))) ∙ top-length (keep (of_rank y) (keep (wants (top_query x1 x2 0)) (live_spots t))) ∙
      sym (ap length (ranked-high t s x1 x2 y)) in
      omega (arith, few, made, turn, n)

  -- where k were found: within the marks of the Report from the rank of the last
  pub top_within : (k : ℕ) (us : List Spot) (x : Spot) → spots (top_table t x1 x2 (suc k)) ≡ us ++ (x ∷ []) → length us ≡ k
      → (b : ℕ) → Memᴰ b (blocks_read (top_table t x1 x2 (suc k))) → Memᴰ b (blocks_read (walk_table t (top_query x1 x2 (rank_of x.key))))
  unfolding top_table top_walk threshold ranked W
  top_within k us x e n b i =
      let y = rank_of x.key in
      let z = threshold t x1 x2 (suc k) in
      let there : enough (suc k) (walk_table t (top_query x1 x2 y)) ≡ true =
      ap (enough (suc k)) (report-finds t s (top_query x1 x2 y)).1 ∙ le-leb (suc k) _ (finds-given k us x e n) in
      let under : y ≤ z =
      ⊎_elim (λ (h : y ≤ z). h) (λ (h : z < y). absurd (true≢false (sym there ∙ largest-above (λ r. enough (suc k) (walk_table t (top_query x1 x2 r))) word y h (given-rank k us x e))))
      (less-or-not y z) in
      W-sub t s x1 x2 y z under b (rw (best-blocks t s x1 x2 (suc k) (walk_table t (top_query x1 x2 z))) at i)

  -- where fewer were found: within those of the Report from the least rank, as in every case
  pub top-within-all : (k : ℕ) (b : ℕ) → Memᴰ b (blocks_read (top_table t x1 x2 (suc k))) → Memᴰ b (blocks_read (walk_table t (top_query x1 x2 0)))
  unfolding top_table top_walk W
  top-within-all k b i =
      W-sub t s x1 x2 0 (threshold t x1 x2 (suc k)) (omega arith) b (rw (best-blocks t s x1 x2 (suc k) (walk_table t (top_query x1 x2 (threshold t x1 x2 (suc k))))) at i)

  -- for k = 0: block 0 alone
  pub top-zero : blocks_read (top_table t x1 x2 0) ≡ []
  unfolding top_table top_walk
  top-zero = rw (sound-header t s)
