-- The rounds of fill, one by one: from where the loop stands over the store to where it stands after one round, and where it ends.
-- Assumes nothing.
use mathlib.Core.Path.{◌≡◌, refl, ap, ◌∙◌}
use mathlib.Core.Bool.{true, false, cond}
use mathlib.Core.List.{List, [], ◌∷◌, ◌++◌, Memᴰ}
use mathlib.Core.Option.{Option, none, some}
use Prim.Native.Nat.{ℕ, ◌<◌, ◌≤◌}
use native.Mathlib.Omega.{arith}
use lib.ListN.{length}
use lib.Dec.{eqb}
use Rattle.octets.specs.Lists.{keep, has}
use Rattle.octets.proofs.Tests.{and_left, keep-length}
use Rattle.spot.specs.declared.Spot.{Spot}
use Rattle.spot.specs.Spots.{keys, find, put}
use Rattle.spot.specs.Keys.{rank_key, all_keys, within}
use Rattle.spot.specs.Sorted.{only, but, lower}
use Rattle.spot.proofs.Canon.{length-put}
use Rattle.spot.proofs.Places.{within-from, within-to, within-yes}
use Rattle.spot.proofs.Buffers.{length-only}
use Rattle.block.specs.declared.Entry.{Entry}
use Rattle.block.specs.Node.{Store}
use Rattle.block.specs.declared.Asked.TheVariants.{Child}
use Rattle.block.specs.NodeRules.{lows, zero_first, child_blocks}
use Rattle.tree.specs.Part.{Part, parts}
use Rattle.tree.specs.Lookup.{lookup}
use Rattle.tree.specs.Sound.{sound_at}
use Rattle.tree.proofs.Below.{sizes-none}
use Rattle.tree.proofs.Ranges.{part-bounds}
use Rattle.update_theory.specs.Held.{Held}
use Rattle.update_theory.specs.Change.{part, reaches, Sound, Changed}
use Rattle.update_theory.specs.Spare.{Taken}
use Rattle.update_theory.specs.Open.{under, Open}
use Rattle.update_theory.specs.Rounds.{Loop}
use Rattle.update_theory.proofs.Spread.{child_at, child-in, first-low}
use Rattle.update_theory.proofs.Fill.{under-child, open-ends, open-fill-I, open-fill-both, open-fill-child, open-fill-dead}
use Rattle.update_theory.proofs.Spare.{lows-same}
use Rattle.update_theory.proofs.Best.{tops-bound, tops-none}
use Rattle.update_theory.proofs.Node.{Top, top_of}
use Rattle.update_theory.proofs.Going.{going-held, going-child, going-fresh, going_on}

-- one entry for another of the same block
blocks-same : (us vs : List Entry) (e e' : Entry) → e'.block ≡ e.block → child_blocks (us ++ ((e' ∷ []) ++ vs)) ≡ child_blocks (us ++ (e ∷ vs))
blocks-same [] vs e e' h = ap (λ (b : ℕ). b ∷ child_blocks vs) h
blocks-same (u ∷ us) vs e e' h = ap (λ (r : List ℕ). u.block ∷ r) (blocks-same us vs e e' h)

module _ (ni nd l lo hi : ℕ) (full : hi ≤ all_keys) (x : Store) (es₀ : List Entry) (f : ℕ → Option ℕ) where
  -- a round that takes the highest of I, which isn't below
  round-alone : (y : Store) (r : ℕ) (es : List Entry) (b : Held) → Loop ni nd l lo hi x es₀ y r es b f → length b.points < 32
      → (s : Spot) → Memᴰ s.key (keys b.inserts) → find s.key b.inserts ≡ some s.track → ((k : ℕ) → Memᴰ k (keys b.inserts) → rank_key k ≤ rank_key s.key)
      → ((k a : ℕ) → under l y lo hi es k ≡ some a → rank_key k ≤ rank_key s.key) → under l y lo hi es s.key ≡ none
      → Loop ni nd l lo hi x es₀ y (rank_key s.key) es (record { points = put s b.points; inserts = only (but s.key) b.inserts; deletes = keep (lower s.key) b.deletes }) f
  round-alone y r es b p less s i g top best gone =
      let b' : Held = record { points = put s b.points; inserts = only (but s.key) b.inserts; deletes = keep (lower s.key) b.deletes } in
      let z = keep-length (lower s.key) b.deletes in
      let n = length-put s b.points in
      let w = length-only (but s.key) b.inserts in
      record {
        going = going-held l lo hi x [] es₀ y [] r (rank_key s.key) es b b' f f p.going (open-fill-I l y lo hi full r es b f p.going.node s g top best gone (p.going.node.ready.in_i s.key i));
        same_lows = p.same_lows;
        same_blocks = p.same_blocks;
        few_p = omega (arith, n, less);
        few_i = omega (arith, w, p.few_i);
        few_d = omega (arith, z, p.few_d);
      }

  -- and all tops are lower
  pub round-insert : (y : Store) (r : ℕ) (es : List Entry) (b : Held) → Loop ni nd l lo hi x es₀ y r es b f → length b.points < 32
      → (s : Spot) → Memᴰ s.key (keys b.inserts) → find s.key b.inserts ≡ some s.track → ((k : ℕ) → Memᴰ k (keys b.inserts) → rank_key k ≤ rank_key s.key)
      → ((d : Entry) → Memᴰ d es → (d.size ≡ 0 → ⊥) → rank_key d.top < rank_key s.key)
      → Loop ni nd l lo hi x es₀ y (rank_key s.key) es (record { points = put s b.points; inserts = only (but s.key) b.inserts; deletes = keep (lower s.key) b.deletes }) f
  round-insert y r es b p less s i g top tops =
      let kids = p.going.node.kids in
      round-alone y r es b p less s i g top (tops-bound l y lo hi es kids (rank_key s.key) (λ d j n. let z = tops d j n in omega arith)) (tops-none l y lo hi es kids s.key tops)

  -- the last one: nothing in I, and no child has points
  pub round-end : (y : Store) (r : ℕ) (es : List Entry) (b : Held) → Loop ni nd l lo hi x es₀ y r es b f → ((d : Entry) → Memᴰ d es → d.size ≡ 0)
      → Loop ni nd l lo hi x es₀ y r es (record { points = b.points; inserts = b.inserts; deletes = [] }) f
  round-end y r es b p z =
      let b' : Held = record { points = b.points; inserts = b.inserts; deletes = [] } in
      record {
        going = going-held l lo hi x [] es₀ y [] r r es b b' f f p.going (open-ends l y lo hi full r es b f p.going.node (sizes-none l y lo hi es p.going.node.kids.each z));
        same_lows = p.same_lows;
        same_blocks = p.same_blocks;
        few_p = p.few_p;
        few_i = p.few_i;
        few_d = let q = p.few_d in omega arith;
      }

  -- a round that takes a child's top: what all three kinds need
  module _ (zero₀ : zero_first (lows es₀) ≡ true) (y : Store) (r : ℕ) (us vs : List Entry) (e : Entry) (b : Held) (p : Loop ni nd l lo hi x es₀ y r (us ++ (e ∷ vs)) b f) (some-points : e.size ≡ 0 → ⊥)
      (best : (d : Entry) → Memᴰ d (us ++ (e ∷ vs)) → (d.size ≡ 0 → ⊥) → rank_key d.top ≤ rank_key e.top) where
    abbrev c : Part
    c = child_at lo hi us vs e

    abbrev t : ℕ
    t = e.top

    o : Open l y lo hi r (us ++ (e ∷ vs)) b f
    o = p.going.node

    -- the child's range
    pub child-bounds : (lo ≤ (child_at lo hi us vs e).lo) × ((child_at lo hi us vs e).hi ≤ hi) × ((child_at lo hi us vs e).lo ≤ (child_at lo hi us vs e).hi)
    child-bounds = part-bounds lo hi (us ++ (e ∷ vs)) o.steps (child-in lo hi us vs e)

    pub child-sound : Sound l y (child_at lo hi us vs e ∷ [])
    child-sound = (going-child l lo hi x [] es₀ y [] r us vs e b f p.going).0

    pub child-low : e.low ≤ (child_at lo hi us vs e).lo
    child-low = first-low lo us vs e (ap zero_first p.same_lows ∙ zero₀)

    -- its top
    child-top : Top l y (child_at lo hi us vs e) e.top
    child-top = top_of l y c e refl (and_left (sound_at l y c) true child-sound.each) some-points

    pub top_within : within lo hi e.top ≡ true
    top_within =
        let u = within-from c.lo c.hi t child-top.inside in
        let v = within-to c.lo c.hi t child-top.inside in
        within-yes lo hi t (omega (arith, child-bounds.0)) (omega (arith, child-bounds.1))

    highest-below : (k a : ℕ) → under l y lo hi (us ++ (e ∷ vs)) k ≡ some a → rank_key k ≤ rank_key t
    highest-below = tops-bound l y lo hi (us ++ (e ∷ vs)) o.kids (rank_key t) best

    fresh : (z : ℕ) → Taken [] [] z → Memᴰ z (reaches l y (parts lo hi (us ++ (e ∷ vs)))) → ⊥
    fresh = going-fresh l lo hi x [] es₀ y [] r us vs e b f p.going []

    -- the top is gone from the child, which e' leads to in the store w
    module _ (w : Store) (e' : Entry) (low : e'.low ≡ e.low) (block : e'.block ≡ e.block)
        (changed : Changed l (Taken [] []) y (child_at lo hi us vs e ∷ []) w (part e'.block (Child e') (child_at lo hi us vs e).lo (child_at lo hi us vs e).hi ∷ [])
        (λ k. cond (eqb k e.top) none (lookup l y k (child_at lo hi us vs e)))) where
      -- the loop after it
      next : (r' : ℕ) (b' : Held) → length b'.points ≤ 64 → length b'.inserts ≤ ni → length b'.deletes ≤ nd → Open l w lo hi r' (us ++ ((e' ∷ []) ++ vs)) b' f
          → Loop ni nd l lo hi x es₀ w r' (us ++ ((e' ∷ []) ++ vs)) b' f
      next r' b' np ni nd q =
          record {
            going = going_on l lo hi x [] es₀ y [] r us vs e b f p.going w [] e' [] (λ k. cond (eqb k e.top) none (lookup l y k c)) f r' b' (λ z i. i) low changed q;
            same_lows = lows-same us e e' vs low ∙ p.same_lows;
            same_blocks = blocks-same us vs e e' block ∙ p.same_blocks;
            few_p = np;
            few_i = ni;
            few_d = nd;
          }

      -- D names it: both go
      pub round-dead : ((k : ℕ) → Memᴰ k (keys b.inserts) → rank_key k < rank_key e.top) → has e.top b.deletes ≡ true
          → Loop ni nd l lo hi x es₀ w (rank_key e.top) (us ++ ((e' ∷ []) ++ vs)) (record { points = b.points; inserts = b.inserts; deletes = keep (lower e.top) b.deletes }) f
      round-dead under-t d =
          let b' : Held = record { points = b.points; inserts = b.inserts; deletes = keep (lower t) b.deletes } in
          let z = keep-length (lower t) b.deletes in
          let live = under-child l y lo hi us vs e o.steps t child-top.inside ∙ child-top.live in
          next (rank_key t) b' p.few_p p.few_i (omega (arith, z, p.few_d))
          (open-fill-dead l (Taken [] []) y w lo hi full r us vs e e' b f t low o fresh changed child-top.inside highest-below top_within child-top.track live under-t d)

      -- it goes to P
      pub round-child : length b.points < 32 → (s : Spot) → s.key ≡ e.top → lookup l y e.top (child_at lo hi us vs e) ≡ some s.track
          → ((k : ℕ) → Memᴰ k (keys b.inserts) → rank_key k < rank_key e.top) → has e.top b.deletes ≡ false
          → Loop ni nd l lo hi x es₀ w (rank_key e.top) (us ++ ((e' ∷ []) ++ vs)) (record { points = put s b.points; inserts = b.inserts; deletes = keep (lower e.top) b.deletes }) f
      round-child less s at-t live under-t d =
          let b' : Held = record { points = put s b.points; inserts = b.inserts; deletes = keep (lower t) b.deletes } in
          let z = keep-length (lower t) b.deletes in
          let n = length-put s b.points in
          next (rank_key t) b' (omega (arith, n, less)) p.few_i (omega (arith, z, p.few_d))
          (open-fill-child l (Taken [] []) y w lo hi full r us vs e e' b f t low o fresh changed child-top.inside highest-below top_within s at-t (under-child l y lo hi us vs e o.steps t child-top.inside ∙ live) under-t d)

      -- I has the same key: its spot goes to P
      pub round-both : length b.points < 32 → (s : Spot) → s.key ≡ e.top → find e.top b.inserts ≡ some s.track → ((k : ℕ) → Memᴰ k (keys b.inserts) → rank_key k ≤ rank_key e.top)
          → Loop ni nd l lo hi x es₀ w (rank_key e.top) (us ++ ((e' ∷ []) ++ vs)) (record { points = put s b.points; inserts = only (but e.top) b.inserts; deletes = keep (lower e.top) b.deletes }) f
      round-both less s at-t found-t under-t =
          let b' : Held = record { points = put s b.points; inserts = only (but t) b.inserts; deletes = keep (lower t) b.deletes } in
          let z = keep-length (lower t) b.deletes in
          let n = length-put s b.points in
          let q = length-only (but t) b.inserts in
          next (rank_key t) b' (omega (arith, n, less)) (omega (arith, q, p.few_i)) (omega (arith, z, p.few_d))
          (open-fill-both l (Taken [] []) y w lo hi full r us vs e e' b f t low o fresh changed child-top.inside highest-below top_within s at-t found-t under-t)
