-- On a sound table every walk is whole, its spots have keys of 64 bits, and no two of them have the same top key. A child that becomes known promises a rank.
-- Assumes nothing.
use mathlib.Core.Path.{◌≡◌, refl, ap, sym, ◌∙◌}
use mathlib.Core.Logic.{⊎_elim}
use mathlib.Core.Bool.{Bool, true, false, cond, true≢false}
use mathlib.Core.List.Memᴰ
use mathlib.Core.List.{List, [], ◌∷◌, ◌++◌, Memᴰ}
use Prim.Native.Nat.{ℕ, ◌+◌, ◌*◌, ◌≤◌, ◌<◌}
use native.Mathlib.Omega.{arith}
use lib.Dec.{ltb, eqb}
use lib.IntN.{ℤ}
use borrow.Author.Tests.{ltb-true, lt-ltb}
use Rattle.octets.specs.Lists.{keep, distinct}
use Rattle.octets.specs.Bytes.{be}
use Rattle.octets.proofs.Lists.{mem-same}
use Rattle.octets.proofs.Order.{less-or-not}
use Rattle.octets.proofs.Records.{tests-make}
use Rattle.octets.proofs.Rising.{rising-distinct}
use Rattle.octets.proofs.Tests.{every-mem, keep-in}
use Rattle.spot.specs.Keys.{word, all_keys, rank_of}
use Rattle.spot.specs.Spots.{key_at, keys}
use Rattle.spot.specs.Query.{wants}
use Rattle.spot.specs.declared.Spot.{Spot}
use Rattle.spot.specs.declared.Query.{Query}
use Rattle.spot.proofs.Card.{key_at-lt}
use Rattle.spot.proofs.Canon.{keep-rises}
use Rattle.block.specs.declared.Entry.{Entry}
use Rattle.block.specs.Node.{store_of, node_of, node_from, entry_at}
use Rattle.block.specs.NodeRules.{names}
use Rattle.block.specs.Table.{block}
use Rattle.block.proofs.Views.{every-entry}
use Rattle.tree.specs.Part.{Part, children}
use Rattle.tree.specs.Walk.{Walk, broken, spots, is_broken, admits, walk_table, live_spots}
use Rattle.tree.specs.Top.{top_walk, best, top_table}
use Rattle.tree.specs.Sound.{sound}
use Rattle.tree.specs.BestFirst.{Pending, promised, known, opened}
use Rattle.tree.proofs.Ranges.{parts-mem}
use Rattle.tree.proofs.Sources.{walk-sources}
use Rattle.tree.proofs.Tables.{sound-header, live-rises, report-finds}
use Rattle.tree.proofs.Tops.{top-finds}
use Rattle.tree.proofs.BestFirstSums.{mark}
use Rattle.tree.proofs.BestFirstSpots.{Sharp, rising-sharp}
use Rattle.tree.proofs.BestFirstTree.{weighs, on_block, fault, root_of, Whole, walk-whole, walk-faulty, walk-twice}
use Rattle.tree.proofs.BestFirstParts.{rank-word, held_small}

-- ---- walks of a sound table

module _ (t : List ℕ) (s : sound t ≡ true) (q : Query) where
  unbroken : walk_table t q ≡ broken → ⊥
  unbroken e = true≢false (sym (ap is_broken e) ∙ ap is_broken (report-finds t s q).1)

  -- no block is read twice
  pub once-only : (b : ℕ) → weighs (on_block (mark b)) (store_of t) q (root_of t) ≤ 1
  once-only b =
      let n = weighs (on_block (mark b)) (store_of t) q (root_of t) in
      ⊎_elim (λ (l : n ≤ 1). l) (λ (l : 1 < n). absurd (unbroken (walk-twice t q b l))) (less-or-not n 1)

  faultless : weighs (fault (store_of t)) (store_of t) q (root_of t) ≡ 0
  faultless =
      let n = weighs (fault (store_of t)) (store_of t) q (root_of t) in
      ⊎_elim (λ (l : n ≤ 0). omega arith) (λ (l : 0 < n). absurd (unbroken (walk-faulty t q l))) (less-or-not n 0)

  pub sound-whole : Whole t q
  sound-whole = walk-whole t q (sound-header t s) faultless once-only

  -- what it finds are the live spots that are wanted
  pub whole-live : (w : Whole t q) → w.found ≡ keep (wants q) (live_spots t)
  whole-live w = sym (ap spots w.is) ∙ ap spots (report-finds t s q).1

  pub live-once : distinct (keys (keep (wants q) (live_spots t))) ≡ true
  live-once = rising-distinct 0 (keys (keep (wants q) (live_spots t))) (keep-rises (wants q) 0 (live_spots t) (live-rises t s))

  pub live_small : (x : Spot) → Memᴰ x (keep (wants q) (live_spots t)) → x.key < all_keys
  live_small x i =
      let r = walk-sources t q x (mem-same (sym (ap spots (report-finds t s q).1)) i) in
      held_small t r.1.0 r.1.2

  pub live-sharp : Sharp (keep (wants q) (live_spots t))
  live-sharp = rising-sharp 0 (keep (wants q) (live_spots t)) (keep-rises (wants q) 0 (live_spots t) (live-rises t s)) live_small

-- Top never breaks
pub top-whole : (t : List ℕ) → sound t ≡ true → (x1 x2 : ℤ) (k : ℕ) → top_walk t x1 x2 k ≡ broken → ⊥
unfolding top_table
top-whole t s x1 x2 k e = true≢false (sym (ap (λ (w : Walk). is_broken (best k w)) e) ∙ ap is_broken (top-finds t s x1 x2 k).1)

-- ---- what a child promises

known-part : (named : List ℕ) (l : ℕ) (cs : List Part) {u : Pending} → Memᴰ u (known named l cs) → Memᴰ u.part cs
known-part named l [] i = absurd (Memᴰ.not-nil i)
known-part named l (c ∷ cs) i =
    ⊎_elim (λ e. Memᴰ.head (ap (λ (v : Pending). v.part) e)) (λ j. Memᴰ.tail (known-part named l cs j)) (Memᴰ.cases_cons i)

-- the highest key of an entry is read from 8 bytes, or is 0
entry-low : (x : List ℕ) (i : ℕ) → ltb (entry_at x i).top all_keys ≡ true
unfolding entry_at
entry-low x i = go (eqb (be 1 x (i + 2)) 0)
  where
    go : (b : Bool) → ltb (cond b 0 (key_at x (i + 12))) all_keys ≡ true
    go true = lt-ltb 0 all_keys (omega arith)
    go false = lt-ltb (key_at x (i + 12)) all_keys (key_at-lt x (i + 12))

entries-low : (t : List ℕ) (b : ℕ) {e : Entry} → Memᴰ e (store_of t b).entries → rank_of e.top < word
unfolding store_of node_of node_from
entries-low t b {e} i =
    let x = block t b in
    let low : Entry → Bool = λ (z : Entry). ltb z.top all_keys in
    rank-word e.top
    (ltb-true e.top all_keys
    (every-mem low (store_of t b).entries (every-entry low (λ z. refl) x (be 1 x 7) ∙ tests-make _ 28 (be 1 x 7) 8 (λ j l. entry-low x (8 + 28 * j))) i))

-- so a part that becomes known promises a rank
pub opened-small : (t : List ℕ) (q : Query) (l : ℕ) (p : Pending) (u : Pending) → Memᴰ u (opened (store_of t) q l p) → promised u < word
opened-small t q l p u i =
    let n = store_of t p.part.block in
    let c = keep-in (admits q) (children p.part n) (known-part (names n ++ p.named) l (keep (admits q) (children p.part n)) i) in
    let r = parts-mem p.part.lo p.part.hi n.entries c in
    rw r.2 (entries-low t p.part.block r.1)
