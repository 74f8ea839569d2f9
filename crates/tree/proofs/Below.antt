-- Rule 4 of the paper in its global wording: in a sound part, what is live is no higher in rank order than the highest of the uppermost P.
-- Also what makes a node filled or one of the lowest.
-- Assumes nothing.
use mathlib.Core.Path.{◌≡◌, refl, ap, sym, ◌∙◌}
use mathlib.Core.Logic.{◌⊎◌, inl, inr, ⊎_elim}
use mathlib.Core.Bool.{Bool, true, false, cond, ◌||◌, or-true, true≢false, false≢true}
use mathlib.Core.List.Memᴰ
use mathlib.Core.List.{List, [], ◌∷◌, ◌++◌, map, Memᴰ}
use mathlib.Core.Option.{Option, none, some, none-ne-some}
use Prim.Native.Nat.{ℕ, zero, suc, ◌≤◌, ◌<◌}
use native.Mathlib.Omega.{arith}
use lib.ListN.{length}
use lib.Dec.{eqb}
use borrow.Author.Tests.{eqb-true, eqb-false, eq-eqb, leb-true, le-leb, ltb-true, lt-ltb}
use Rattle.octets.specs.Lists.{every, has, is_empty, maximum}
use Rattle.octets.proofs.Tests.{all-at, all_cons, all_nil, every-mem, every-make, or_left, or_right, empty-length}
use Rattle.octets.proofs.Extremes.{maximum-ge, max-is}
use Rattle.spot.specs.declared.Spot.{Spot}
use Rattle.spot.specs.Spots.{keys, find}
use Rattle.spot.specs.Keys.{rank_key}
use Rattle.spot.proofs.Buffers.{find-mem}
use Rattle.block.specs.declared.Entry.{Entry}
use Rattle.block.specs.Node.{Node, Store}
use Rattle.block.specs.declared.Asked.TheVariants.{Child}
use Rattle.block.specs.NodeRules.{node_ok, filled, lowest, tops, rank_keys, points_above, agrees}
use Rattle.tree.specs.Part.{Part, parts, children}
use Rattle.tree.specs.Lookup.{or_else, down, lookup}
use Rattle.tree.specs.Sound.{sound_at}
use Rattle.tree.proofs.Ranges.{parts-mem, down-from}
use Rattle.tree.proofs.Empty.{none-length, held-some, none-held, empty-keys}
use Rattle.tree.proofs.Entries.{agree-size, agree-top}

-- the top of an entry with points is one of the tops
pub tops-mem : (es : List Entry) {e : Entry} → Memᴰ e es → (e.size ≡ 0 → ⊥) → Memᴰ e.top (tops es)
tops-mem [] k n = absurd (Memᴰ.not-nil k)
tops-mem (x ∷ xs) {e} k n = go (eqb x.size 0) refl (Memᴰ.cases_cons k) (λ j. tops-mem xs j n)
  where
    go : (b : Bool) → eqb x.size 0 ≡ b → (e ≡ x) ⊎ Memᴰ e xs → (Memᴰ e xs → Memᴰ e.top (tops xs))
        → Memᴰ e.top (cond b (tops xs) (x.top ∷ tops xs))
    go true q (inl h) ih = absurd (n (ap (λ (y : Entry). y.size) h ∙ eqb-true x.size 0 q))
    go true q (inr j) ih = ih j
    go false q (inl h) ih = Memᴰ.head (ap (λ (y : Entry). y.top) h)
    go false q (inr j) ih = Memᴰ.tail (ih j)

-- and a top is that of an entry with points
pub tops-from : (es : List Entry) {k : ℕ} → Memᴰ k (tops es) → (e : Entry) × Memᴰ e es × (e.size ≡ 0 → ⊥) × (k ≡ e.top)
tops-from [] i = absurd (Memᴰ.not-nil i)
tops-from (e ∷ es) {k} i = go (eqb e.size 0) refl i (tops-from es)
  where
    go : (b : Bool) → eqb e.size 0 ≡ b → Memᴰ k (cond b (tops es) (e.top ∷ tops es))
        → (Memᴰ k (tops es) → (f : Entry) × Memᴰ f es × (f.size ≡ 0 → ⊥) × (k ≡ f.top))
        → (f : Entry) × Memᴰ f (e ∷ es) × (f.size ≡ 0 → ⊥) × (k ≡ f.top)
    go true q j ih = let r = ih j in (r.0, Memᴰ.tail r.1, r.2, r.3)
    go false q j ih = ⊎_elim (λ g. (e, Memᴰ.head refl, eqb-false e.size 0 q, g)) (λ g. let r = ih g in (r.0, Memᴰ.tail r.1, r.2, r.3)) (Memᴰ.cases_cons j)

-- a key is no higher than the highest of P, which isn't empty
pub record Under (k : ℕ) (n : Node) : Type 0 where
  pub held : is_empty n.points ≡ false
  pub below : rank_key k ≤ maximum (rank_keys n)

-- a point is
pub under-point : (n : Node) {k : ℕ} → Memᴰ k (keys n.points) → Under k n
unfolding rank_keys
under-point n h = record { held = sym (empty-keys n.points) ∙ held-some (keys n.points) h; below = maximum-ge _ (Memᴰ.map rank_key h) }

-- P of a node that is filled has a point
pub some-point : (ss : List Spot) → 32 ≤ length ss → (p : ℕ) × Memᴰ p (keys ss)
some-point [] h = let z : ⊥ = omega arith in absurd z
some-point (s ∷ ss) h = (s.key, Memᴰ.head refl)

-- what stands below every point stands below the highest
pub under-lower : (n : Node) (k : ℕ) → filled n ≡ true → points_above n ≡ true → Memᴰ k (keys n.inserts ++ n.deletes ++ tops n.entries) → Under k n
unfolding filled points_above
under-lower n k h a j =
    let p = some-point n.points (leb-true 32 (length n.points) (all-at _ h 0)) in
    let u = under-point n p.1 in
    let l = ltb-true (rank_key k) (rank_key p.0) (every-mem _ _ (every-mem _ _ a p.1) j) in
    record { held = u.held; below = omega (arith, u.below, l) }

-- what a sound part says of its uppermost node
pub record NodeSound (p : Part) (n : Node) : Type 0 where
  pub above : points_above n ≡ true
  pub sizes : (filled n || lowest n) ≡ true
  pub entry : agrees p.asked n ≡ true

-- from the rules
pub node-sound : (l : ℕ) (m : Store) (p : Part) → sound_at l m p ≡ true → NodeSound p (m p.block)
unfolding sound_at node_ok
node-sound zero m p h = absurd (false≢true h)
node-sound (suc l) m p h = let ok = all-at _ h 0 in record { above = all-at _ ok 6; sizes = all-at _ ok 7; entry = all-at _ ok 9 }

-- a node that is none of the lowest is filled
pub filled-by : (n : Node) → (filled n || lowest n) ≡ true → (lowest n ≡ true → ⊥) → filled n ≡ true
filled-by n h never = go (lowest n) refl
  where
    go : (b : Bool) → lowest n ≡ b → filled n ≡ true
    go true e = absurd (never e)
    go false e = or_right (filled n) (lowest n) h e

-- none of the lowest has an insert, a delete, or a child with points
pub has-insert : (n : Node) {k : ℕ} → Memᴰ k (keys n.inserts) → lowest n ≡ true → ⊥
unfolding lowest
has-insert n j h = none-held (keys n.inserts) (empty-keys n.inserts ∙ all-at _ h 1) j

-- nor a delete
pub has-delete : (n : Node) {k : ℕ} → Memᴰ k n.deletes → lowest n ≡ true → ⊥
unfolding lowest
has-delete n j h = none-held n.deletes (all-at _ h 2) j

-- nor a child with points
pub has-child : (n : Node) {e : Entry} → Memᴰ e n.entries → (e.size ≡ 0 → ⊥) → lowest n ≡ true → ⊥
unfolding lowest
has-child n {e} j never h = never (eqb-true e.size 0 (every-mem _ _ (all-at _ h 3) j))

-- an entry with its child: the child's points are counted, and the top is the highest of them
pub entry_top : (e : Entry) (n : Node) → agrees (Child e) n ≡ true → is_empty n.points ≡ false → (e.size ≡ 0 → ⊥) × (rank_key e.top ≡ maximum (rank_keys n))
unfolding rank_keys
entry_top e n h j =
    let t = agree-top e n h j in (
      λ z. true≢false (sym (none-length n.points (omega (arith, agree-size e n h))) ∙ j),
      max-is (map rank_key (keys n.points)) (rank_key e.top) (Memᴰ.map rank_key t.0)
          (λ x i. let r = Memᴰ.of_map rank_key (keys n.points) i in let z = t.1 r.0 r.1 in omega (arith, z, r.2)),
    )

-- what is live in a sound part is under its uppermost P
pub under_live : (l : ℕ) (m : Store) (k : ℕ) (p : Part) {a : ℕ} → sound_at l m p ≡ true → lookup l m k p ≡ some a → Under k (m p.block)
unfolding sound_at lookup
under_live zero m k p s e = absurd (false≢true s)
under_live (suc l) m k p {a} s e = by-points (find k n.points) refl e (λ c h g. under_live l m k c h g)
  where
    n : Node
    n = m p.block

    ok : NodeSound p n
    ok = node-sound (suc l) m p s

    Deeper : Type 0
    Deeper = (c : Part) → sound_at l m c ≡ true → lookup l m k c ≡ some a → Under k (m c.block)

    -- in a child: under its top, which is under this P
    by-child : Deeper → down (lookup l m k) k (children p n) ≡ some a → Under k n
    by-child ih g =
        let c = down-from (lookup l m k) k (children p n) g in
        let w = every-mem (sound_at l m) (children p n) (all-at _ s 2) c.1 in
        let u = ih c.0 w c.3 in
        let e = parts-mem p.lo p.hi n.entries c.1 in
        let t = entry_top e.0 (m c.0.block) (rw e.2 at (node-sound l m c.0 w).entry) u.held in
        let v = under-lower n e.0.top (filled-by n ok.sizes (has-child n e.1 t.0)) ok.above (Memᴰ.append_right (keys n.inserts ++ n.deletes) (tops-mem n.entries e.1 t.0)) in
        record { held = v.held; below = omega (arith, v.below, u.below, t.1) }

    by-deletes : Deeper → (b : Bool) → cond b none (down (lookup l m k) k (children p n)) ≡ some a → Under k n
    by-deletes ih true g = absurd (none-ne-some _ g)
    by-deletes ih false g = by-child ih g

    by-inserts : Deeper → (o : Option ℕ) → find k n.inserts ≡ o → or_else o (cond (has k n.deletes) none (down (lookup l m k) k (children p n))) ≡ some a → Under k n
    by-inserts ih (some b) f g =
        let j = find-mem k n.inserts f in
        under-lower n k (filled-by n ok.sizes (has-insert n j)) ok.above (Memᴰ.append_left (tops n.entries) (Memᴰ.append_left n.deletes j))
    by-inserts ih none f g = by-deletes ih (has k n.deletes) g

    by-points : (o : Option ℕ) → find k n.points ≡ o
        → or_else o (or_else (find k n.inserts) (cond (has k n.deletes) none (down (lookup l m k) k (children p n)))) ≡ some a
        → Deeper
        → Under k n
    by-points (some b) f g ih = under-point n (find-mem k n.points f)
    by-points none f g ih = by-inserts ih (find k n.inserts) refl g

-- what is live below some entries is under the top of one that has points
pub live-top : (l : ℕ) (m : Store) (lo hi : ℕ) (es : List Entry) → every (sound_at l m) (parts lo hi es) ≡ true → (k a : ℕ) → down (lookup l m k) k (parts lo hi es) ≡ some a
    → (e : Entry) × Memᴰ e es × (e.size ≡ 0 → ⊥) × (rank_key k ≤ rank_key e.top)
live-top l m lo hi es s k a f =
    let c = down-from (lookup l m k) k (parts lo hi es) f in
    let w = every-mem (sound_at l m) (parts lo hi es) s c.1 in
    let u = under_live l m k c.0 w c.3 in
    let e = parts-mem lo hi es c.1 in
    let t = entry_top e.0 (m c.0.block) (rw e.2 at (node-sound l m c.0 w).entry) u.held in
    (e.0, e.1, t.0, omega (arith, t.1, u.below))

-- so nothing is, if none has points
pub sizes-none : (l : ℕ) (m : Store) (lo hi : ℕ) (es : List Entry) → every (sound_at l m) (parts lo hi es) ≡ true → ((e : Entry) → Memᴰ e es → e.size ≡ 0) → (k : ℕ)
    → down (lookup l m k) k (parts lo hi es) ≡ none
sizes-none l m lo hi es s h k = go (down (lookup l m k) k (parts lo hi es)) refl
  where
    go : (o : Option ℕ) → down (lookup l m k) k (parts lo hi es) ≡ o → down (lookup l m k) k (parts lo hi es) ≡ none
    go none e = e
    go (some a) e = let b = live-top l m lo hi es s k a e in absurd (b.2 (h b.0 b.1))

-- ---- what makes a node one of the filled, or one of the lowest

-- enough in P, and not too much in each buffer
pub sizes-filled : (n : Node) → 32 ≤ length n.points → length n.points ≤ 64 → length n.inserts ≤ 64 → length n.deletes ≤ 16 → (filled n || lowest n) ≡ true
unfolding filled
sizes-filled n a b c d =
    ap (λ (t : Bool). t || lowest n) (all_cons _ _ (le-leb 32 (length n.points) a) (all_cons _ _ (le-leb (length n.points) 64 b) (all_cons _ _ (le-leb (length n.inserts) 64 c) (all_cons _ _ (le-leb (length n.deletes) 16 d) all_nil))))

-- or little in P and nothing else
pub sizes-lowest : (n : Node) → length n.points < 32 → n.inserts ≡ [] → n.deletes ≡ [] → ((e : Entry) → Memᴰ e n.entries → e.size ≡ 0) → (filled n || lowest n) ≡ true
unfolding lowest
sizes-lowest n a b c d =
    ap (λ (t : Bool). filled n || t)
    (all_cons _ _ (lt-ltb (length n.points) 32 a) (all_cons _ _ (ap is_empty b) (all_cons _ _ (ap is_empty c) (all_cons _ _ (every-make _ n.entries (λ e i. eq-eqb e.size 0 (d e i))) all_nil)))) ∙
    or-true (filled n)

-- the sizes of either
pub sizes-few : (n : Node) → (filled n || lowest n) ≡ true → (length n.points ≤ 64) × (length n.inserts ≤ 64) × (length n.deletes ≤ 16)
unfolding filled lowest
sizes-few n h = go (filled n) refl
  where
    go : (q : Bool) → filled n ≡ q → (length n.points ≤ 64) × (length n.inserts ≤ 64) × (length n.deletes ≤ 16)
    go true g = (leb-true (length n.points) 64 (all-at _ g 1), leb-true (length n.inserts) 64 (all-at _ g 2), leb-true (length n.deletes) 16 (all-at _ g 3))
    go false g =
        let o = or_left (filled n) (lowest n) h g in
        let p = ltb-true (length n.points) 32 (all-at _ o 0) in
        let i = empty-length n.inserts (all-at _ o 1) in
        let d = empty-length n.deletes (all-at _ o 2) in
        (omega arith, omega arith, omega arith)
