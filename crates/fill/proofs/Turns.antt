-- What a round of each kind needs and promises, from what its calls give.
-- Assumes nothing.
use mathlib.Core.Path.{◌≡◌, sym, ap, ◌∙◌, subst, subst⁻¹}
use mathlib.Core.Bool.{true}
use mathlib.Core.Logic.{⊎_elim}
use mathlib.Core.List.Memᴰ
use mathlib.Core.List.{List, [], Memᴰ}
use Rattle.std.specs.Prelude.{Some, None, Result, Ok, Err}
use Rattle.std.specs.Prelude as maybe
use Prim.Native.Nat.{ℕ, suc, ◌-◌, ◌≤◌, ◌<◌}
use native.Mathlib.Omega.{arith}
use lib.ListN.{take, length-take}
use Rattle.octets.proofs.Order.{same_or_not}
use Rattle.spot.specs.declared.Spot.{Spot}
use Rattle.spot.specs.Keys.{rank_key, all_keys}
use Rattle.spot.specs.Spots.{keys}
use Rattle.spot.proofs.Halves.{rank-strict}
use Rattle.block.specs.declared.Entry.{Entry}
use Rattle.block.specs.Node.{store_of}
use Rattle.buffer.specs.Buffer.{held, Highest}
use Rattle.buffer.specs.declared.SpotBuffer.{SpotBuffer}
use Rattle.node.specs.Memory.{entries_of, EntryAt}
use Rattle.node.specs.declared.NodeValue.{NodeValue}
use Rattle.edit.specs.Edits.{Tidy, Edited, BestChild}
use Rattle.journal.specs.Journal.{Kept}
use Rattle.fill.specs.declared.Failure.{Failure}
use Rattle.fill.specs.declared.Failure.TheVariants.{NoRoom}
use Rattle.fill.specs.declared.Took.{Took}
use Rattle.fill.specs.declared.Below.{Below}
use Rattle.fill.specs.declared.Fetched.{Fetched}
use Rattle.fill.specs.declared.Round.{Round}
use Rattle.fill.specs.Filling.{Workable, RoundDone, RoundFailed, RoundPost, OnLoop, GoesOn, TakeDone, TakeFailed, Replaced, InsertMoved, InsertUp, ChildMoved, ChildUp, ChildHighest, BothHighest, InsertHighest, PlannedAs, FetchPost, TakenUp, CarryPost}
use Rattle.fill.proofs.Works.{round-failed, round-ended, round-lifted, round-taken}
use Rattle.fill.proofs.Onward.{same_at, best-at, child-ready, on-insert, on-end, on-child, on_both}

-- ---- what the calls are handed

-- with nothing in I
pub child-bare : (n : NodeValue) (c : ℕ) → c < n.entries.n → BestChild (entries_of n.entries) c → n.inserts.n ≡ 0 → ChildHighest n c
child-bare n c h b z =
    record {
      inside = h;
      best = b;
      above = λ e a k i. absurd (Memᴰ.not-nil (subst⁻¹ (λ (j : ℕ). Memᴰ k (keys (take j n.inserts.spots))) (sym z) i));
    }

-- the best child and the highest of I, where there are both
pub record Compared (n : NodeValue) (c : ℕ) (e : Entry) (s : Spot) : Type 0 where
  pub inside : c < n.entries.n
  pub best : BestChild (entries_of n.entries) c
  pub entry : EntryAt (entries_of n.entries) c e
  pub highest : Highest (held n.inserts) s

-- with I lower
pub child-above : {n : NodeValue} {c : ℕ} {e : Entry} {s : Spot} → Compared n c e s → rank_key s.key < rank_key e.top → ChildHighest n c
child-above {n} {c} {e} m r =
    record {
      inside = m.inside;
      best = m.best;
      above = λ d q k i.
          let z : rank_key e.top ≡ rank_key d.top = ap (λ (x : Entry). rank_key x.top) (same_at (entries_of n.entries) c e d m.entry q) in
          let v = m.highest.most k i in
          omega arith;
    }

-- with the same key in I
pub both-same : {n : NodeValue} {c : ℕ} {e : Entry} {s : Spot} → Compared n c e s → s.key ≡ e.top → BothHighest n c s
both-same {n} {c} {e} m k =
    record { inside = m.inside; best = m.best; highest = m.highest; same = λ d q. k ∙ ap (λ (x : Entry). x.top) (same_at (entries_of n.entries) c e d m.entry q) }

-- the node with the child's new entry
pub replaced-ready : {n m : NodeValue} {c : ℕ} {e : Entry} → Tidy n → n.points.n < 32 → Replaced n c e m → Tidy m × (m.points.n < 32)
replaced-ready {n} {m} t h p = (
  record { points = rw p.points t.points; inserts = rw p.inserts t.inserts; deletes = rw p.deletes t.deletes },
  (let z : m.points.n ≡ n.points.n = ap (λ (x : SpotBuffer). x.n) p.points in omega arith),
)

-- ---- what is promised then

-- the last round
pub post-end : {t s map : List ℕ} {level : ℕ} {n r : NodeValue} (c : ℕ) → Workable t s map n level → n.points.n < 32
    → Edited n r (record { points = held n.points; inserts = held n.inserts; deletes = [] }) n.points.n n.inserts.n 0
    → n.inserts.n ≡ 0 → BestChild (entries_of n.entries) c → n.entries.n ≤ c → RoundDone t t s map level n (record { over = true; node = r })
post-end {t} {level = level} {n = n} {r = r} c w h d z b g =
    round-ended w h d (on-end (store_of t) level n r true h d z (λ e i. b.none (let v = length-take n.entries.n n.entries.list in omega arith) e i))

-- from I alone
pub post-insert : {t s map : List ℕ} {level : ℕ} {n : NodeValue} {r : Round} (x : Spot) → Workable t s map n level → n.points.n < 32 → InsertMoved n x r → Highest (held n.inserts) x
    → ((d : Entry) → Memᴰ d (entries_of n.entries) → (d.size ≡ 0 → ⊥) → rank_key d.top < rank_key x.key) → RoundDone t t s map level n r
post-insert {t} {level = level} {n = n} {r = r} x w h u g tops = round-lifted w h u.lifted (on-insert (store_of t) level n r x h u g tops)

-- no child has points
pub tops-bare : (n : NodeValue) (c : ℕ) {a : ℕ} → BestChild (entries_of n.entries) c → n.entries.n ≤ c → (d : Entry) → Memᴰ d (entries_of n.entries) → (d.size ≡ 0 → ⊥) → rank_key d.top < a
tops-bare n c b g d i m = absurd (m (b.none (let z = length-take n.entries.n n.entries.list in omega arith) d i))

-- or their tops are lower
pub tops-lower : {n : NodeValue} {c : ℕ} {e : Entry} {s : Spot} → Compared n c e s → e.top < all_keys → s.key < all_keys → rank_key e.top ≤ rank_key s.key → (s.key ≡ e.top → ⊥)
    → (d : Entry) → Memᴰ d (entries_of n.entries) → (d.size ≡ 0 → ⊥) → rank_key d.top < rank_key s.key
tops-lower {n} {c} {e} {s} m g h l x d i some =
    let u = (best-at (entries_of n.entries) c e m.entry m.best).1 d i some in
    let v = rank-strict e.top s.key g h (λ q. x (sym q)) l in
    omega arith

pub deeper : (level : ℕ) → (level ≡ 0 → ⊥) → level ≡ suc (level - 1)
deeper level inner = omega (arith, inner)

-- a child's top could not be taken
pub post-failed : {t s map t' s' map' : List ℕ} {level : ℕ} {n : NodeValue} {c : ℕ} {e : Entry} {x : Failure} → Workable t s map n level → (level ≡ 0 → ⊥)
    → Kept t s map t' s' map' → EntryAt (entries_of n.entries) c e → BestChild (entries_of n.entries) c → TakeFailed t t' s' map' (level - 1) e x → RoundFailed t t' s' map' level n x
post-failed {t} {level = level} {n = n} {c = c} {e = e} {x = x} w inner k a b p =
    round-failed w k (
    subst⁻¹ (λ (v : ℕ). OnLoop (store_of t) v n (λ ni nd lo hi x₀ es₀ f. x ≡ NoRoom)) (deeper level inner) (
    λ ni nd lo hi rank x₀ es₀ f legal zero₀ q.
    let s = child-ready (store_of t) (level - 1) n c e a b ni nd lo hi rank x₀ es₀ f legal zero₀ q in
    p.whole _ _ s.order s.legal s.low s.sound
    )
    )

-- it was taken
module _ {t s map t' s' map' : List ℕ} {level : ℕ} {n m : NodeValue} {c : ℕ} {e : Entry} {took : Took} (w : Workable t s map n level) (less : n.points.n < 32) (inner : level ≡ 0 → ⊥)
    (k : Kept t s map t' s' map') (a : EntryAt (entries_of n.entries) c e) (p : TakeDone t t' s' map' (level - 1) e took) (q : Replaced n c took.entry m) where
  pub post-child : {r : Round} → ChildHighest n c → ChildMoved m took.spot r → RoundDone t t' s' map' level n r
  post-child {r} h u =
      round-taken w less k a p.block p.low p.fits q u.lifted
      (subst⁻¹ (λ (v : ℕ). GoesOn (store_of t) (store_of t') v n r.node r.over) (deeper level inner)
      (on-child (store_of t) (level - 1) n c e a h.best (store_of t') m took r less p.block p.low p.done q u.lifted.entries u (h.above e a)))

  pub post-both : {r : Round} (x : Spot) → BothHighest n c x → InsertMoved m x r → RoundDone t t' s' map' level n r
  post-both {r} x h u =
      round-taken w less k a p.block p.low p.fits q u.lifted
      (subst⁻¹ (λ (v : ℕ). GoesOn (store_of t) (store_of t') v n r.node r.over) (deeper level inner)
      (on_both (store_of t) (level - 1) n c e a h.best (store_of t') m took r less p.block p.low p.done q u.lifted.entries x u h.highest (h.same e a)))

-- ---- a whole round

-- the tables are the same ones
round-as : {t s map t' s' map' : List ℕ} (level : ℕ) (n : NodeValue) (r : Result Round Failure) → t' ≡ t → s' ≡ s → map' ≡ map → RoundPost t t s map level n r → RoundPost t t' s' map' level n r
round-as {t} {s} {map} {t'} {s'} {map'} level n r a b c q =
    subst⁻¹ (λ (x : List ℕ). RoundPost t x s' map' level n r) a (subst⁻¹ (λ (x : List ℕ). RoundPost t t x map' level n r) b (subst⁻¹ (λ (x : List ℕ). RoundPost t t s x level n r) c q))

module _ {t s map t' s' map' : List ℕ} {level : ℕ} {n : NodeValue} (w : Workable t s map n level) (less : n.points.n < 32) (k : Kept t s map t' s' map') where
  insert-done : (r : Result Round Failure) (x : Spot) → t' ≡ t → s' ≡ s → map' ≡ map → InsertHighest n x → InsertUp n x r → RoundPost t t' s' map' level n r
  insert-done (Ok r) x a b c i u = round-as level n (Ok r) a b c (post-insert x w less u i.highest i.tops)
  insert-done (Err e) x a b c i u = round-failed w k (λ ni nd lo hi rank x₀ es₀ f legal zero₀ q. u)

  both-done : (r : Result Round Failure) (x : Below) (y : Fetched) (v : Spot) → (level ≡ 0 → ⊥) → EntryAt (entries_of n.entries) x.child x.entry → y.child ≡ x.child
      → TakeDone t t' s' map' (level - 1) x.entry y.took → BothHighest n x.child v → TakenUp n y (λ m. InsertUp m v r) → RoundPost t t' s' map' level n r
  both-done (Ok r) x y v inner a same p h u = post-both w less inner k a p (subst (λ (c : ℕ). Replaced n c y.took.entry u.next) same u.replaced) v h u.up
  both-done (Err e) x y v inner a same p h u = round-failed w k (λ ni nd lo hi rank x₀ es₀ f legal zero₀ q. u.up)

  child-done : (r : Result Round Failure) (x : Below) (y : Fetched) → (level ≡ 0 → ⊥) → EntryAt (entries_of n.entries) x.child x.entry → y.child ≡ x.child
      → TakeDone t t' s' map' (level - 1) x.entry y.took → ChildHighest n x.child → TakenUp n y (λ m. ChildUp m y.took.spot r) → RoundPost t t' s' map' level n r
  child-done (Ok r) x y inner a same p h u = post-child w less inner k a p (subst (λ (c : ℕ). Replaced n c y.took.entry u.next) same u.replaced) h u.up
  child-done (Err e) x y inner a same p h u = round-failed w k (λ ni nd lo hi rank x₀ es₀ f legal zero₀ q. u.up)

  pub round-done : (below : maybe.Option Below) (waits : maybe.Option Spot) (y : maybe.Option Fetched) (r : Result Round Failure) → PlannedAs n below waits
      → FetchPost t s map t' s' map' level below (Ok y) → CarryPost n y waits r → RoundPost t t' s' map' level n r
  round-done None waits (Some y) r pl f c = absurd f
  round-done None None None r pl f c =
      let i = pl.1 in
      round-as level n r f.0 f.1 f.2 (subst⁻¹ (λ (v : Result Round Failure). RoundPost t t s map level n v) c.is (post-end pl.0 w less c.edited i.bare i.best i.outside))
  round-done None (Some v) None r pl f c = insert-done r v f.0 f.1 f.2 pl c
  round-done (Some x) waits None r pl f c = ⊎_elim (λ (q : level ≡ 0). absurd (f.leaf q)) (λ (q : level ≡ 0 → ⊥). absurd (f.taken q)) (same_or_not level 0)
  round-done (Some x) None (Some y) r pl f c =
      ⊎_elim (λ (q : level ≡ 0). absurd (f.leaf q)) (λ (q : level ≡ 0 → ⊥). child-done r x y q pl.0 (f.taken q).0 (f.taken q).1 pl.1 c) (same_or_not level 0)
  round-done (Some x) (Some v) (Some y) r pl f c =
      ⊎_elim (λ (q : level ≡ 0). absurd (f.leaf q)) (λ (q : level ≡ 0 → ⊥). both-done r x y v q pl.0 (f.taken q).0 (f.taken q).1 pl.1 c) (same_or_not level 0)

  -- nothing could be taken out
  pub round-stopped : (below : maybe.Option Below) (waits : maybe.Option Spot) {e : Failure} → PlannedAs n below waits → FetchPost t s map t' s' map' level below (Err e) → RoundFailed t t' s' map' level n e
  round-stopped None waits pl f = absurd f
  round-stopped (Some x) waits {e} pl f =
      ⊎_elim (λ (q : level ≡ 0). round-failed w k (λ ni nd lo hi rank x₀ es₀ g legal zero₀ v. f.leaf q))
      (λ (q : level ≡ 0 → ⊥). post-failed w q k (at waits pl).0 (at waits pl).1 (f.taken q)) (same_or_not level 0)
    where
      at : (waits : maybe.Option Spot) → PlannedAs n (Some x) waits → EntryAt (entries_of n.entries) x.child x.entry × BestChild (entries_of n.entries) x.child
      at None p = (p.0, p.1.best)
      at (Some v) p = (p.0, p.1.best)
