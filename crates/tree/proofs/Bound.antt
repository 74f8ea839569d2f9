-- The bound on blocks read. On a sound table, the points of the nodes read that have a read child and lie wholly in the report's places are pairwise
-- distinct, and each is reported or is among the deletes of such a node: so they are counted against the spots reported.
-- Assumes nothing.
use mathlib.Core.Path.{◌≡◌, refl, ap, sym, ◌∙◌}
use mathlib.Core.Logic.{◌⊎◌, inl, inr, ⊎_elim}
use mathlib.Core.Bool.{Bool, true, false, cond, false≢true}
use mathlib.Core.List.Memᴰ
use mathlib.Core.List.{List, [], ◌∷◌, ◌++◌, Memᴰ}
use mathlib.Core.Option.{Option, none, some}
use Prim.Native.Nat.{ℕ, zero, suc, ◌+◌, ◌*◌, ◌/◌, ◌≤◌, ◌<◌}
use native.Mathlib.Nat.{mul-le-mul_right}
use native.Mathlib.Omega.{arith}
use lib.ListN.{length, length-append, length-reverse_aux}
use lib.Dec.{eqb}
use borrow.Author.Tests.{leb-true, ltb-true}
use Rattle.octets.specs.Lists.{every, keep, has, distinct}
use Rattle.octets.proofs.Tests.{all-at, and_left, and_right, every-mem, keep-passes, keep-in, keep-length}
use Rattle.octets.proofs.Order.{same_or_not}
use Rattle.octets.proofs.Sets.{distinct-left, every-has, mem-has, has-mem}
use Rattle.octets.proofs.Once.{Once, fewer, once-append, once-distinct}
use Rattle.spot.specs.Spots.{keys, find}
use Rattle.spot.specs.Keys.{rank_key, rank_of, all_keys, within}
use Rattle.spot.specs.declared.Query.{Query}
use Rattle.spot.specs.Query.{least_of, wants_key, meets}
use Rattle.spot.proofs.Canon.{find-only}
use Rattle.spot.proofs.Buffers.{keys_length}
use Rattle.spot.proofs.Places.{within-yes, within-high, within-from, within-to, cuts, cuts-join, cuts-small, meets_at, meets-some, uncut, wants-yes}
use Rattle.spot.proofs.Halves.{rank_up}
use Rattle.block.specs.declared.Entry.{Entry}
use Rattle.block.specs.Node.{Node, Store, store_of}
use Rattle.block.specs.Header.{head_of}
use Rattle.block.specs.declared.Asked.TheVariants.{Child}
use Rattle.block.specs.NodeRules.{names, tops, filled, points_above}
use Rattle.block.proofs.Facts.{node-facts}
use Rattle.tree.specs.Part.{Part, whole, next_low, parts, children, Steps}
use Rattle.tree.specs.Lookup.{or_else, down, lookup, live, is_live}
use Rattle.tree.specs.Reach.{gather}
use Rattle.tree.specs.Sound.{sound_at, sound}
use Rattle.tree.specs.Walk.{Walk, spots, blocks_read, is_broken, topped, admits, walk_table, live_spots}
use Rattle.tree.specs.ReadMap.{read_map, ones}
use Rattle.tree.specs.Trace.{visits}
use Rattle.tree.proofs.Below.{Under, node-sound, under-point, under-lower, entry_top, filled-by, has-child, tops-mem}
use Rattle.tree.proofs.Ranges.{parts-mem, next_le, steps_of, part-bounds, parts-length}
use Rattle.tree.proofs.Live.{topped-size, topped-rank, node-rules}
use Rattle.tree.proofs.Says.{has-keys, names-P}
use Rattle.tree.proofs.Tables.{sound-tree, live-finds, report-finds}
use Rattle.tree.proofs.Onto.{onto}
use Rattle.tree.proofs.Marks.{ones-few}
use Rattle.tree.proofs.Traces.{whole-reads}

-- what is known of a point counted: it is wanted, no higher than `High` says, and live in its part or among the deletes counted
record Owed (q : Query) (lo hi : ℕ) (look : ℕ → Option ℕ) (High : ℕ → Type 0) (ds : List ℕ) (k : ℕ) : Type 0 where
  place : within lo hi k ≡ true
  wanted : wants_key q k ≡ true
  high : High k
  seen : (is_live (look k) ≡ true) ⊎ Memᴰ k ds

-- the account of a range whose parts have l levels: `inner` nodes read have a read child; `ps` are the points of those that the query doesn't cut, `ds`
-- the deletes of all; n blocks are read, of which `heads` are uppermost ones
record Bill (q : Query) (lo hi : ℕ) (look : ℕ → Option ℕ) (High : ℕ → Type 0) (l heads n : ℕ) : Type 0 where
  inner : ℕ
  ps : List ℕ
  ds : List ℕ
  once : Once ps
  owed : (k : ℕ) → Memᴰ k ps → Owed q lo hi look High ds k
  few : length ds ≤ 16 * inner
  paid : 32 * inner ≤ length ps + 32 * (cuts q lo hi * l)
  read : n ≤ heads + 8 * inner

-- nothing below is read
bill-none : (q : Query) (lo hi : ℕ) (look : ℕ → Option ℕ) (High : ℕ → Type 0) (l heads n : ℕ) → n ≤ heads → Bill q lo hi look High l heads n
bill-none q lo hi look High l heads n h =
    record { inner = 0; ps = []; ds = []; once = tt; owed = λ k j. absurd (Memᴰ.not-nil j); few = omega arith; paid = omega arith; read = omega arith }

-- two ranges side by side
module _ (q : Query) (lo mid hi : ℕ) (lm : lo ≤ mid) (mh : mid ≤ hi) (first second : ℕ → Option ℕ) (A B C : ℕ → Type 0) (l h i n o heads total : ℕ) (ac : (k : ℕ) → A k → C k) (bc : (k : ℕ) → B k → C k) where
  bill-join : Bill q lo mid first A l h n → Bill q mid hi second B l i o → h + i ≤ heads → total ≤ n + o
      → Bill q lo hi (λ k. cond (within lo mid k) (first k) (second k)) C l heads total
  bill-join a b hs ns =
      record {
        inner = a.inner + b.inner;
        ps = a.ps ++ b.ps;
        ds = a.ds ++ b.ds;
        once = once-append a.ps b.ps a.once b.once
            (λ k x y. omega (arith, within-to lo mid k (a.owed k x).place, within-from mid hi k (b.owed k y).place));
        owed = λ k j. ⊎_elim (λ x. left k (a.owed k x)) (λ y. right k (b.owed k y)) (Memᴰ.append_cases a.ps j);
        few = omega (arith, a.few, b.few, length-append a.ds b.ds);
        paid = omega (arith, a.paid, b.paid, length-append a.ps b.ps, mul-le-mul_right l (cuts-join q lo mid hi lm mh));
        read = omega (arith, a.read, b.read);
      }
    where
      left : (k : ℕ) → Owed q lo mid first A a.ds k → Owed q lo hi (λ k. cond (within lo mid k) (first k) (second k)) C (a.ds ++ b.ds) k
      left k x =
          record {
            place = within-yes lo hi k (within-from lo mid k x.place) (omega (arith, within-to lo mid k x.place));
            wanted = x.wanted;
            high = ac k x.high;
            seen = ⊎_elim (λ s. inl (rw x.place s)) (λ s. inr (Memᴰ.append_left b.ds s)) x.seen;
          }

      right : (k : ℕ) → Owed q mid hi second B b.ds k → Owed q lo hi (λ k. cond (within lo mid k) (first k) (second k)) C (a.ds ++ b.ds) k
      right k x =
          record {
            place = within-yes lo hi k (omega (arith, within-from mid hi k x.place)) (within-to mid hi k x.place);
            wanted = x.wanted;
            high = bc k x.high;
            seen = ⊎_elim (λ s. inl (rw (within-past k (within-from mid hi k x.place)) s)) (λ s. inr (Memᴰ.append_right a.ds s)) x.seen;
          }
        where
          within-past : (k : ℕ) → mid ≤ k → within lo mid k ≡ false
          within-past k g = within-high lo mid k g

-- no higher than the top of one of these entries
abbrev UnderTops : List Entry → ℕ → Type 0
UnderTops es k = (t : ℕ) × Memᴰ t (tops es) × (rank_key k ≤ rank_key t)

tops-later : (e : Entry) (es : List Entry) {t : ℕ} → Memᴰ t (tops es) → Memᴰ t (tops (e ∷ es))
tops-later e es {t} k = go (eqb e.size 0)
  where
    go : (b : Bool) → Memᴰ t (cond b (tops es) (e.top ∷ tops es))
    go true = k
    go false = Memᴰ.tail k

-- the children, from left to right
module _ (q : Query) (l : ℕ) (m : Store) (deeper : (c : Part) → sound_at l m c ≡ true → c.lo ≤ c.hi → Bill q c.lo c.hi (λ k. lookup l m k c) (λ k. Under k (m c.block)) l 1 (length (visits l m q c))) where
  abbrev Children : List Entry → ℕ → ℕ → Type 0
  Children es lo hi =
      Bill q lo hi (λ k. down (lookup l m k) k (parts lo hi es)) (UnderTops es) l (length (keep (admits q) (parts lo hi es)))
      (length (gather (visits l m q) (keep (admits q) (parts lo hi es))))

  children-bill : (es : List Entry) (lo hi : ℕ) → Steps lo hi es → every (sound_at l m) (parts lo hi es) ≡ true → Children es lo hi
  children-bill [] lo hi ch s = bill-none q lo hi _ _ l 0 0 (omega arith)
  children-bill (e ∷ es) lo hi ch s =
      go (admits q c) (children-bill es mid hi ch.1 (and_right (sound_at l m c) (every (sound_at l m) (parts mid hi es)) s))
    where
      mid : ℕ
      mid = next_low es hi

      c : Part
      c = record { block = e.block; asked = Child e; lo = lo; hi = mid }

      later : List Part
      later = keep (admits q) (parts mid hi es)

      first : lo ≤ mid
      first = ch.0

      last : mid ≤ hi
      last = next_le hi es ch.1

      sound-c : sound_at l m c ≡ true
      sound-c = and_left (sound_at l m c) (every (sound_at l m) (parts mid hi es)) s

      under : (k : ℕ) → Under k (m c.block) → UnderTops (e ∷ es) k
      under k u =
          let t = entry_top e (m c.block) (node-sound l m c sound-c).entry u.held in
          (e.top, tops-mem (e ∷ es) (Memᴰ.head refl) t.0, omega (arith, t.1, u.below))

      under-later : (k : ℕ) → UnderTops es k → UnderTops (e ∷ es) k
      under-later k u = (u.0, tops-later e es u.1, u.2)

      joined : (h n heads total : ℕ) → Bill q lo mid (λ k. lookup l m k c) (λ k. Under k (m c.block)) l h n → Children es mid hi → h + length later ≤ heads
          → total ≤ n + length (gather (visits l m q) later)
          → Bill q lo hi (λ k. down (lookup l m k) k (c ∷ parts mid hi es)) (UnderTops (e ∷ es)) l heads total
      joined h n heads total a ih hs ns =
          bill-join q lo mid hi first last (λ k. lookup l m k c) (λ k. down (lookup l m k) k (parts mid hi es)) _ _ _ l h _ n _ heads total under under-later a ih hs ns

      go : (b : Bool) → Children es mid hi
          → Bill q lo hi (λ k. down (lookup l m k) k (c ∷ parts mid hi es)) (UnderTops (e ∷ es)) l (length (cond b (c ∷ later) later))
          (length (gather (visits l m q) (cond b (c ∷ later) later)))
      go true ih =
          joined 1 (length (visits l m q c)) _ _ (deeper c sound-c first) ih (omega arith) (omega (arith, length-append (visits l m q c) (gather (visits l m q) later)))
      go false ih = joined 0 0 _ _ (bill-none q lo mid _ _ l 0 0 (omega arith)) ih (omega arith) (omega arith)

-- at most eight children
few-children : (l : ℕ) (m : Store) (p : Part) → sound_at (suc l) m p ≡ true → length (m p.block).entries ≤ 8
unfolding sound_at
few-children l m p s = (node-facts l p.asked (m p.block) (all-at _ s 0)).entries-most

-- what an admitted child shows of its parent
record Inner (q : Query) (p : Part) (n : Node) : Type 0 where
  full : filled n ≡ true
  high : (k : ℕ) → Memᴰ k (keys n.points) → least_of q ≤ rank_of k
  met : meets q p.lo p.hi ≡ true

-- a point lies above the tops of the children
above-tops : (n : Node) (k t : ℕ) → points_above n ≡ true → Memᴰ k (keys n.points) → Memᴰ t (tops n.entries) → rank_key t < rank_key k
unfolding points_above
above-tops n k t a j i =
    ltb-true (rank_key t) (rank_key k) (every-mem _ _ (every-mem _ _ a j) (Memᴰ.append_right (keys n.inserts ++ n.deletes) i))

inner-node : (q : Query) (l : ℕ) (m : Store) (p : Part) → sound_at (suc l) m p ≡ true → Steps p.lo p.hi (m p.block).entries
    → {c : Part} → Memᴰ c (keep (admits q) (children p (m p.block)))
    → Inner q p (m p.block)
unfolding admits
inner-node q l m p s ch {c} k =
    let n = m p.block in
    let ok = node-sound (suc l) m p s in
    let a = keep-passes (admits q) (children p n) k in
    let j = keep-in (admits q) (children p n) k in
    let e = parts-mem p.lo p.hi n.entries j in
    let r = part-bounds p.lo p.hi n.entries ch j in
    let x = meets-some q c.lo c.hi (all-at _ a 1) in
    let t : topped q (Child e.0) ≡ true = ap (topped q) (sym e.2) ∙ all-at _ a 0 in
    let i = tops-mem n.entries e.1 (topped-size q e.0 t) in
    record {
      full = filled-by n ok.sizes (has-child n e.1 (topped-size q e.0 t));
      high = λ x h. omega (arith, topped-rank q e.0 t, rank_up e.0.top x (above-tops n x e.0.top ok.above h i));
      met = meets_at q p.lo p.hi x.0 (within-yes p.lo p.hi x.0 (omega (arith, r.0, within-from c.lo c.hi x.0 x.1)) (omega (arith, r.1, within-to c.lo c.hi x.0 x.1))) x.2;
    }

-- what is live below a node is live there, or among its deletes
live-over : (points inserts : Option ℕ) (gone : Bool) (below : Option ℕ) → is_live below ≡ true
    → (is_live (or_else points (or_else inserts (cond gone none below))) ≡ true) ⊎ (gone ≡ true)
live-over (some a) inserts gone below h = inl refl
live-over none (some a) gone below h = inl refl
live-over none none true below h = inr refl
live-over none none false below h = inl h

live-point : (points : Option ℕ) (other : Option ℕ) → is_live points ≡ true → is_live (or_else points other) ≡ true
live-point (some a) other h = refl
live-point none other h = absurd (false≢true h)

filled-points : (n : Node) → filled n ≡ true → 32 ≤ length n.points
unfolding filled
filled-points n h = leb-true 32 (length n.points) (all-at _ h 0)

filled-deletes : (n : Node) → filled n ≡ true → length n.deletes ≤ 16
unfolding filled
filled-deletes n h = leb-true (length n.deletes) 16 (all-at _ h 3)

points-once : (n : Node) → distinct (names n) ≡ true → Once (keys n.points)
unfolding names
points-once n h = once-distinct (keys n.points) (distinct-left (keys n.points) (keys n.inserts) (distinct-left (keys n.points ++ keys n.inserts) n.deletes h))

-- a node with a child that is read
module _ (q : Query) (l : ℕ) (m : Store) (p : Part) (s : sound_at (suc l) m p ≡ true) (i : Inner q p (m p.block)) where
  abbrev below : ℕ → Option ℕ
  below k = down (lookup l m k) k (children p (m p.block))

  -- a point of the children's account
  owed-below : (ds : List ℕ) (k : ℕ) → Owed q p.lo p.hi below (UnderTops (m p.block).entries) ds k
      → Owed q p.lo p.hi (λ j. lookup (suc l) m j p) (λ j. Under j (m p.block)) ((m p.block).deletes ++ ds) k
  unfolding lookup
  owed-below ds k o =
      let n = m p.block in
      let u = o.high in
      let v = under-lower n u.0 i.full (node-sound (suc l) m p s).above (Memᴰ.append_right (keys n.inserts ++ n.deletes) u.1) in
      record {
        place = o.place;
        wanted = o.wanted;
        high = record { held = v.held; below = omega (arith, v.below, u.2) };
        seen =
            ⊎_elim
            (λ x. ⊎_elim (λ y. inl y) (λ y. inr (Memᴰ.append_left ds (has-mem k n.deletes y))) (live-over (find k n.points) (find k n.inserts) (has k n.deletes) (below k) x))
            (λ x. inr (Memᴰ.append_right n.deletes x))
            o.seen;
      }

  -- a point of this node, if the query doesn't cut its range
  owed-here : (ds : List ℕ) → cuts q p.lo p.hi ≡ 0 → (k : ℕ) → Memᴰ k (keys (m p.block).points)
      → Owed q p.lo p.hi (λ j. lookup (suc l) m j p) (λ j. Under j (m p.block)) ds k
  unfolding lookup
  owed-here ds z k h =
      let n = m p.block in
      let w = every-has (within p.lo p.hi) k (names n) (node-rules l m p s).place (mem-has k (names n) (names-P n h)) in
      record {
        place = w;
        wanted = wants-yes q k (uncut q p.lo p.hi z i.met k w) (i.high k h);
        high = under-point n h;
        seen = inl (live-point (find k n.points) _ (sym (has-keys k n.points) ∙ mem-has k (keys n.points) h));
      }

  -- the account with this node's
  bill-node : (heads total : ℕ) → heads ≤ 8 → Bill q p.lo p.hi below (UnderTops (m p.block).entries) l heads total
      → Bill q p.lo p.hi (λ j. lookup (suc l) m j p) (λ j. Under j (m p.block)) (suc l) 1 (suc total)
  bill-node heads total h b =
      ⊎_elim
      (λ (z : cuts q p.lo p.hi ≡ 0).
      record {
        inner = suc b.inner;
        ps = keys n.points ++ b.ps;
        ds = n.deletes ++ b.ds;
        once = once-append (keys n.points) b.ps (points-once n (node-rules l m p s).once) b.once apart;
        owed = λ k j. ⊎_elim (λ x. owed-here (n.deletes ++ b.ds) z k x) (λ x. owed-below b.ds k (b.owed k x)) (Memᴰ.append_cases (keys n.points) j);
        few = few-node;
        paid = omega (arith, b.paid, length-append (keys n.points) b.ps, keys_length n.points, filled-points n i.full);
        read = read-node;
      })
      (λ (z : cuts q p.lo p.hi ≡ 0 → ⊥).
      record {
        inner = suc b.inner;
        ps = b.ps;
        ds = n.deletes ++ b.ds;
        once = b.once;
        owed = λ k j. owed-below b.ds k (b.owed k j);
        few = few-node;
        paid = omega (arith, b.paid);
        read = read-node;
      })
      (same_or_not (cuts q p.lo p.hi) 0)
    where
      n : Node
      n = m p.block

      few-node : length (n.deletes ++ b.ds) ≤ 16 * suc b.inner
      few-node = omega (arith, b.few, length-append n.deletes b.ds, filled-deletes n i.full)

      read-node : suc total ≤ 1 + 8 * suc b.inner
      read-node = omega (arith, b.read)

      apart : (k : ℕ) → Memᴰ k (keys n.points) → Memᴰ k b.ps → ⊥
      apart k x y =
          let u = (b.owed k y).high in
          omega (arith, u.2, above-tops n k u.0 (node-sound (suc l) m p s).above x u.1)

-- a part of a sound tree
part-bill : (q : Query) (l : ℕ) (m : Store) (p : Part) → sound_at l m p ≡ true → p.lo ≤ p.hi
    → Bill q p.lo p.hi (λ k. lookup l m k p) (λ k. Under k (m p.block)) l 1 (length (visits l m q p))
unfolding sound_at visits
part-bill q zero m p s h = absurd (false≢true s)
part-bill q (suc l) m p s h = go (keep (admits q) (children p n)) (λ c k. k) (keep-length (admits q) (children p n))
    (children-bill q l m (λ c s' h'. part-bill q l m c s' h') n.entries p.lo p.hi ch (all-at _ s 2))
  where
    n : Node
    n = m p.block

    ch : Steps p.lo p.hi n.entries
    ch = steps_of l p n h (all-at _ s 0) (all-at _ s 1)

    go : (cs : List Part) → ((c : Part) → Memᴰ c cs → Memᴰ c (keep (admits q) (children p n))) → length cs ≤ length (children p n)
        → Bill q p.lo p.hi (λ k. down (lookup l m k) k (children p n)) (UnderTops n.entries) l (length cs) (length (gather (visits l m q) cs))
        → Bill q p.lo p.hi (λ k. lookup (suc l) m k p) (λ k. Under k n) (suc l) 1 (suc (length (gather (visits l m q) cs)))
    go [] f e b = bill-none q p.lo p.hi _ _ (suc l) 1 1 (omega arith)
    go (c ∷ cs) f e b =
        bill-node q l m p s (inner-node q l m p s ch (f c (Memᴰ.head refl))) (length (c ∷ cs)) (length (gather (visits l m q) (c ∷ cs)))
        (omega (arith, e, parts-length p.lo p.hi n.entries, few-children l m p s))
        b

levels-some : (l : ℕ) (m : Store) (p : Part) → sound_at l m p ≡ true → 1 ≤ l
unfolding sound_at
levels-some zero m p s = absurd (false≢true s)
levels-some (suc l) m p s = omega arith

module _ (t : List ℕ) (s : sound t ≡ true) (q : Query) where
  -- what is read of a sound table, in the order of reading
  pub table-reads : blocks_read (walk_table t q) ≡ onto (visits (head_of t).levels (store_of t) q (whole (head_of t))) []
  table-reads = whole-reads t q (ap is_broken (report-finds t s q).1)

  reported : (k : ℕ) → wants_key q k ≡ true → is_live (live t k) ≡ true → Memᴰ k (keys (spots (walk_table t q)))
  reported k w l =
      let e : find k (spots (walk_table t q)) ≡ live t k = ap (λ (v : Walk). find k (spots v)) (report-finds t s q).1 ∙ find-only (wants_key q) k (live_spots t) ∙ rw (w, live-finds t s k) in
      has-mem k (keys (spots (walk_table t q))) (has-keys k (spots (walk_table t q)) ∙ ap is_live e ∙ l)

  -- 01: "On a sound table a Report marks at most 1 + 36h + 9 · (spots reported div 16)"
  pub report-bound : ones (read_map (blocks_read (walk_table t q))) ≤ 1 + 36 * (head_of t).levels + 9 * (length (spots (walk_table t q)) / 16)
  unfolding live
  report-bound =
      omega (
        arith,
        ones-few (blocks_read (walk_table t q)),
        ap length table-reads,
        length-reverse_aux (visits (head_of t).levels (store_of t) q (whole (head_of t))) [],
        b.read,
        b.paid,
        b.few,
        counted,
        length-append (keys (spots (walk_table t q))) b.ds,
        keys_length (spots (walk_table t q)),
        mul-le-mul_right (head_of t).levels (cuts-small q 0 all_keys),
        levels-some (head_of t).levels (store_of t) (whole (head_of t)) (sound-tree t s),
      )
    where
      b : Bill q 0 all_keys (λ k. lookup (head_of t).levels (store_of t) k (whole (head_of t))) (λ k. Under k (store_of t (head_of t).root)) (head_of t).levels 1
          (length (visits (head_of t).levels (store_of t) q (whole (head_of t))))
      b = part-bill q (head_of t).levels (store_of t) (whole (head_of t)) (sound-tree t s) (omega arith)

      counted : length b.ps ≤ length (keys (spots (walk_table t q)) ++ b.ds)
      counted =
          fewer b.ps (keys (spots (walk_table t q)) ++ b.ds) b.once
          (λ k j. let o = b.owed k j in ⊎_elim (λ x. Memᴰ.append_left b.ds (reported k o.wanted x)) (λ x. Memᴰ.append_right (keys (spots (walk_table t q))) x) o.seen)
