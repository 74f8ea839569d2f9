-- Between the rules of a node as tests and its buffers as facts (Ready): what a sound node gives, and what makes a node sound.
-- Assumes nothing.
use mathlib.Core.Path.{◌≡◌, refl, ap, sym, ◌∙◌}
use mathlib.Core.Logic.{⊎_elim}
use mathlib.Core.Bool.{true, false≢true}
use mathlib.Core.List.Memᴰ
use mathlib.Core.List.{List, [], ◌∷◌, ◌++◌, Memᴰ}
use mathlib.Core.Option.{Option, none, some, some-ne-none}
use Prim.Native.Nat.{ℕ, zero, suc, ◌<◌, ◌≤◌}
use native.Mathlib.Omega.{arith}
use borrow.Author.Tests.{eqb-true, ltb-true, lt-ltb}
use Rattle.octets.specs.Lists.{every}
use Rattle.octets.proofs.Tests.{all-at, all_cons, all_nil, every-mem, every-make}
use Rattle.octets.proofs.Sets.{distinct-split, distinct-join}
use Rattle.octets.proofs.Rising.{rising-distinct}
use Rattle.spot.specs.Spots.{keys}
use Rattle.spot.specs.Keys.{rank_key, within, limited}
use Rattle.spot.proofs.Buffers.{mem-find}
use Rattle.block.specs.declared.Entry.{Entry}
use Rattle.block.specs.Node.{Node, Store}
use Rattle.block.specs.declared.Asked.TheVariants.{Child}
use Rattle.block.specs.NodeRules.{names, node_ok, buffers_rise, named_once, points_above, lowest, tops, agrees, extremes}
use Rattle.block.proofs.Facts.{node-facts}
use Rattle.block.proofs.Extremes.{Shows, extremes-inside}
use Rattle.tree.specs.Part.{Part, next_low, parts, children, Steps}
use Rattle.tree.specs.Lookup.{down, lookup}
use Rattle.tree.specs.Sound.{sound_at, in_range}
use Rattle.tree.proofs.Says.{names-P, names-I, names-D}
use Rattle.tree.proofs.Entries.{agree-held, agree-top, agree-bottom}
use Rattle.tree.proofs.Below.{node-sound, tops-mem, tops-from, live-top, sizes-none, has-insert, has-delete}
use Rattle.tree.proofs.Ranges.{down-at}
use Rattle.update_theory.specs.Change.{part}
use Rattle.update_theory.specs.Open.{NodeReady}
use Rattle.update_theory.proofs.Loose.{lookup-step}

-- what is found below a node in memory
abbrev pub beneath : ℕ → Store → Part → Node → ℕ → Option ℕ
beneath l m p n k = down (lookup l m k) k (children p n)

-- the rules of a node, apart from sizes and from what leads there
pub record Rules (l : ℕ) (p : Part) (n : Node) : Type 0 where
  pub rises : buffers_rise n ≡ true
  pub once : named_once n ≡ true
  pub above : points_above n ≡ true
  pub inside : (k : ℕ) → Memᴰ k (names n) → within p.lo p.hi k ≡ true

-- a node that keeps all rules keeps these
pub rules-of : (l : ℕ) (p : Part) (n : Node) → node_ok l p.asked n ≡ true → in_range p n ≡ true → Rules l p n
unfolding node_ok in_range
rules-of l p n a b = record { rises = all-at _ a 3; once = all-at _ a 4; above = all-at _ a 6; inside = λ k i. every-mem _ _ (all-at _ b 0) i }

-- an entry leads to a part
entry-part : (lo hi : ℕ) (es : List Entry) {e : Entry} → Memᴰ e es → (c : Part) × Memᴰ c (parts lo hi es) × (c.asked ≡ Child e)
entry-part lo hi [] i = absurd (Memᴰ.not-nil i)
entry-part lo hi (x ∷ es) {e} i =
    ⊎_elim (λ h. (part x.block (Child x) lo (next_low es hi), Memᴰ.head refl, ap Child (sym h)))
    (λ j. let r = entry-part (next_low es hi) hi es j in (r.0, Memᴰ.tail r.1, r.2))
    (Memᴰ.cases_cons i)

-- a key of a sound part's P is live there, and in its range
pub point-live : (l : ℕ) (m : Store) (c : Part) → sound_at l m c ≡ true → (t : ℕ) → Memᴰ t (keys (m c.block).points)
    → ((a : ℕ) × (lookup l m t c ≡ some a)) × (within c.lo c.hi t ≡ true)
unfolding sound_at in_range
point-live zero m c s t i = absurd (false≢true s)
point-live (suc l) m c s t i =
    let f = mem-find t (m c.block).points i in
    ((f.0, lookup-step l m t c ∙ rw f.1), every-mem _ _ (all-at _ (all-at _ s 1) 0) (names-P (m c.block) i))

-- an entry's top is the highest point of its child
pub record Top (l : ℕ) (m : Store) (c : Part) (t : ℕ) : Type 0 where
  pub point : Memᴰ t (keys (m c.block).points)
  pub inside : within c.lo c.hi t ≡ true
  pub track : ℕ
  pub live : lookup l m t c ≡ some track

-- where the entry has points
pub top_of : (l : ℕ) (m : Store) (c : Part) (e : Entry) → c.asked ≡ Child e → sound_at l m c ≡ true → (e.size ≡ 0 → ⊥) → Top l m c e.top
top_of l m c e a s z =
    let n = m c.block in
    let g : agrees (Child e) n ≡ true = rw a at (node-sound l m c s).entry in
    let i = (agree-top e n g (agree-held e n g z)).0 in
    let v = point-live l m c s e.top i in
    record { point = i; inside = v.1; track = v.0.0; live = v.0.1 }

-- what an entry shows of a sound part's P, the part names, so it lies inside the limits
shows : (l : ℕ) (m : Store) (c : Part) (e : Entry) → c.asked ≡ Child e → sound_at l m c ≡ true → (e.size ≡ 0 → ⊥) → Shows e
unfolding sound_at
shows zero m c e a s z = absurd (false≢true s)
shows (suc l) m c e a s z =
    let n = m c.block in
    let f = node-facts l c.asked n (all-at _ s 0) in
    let g : agrees (Child e) n ≡ true = rw a at f.agreed in
    let held = agree-held e n g z in
    record {
      top = every-mem limited (keys n.points) f.points-limited (agree-top e n g held).0;
      bottom = every-mem limited (keys n.points) f.points-limited (agree-bottom e n g held).0;
    }

-- of all entries over sound parts
pub shown-limited : (l : ℕ) (m : Store) (lo hi : ℕ) (es : List Entry) → every (sound_at l m) (parts lo hi es) ≡ true → every limited (extremes es) ≡ true
shown-limited l m lo hi es s =
    extremes-inside es
    (λ e i z. let c = entry-part lo hi es i in shows l m c.0 e c.2 (every-mem (sound_at l m) (parts lo hi es) s c.1) z)

-- the top of an entry with points is live below
top-live : (l : ℕ) (m : Store) (p : Part) (n : Node) → Steps p.lo p.hi n.entries → every (sound_at l m) (children p n) ≡ true
    → (e : Entry) → Memᴰ e n.entries → (e.size ≡ 0 → ⊥) → (a : ℕ) × (beneath l m p n e.top ≡ some a)
top-live l m p n st s e i z =
    let c = entry-part p.lo p.hi n.entries i in
    let w = every-mem (sound_at l m) (children p n) s c.1 in
    let v = top_of l m c.0 e c.2 w z in
    (v.track, down-at (lookup l m e.top) e.top p.lo p.hi n.entries c.0 st c.1 v.inside ∙ v.live)

module _ (l : ℕ) (m : Store) (p : Part) (n : Node) (s : every (sound_at l m) (children p n) ≡ true) where
  -- the rules of a node with what its ranks say
  pub ready_by : Rules l p n → (r : ℕ) → ((k : ℕ) → Memᴰ k (keys n.points) → r ≤ rank_key k) → ((k : ℕ) → Memᴰ k (keys n.inserts) → rank_key k < r)
      → ((k : ℕ) → Memᴰ k n.deletes → rank_key k < r) → ((k a : ℕ) → beneath l m p n k ≡ some a → rank_key k < r)
      → NodeReady p.lo p.hi r n.points n.inserts n.deletes (beneath l m p n)
  unfolding buffers_rise named_once names
  ready_by h r above under_i under_d deep =
      record {
        up_p = all-at _ h.rises 0;
        up_i = all-at _ h.rises 1;
        up_d = all-at _ h.rises 2;
        in_p = λ k j. h.inside k (names-P n j);
        in_i = λ k j. h.inside k (names-I n j);
        in_d = λ k j. h.inside k (names-D n j);
        off = λ k j d. (distinct-split (keys n.points ++ keys n.inserts) n.deletes h.once).off k (Memᴰ.append_right (keys n.points) j) d;
        above = above;
        under_i = under_i;
        under_d = under_d;
        deep = deep;
      }

  -- START: a node whose P isn't empty; q is the lowest of it
  pub ready_of : Rules l p n → (q : ℕ) → Memᴰ q (keys n.points) → ((k : ℕ) → Memᴰ k (keys n.points) → rank_key q ≤ rank_key k)
      → NodeReady p.lo p.hi (rank_key q) n.points n.inserts n.deletes (beneath l m p n)
  unfolding points_above
  ready_of h q i least =
      let lower : (k : ℕ) → Memᴰ k (keys n.inserts ++ n.deletes ++ tops n.entries) → rank_key k < rank_key q = λ k j. ltb-true (rank_key k) (rank_key q) (every-mem _ _ (every-mem _ _ h.above i) j) in
      ready_by h (rank_key q) least (λ k j. lower k (Memᴰ.append_left (tops n.entries) (Memᴰ.append_left n.deletes j)))
      (λ k j. lower k (Memᴰ.append_left (tops n.entries) (Memᴰ.append_right (keys n.inserts) j)))
      (λ k a f.
      let t = live-top l m p.lo p.hi n.entries s k a f in
      let u = lower t.0.top (Memᴰ.append_right (keys n.inserts ++ n.deletes) (tops-mem n.entries t.1 t.2)) in
      omega (arith, u, t.3))

  -- nothing below: any rank will do as the lowest, 0 too
  nothing-below : lowest n ≡ true → (k : ℕ) → beneath l m p n k ≡ none
  unfolding lowest
  nothing-below h k = sizes-none l m p.lo p.hi n.entries s (λ e i. eqb-true e.size 0 (every-mem _ _ (all-at _ h 3) i)) k

  -- so it is ready
  pub ready-lowest : Rules l p n → lowest n ≡ true → NodeReady p.lo p.hi 0 n.points n.inserts n.deletes (beneath l m p n)
  ready-lowest h e =
      ready_by h 0 (λ k j. omega arith) (λ k j. absurd (has-insert n j e)) (λ k j. absurd (has-delete n j e)) (λ k a f. absurd (some-ne-none _ (sym f ∙ nothing-below e k)))

  -- FINISH
  pub rules-back : Steps p.lo p.hi n.entries → (r : ℕ) → NodeReady p.lo p.hi r n.points n.inserts n.deletes (beneath l m p n) → Rules l p n
  unfolding buffers_rise points_above named_once names
  rules-back st r h =
      record {
        rises = all_cons _ _ h.up_p (all_cons _ _ h.up_i (all_cons _ _ h.up_d all_nil));
        once = distinct-join (keys n.points ++ keys n.inserts) n.deletes
            (distinct-join (keys n.points) (keys n.inserts) (rising-distinct 0 (keys n.points) h.up_p) (rising-distinct 0 (keys n.inserts) h.up_i)
            (λ k i j. let a = h.above k i in let b = h.under_i k j in absurd (omega arith)))
            (rising-distinct 0 n.deletes h.up_d)
            (λ k i j. ⊎_elim (λ u. let a = h.above k u in let b = h.under_d k j in absurd (omega arith)) (λ u. h.off k u j) (Memᴰ.append_cases (keys n.points) i));
        above = every-make _ (keys n.points) (λ q i. every-make _ (keys n.inserts ++ n.deletes ++ tops n.entries) (λ k j. let a = h.above q i in lt-ltb (rank_key k) (rank_key q) (let b = under k j in omega arith)));
        inside = λ k i. ⊎_elim (λ u. ⊎_elim (h.in_p k) (h.in_i k) (Memᴰ.append_cases (keys n.points) u)) (h.in_d k) (Memᴰ.append_cases (keys n.points ++ keys n.inserts) i);
      }
    where
      under : (k : ℕ) → Memᴰ k (keys n.inserts ++ n.deletes ++ tops n.entries) → rank_key k < r
      under k j =
          ⊎_elim (λ u. ⊎_elim (h.under_i k) (h.under_d k) (Memᴰ.append_cases (keys n.inserts) u))
          (λ u.
          let e = tops-from n.entries u in
          let t = top-live l m p n st s e.0 e.1 e.2 in
          let z : rank_key k ≡ rank_key e.0.top = ap rank_key e.3 in
          omega (arith, h.deep e.0.top t.0 t.1, z))
          (Memᴰ.append_cases (keys n.inserts ++ n.deletes) j)
