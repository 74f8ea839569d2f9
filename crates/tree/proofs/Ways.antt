-- The ways of a tree: a child by its place is one of the parts, the blocks reached are those that ways lead to, and none is reached twice exactly where one
-- way leads to each.
-- Assumes nothing.
use mathlib.Core.Path.{◌≡◌, refl, ap, ap₂, sym, ◌∙◌, subst}
use mathlib.Core.Logic.{⊎_elim}
use mathlib.Core.Bool.{true, false≢true}
use mathlib.Core.List.Memᴰ
use mathlib.Core.List.{List, [], ◌∷◌, ◌++◌, Memᴰ}
use Prim.Native.Nat.{ℕ, zero, suc, ◌<◌}
use native.Mathlib.Omega.{arith}
use lib.ListN.{length}
use Rattle.octets.specs.Lists.{rest}
use Rattle.octets.proofs.Tests.{all-at, every-mem}
use Rattle.octets.proofs.Once.{Once, once-append, once-first, once-second, once-cross}
use Rattle.block.specs.declared.Entry.{Entry}
use Rattle.block.specs.declared.Asked.TheVariants.{Child}
use Rattle.block.specs.Node.{Store}
use Rattle.tree.specs.Part.{Part, next_low, parts, children}
use Rattle.tree.specs.Reach.{gather, reach}
use Rattle.tree.specs.Sound.{sound_at}
use Rattle.tree.specs.Rules.{ChildAt, ChildOf, Leads, here, step, Below}
use Rattle.tree.proofs.Gather.{gather-mem, gather-in}
use Rattle.tree.proofs.Nodes.{NodeOf, start, child, node-of-child, reach-node}

-- ---- a part by its place in a list

-- c is the i-th of the parts
abbrev pub Nth : List Part → ℕ → Part → Type 0
Nth [] i c = ⊥
Nth (p ∷ ps) zero c = c ≡ p
Nth (p ∷ ps) (suc i) c = Nth ps i c

nth-mem : (ps : List Part) (i : ℕ) {c : Part} → Nth ps i c → Memᴰ c ps
nth-mem [] i k = absurd k
nth-mem (p ∷ ps) zero k = Memᴰ.head k
nth-mem (p ∷ ps) (suc i) k = Memᴰ.tail (nth-mem ps i k)

mem-nth : (ps : List Part) {c : Part} → Memᴰ c ps → (i : ℕ) × Nth ps i c
mem-nth [] k = absurd (Memᴰ.not-nil k)
mem-nth (p ∷ ps) {c} k = ⊎_elim (λ (e : c ≡ p). (0, e)) (λ j. let r = mem-nth ps j in (suc r.0, r.1)) (Memᴰ.cases_cons k)

nth-same : (ps : List Part) (i : ℕ) {c d : Part} → Nth ps i c → Nth ps i d → c ≡ d
nth-same [] i k j = absurd k
nth-same (p ∷ ps) zero k j = k ∙ sym j
nth-same (p ∷ ps) (suc i) k j = nth-same ps i k j

-- lists gathered from the parts in which nothing stands twice: neither in one of them,
nth-once : (f : Part → List ℕ) (ps : List Part) (i : ℕ) (c : Part) → Once (gather f ps) → Nth ps i c → Once (f c)
nth-once f [] i c a k = absurd k
nth-once f (p ∷ ps) zero c a k = subst (λ (x : Part). Once (f x)) (sym k) (once-first (f p) (gather f ps) a)
nth-once f (p ∷ ps) (suc i) c a k = nth-once f ps i c (once-second (f p) (gather f ps) a) k

-- nor in two
nth-place : (f : Part → List ℕ) (ps : List Part) (i j : ℕ) {c d : Part} {b : ℕ} → Once (gather f ps) → Nth ps i c → Nth ps j d → Memᴰ b (f c) → Memᴰ b (f d) → i ≡ j
nth-place f [] i j a k h x y = absurd k
nth-place f (p ∷ ps) zero zero a k h x y = refl
nth-place f (p ∷ ps) zero (suc j) {c} {d} {b} a k h x y =
    absurd (once-cross (f p) (gather f ps) a b (subst (λ (q : Part). Memᴰ b (f q)) k x) (gather-in f ps d (nth-mem ps j h) y))
nth-place f (p ∷ ps) (suc i) zero {c} {d} {b} a k h x y =
    absurd (once-cross (f p) (gather f ps) a b (subst (λ (q : Part). Memᴰ b (f q)) h y) (gather-in f ps c (nth-mem ps i k) x))
nth-place f (p ∷ ps) (suc i) (suc j) a k h x y = ap suc (nth-place f ps i j (once-second (f p) (gather f ps) a) k h x y)

-- and such lists have none twice
once-gathered : (f : Part → List ℕ) (ps : List Part) → ((i : ℕ) (c : Part) → Nth ps i c → Once (f c))
    → ((i j : ℕ) (c d : Part) (b : ℕ) → Nth ps i c → Nth ps j d → Memᴰ b (f c) → Memᴰ b (f d) → i ≡ j)
    → Once (gather f ps)
once-gathered f [] own off = tt
once-gathered f (p ∷ ps) own off =
    once-append (f p) (gather f ps) (own 0 p refl) (once-gathered f ps (λ i c k. own (suc i) c k) (λ i j c d b k h x y. let e = off (suc i) (suc j) c d b k h x y in omega arith))
    (λ b x y.
    let r = gather-mem f ps y in
    let n = mem-nth ps r.1 in
    let e = off 0 (suc n.0) p r.0 b refl n.1 x r.2 in
    omega arith)

-- ---- a child by its place

-- the part that an entry leads to
abbrev part_of : ℕ → ℕ → Entry → Part
part_of lo hi e = record { block = e.block; asked = Child e; lo = lo; hi = hi }

-- where the range of an entry begins, by the entries before it
abbrev begins : ℕ → List Entry → Entry → ℕ
begins lo [] e = lo
begins lo (b ∷ bs) e = e.low

part-nth : (lo hi : ℕ) (before : List Entry) (e : Entry) (after : List Entry)
    → Nth (parts lo hi (before ++ (e ∷ after))) (length before) (part_of (begins lo before e) (next_low after hi) e)
part-nth lo hi [] e after = refl
part-nth lo hi (b ∷ []) e after = part-nth e.low hi [] e after
part-nth lo hi (b ∷ f ∷ fs) e after = part-nth f.low hi (f ∷ fs) e after

module _ (lo hi : ℕ) (es : List Entry) (i : ℕ) (c : Part) (k : ChildAt lo hi es i c) where
  child-lo : c.lo ≡ begins lo k.before k.entry
  child-lo = go k.before k.placed
    where
      go : (bs : List Entry) → length bs ≡ i → c.lo ≡ begins lo bs k.entry
      go [] h = k.first (sym h)
      go (b ∷ bs) h = k.later (omega arith)

  child-hi : c.hi ≡ next_low k.after hi
  child-hi = go k.after refl
    where
      go : (fs : List Entry) → k.after ≡ fs → c.hi ≡ next_low fs hi
      go [] h = k.last h
      go (f ∷ fs) h = k.next f fs h

  child-is : part_of (begins lo k.before k.entry) (next_low k.after hi) k.entry ≡ c
  child-is = sym (λ j. record { block = k.stands j; asked = k.asked j; lo = child-lo j; hi = child-hi j })

  -- it is the part at that place
  child-nth : Nth (parts lo hi es) i c
  child-nth =
      subst (λ (l : List Entry). Nth (parts lo hi l) i c) (sym k.among)
      (subst (λ (j : ℕ). Nth (parts lo hi (k.before ++ (k.entry ∷ k.after))) j c) k.placed
      (subst (λ (p : Part). Nth (parts lo hi (k.before ++ (k.entry ∷ k.after))) (length k.before) p) child-is
      (part-nth lo hi k.before k.entry k.after)))

  pub child-mem : Memᴰ c (parts lo hi es)
  child-mem = nth-mem (parts lo hi es) i child-nth

-- the first entry, and one after it
child-first : (lo hi : ℕ) (e : Entry) (es : List Entry) {c : Part} → c ≡ part_of lo (next_low es hi) e → ChildAt lo hi (e ∷ es) 0 c
child-first lo hi e es {c} h =
    record {
      before = [];
      entry = e;
      after = es;
      among = refl;
      placed = refl;
      asked = ap (λ (p : Part). p.asked) h;
      stands = ap (λ (p : Part). p.block) h;
      later = λ (l : 0 < 0). let z : ⊥ = omega arith in absurd z;
      first = λ z. ap (λ (p : Part). p.lo) h;
      next = λ f fs q. ap (λ (p : Part). p.hi) h ∙ ap (λ (l : List Entry). next_low l hi) q;
      last = λ q. ap (λ (p : Part). p.hi) h ∙ ap (λ (l : List Entry). next_low l hi) q;
    }

child-later : (lo hi : ℕ) (e : Entry) (es : List Entry) (i : ℕ) (c : Part) → ChildAt (next_low es hi) hi es i c → ChildAt lo hi (e ∷ es) (suc i) c
child-later lo hi e es i c k =
    record {
      before = e ∷ k.before;
      entry = k.entry;
      after = k.after;
      among = ap (λ (l : List Entry). e ∷ l) k.among;
      placed = ap suc k.placed;
      asked = k.asked;
      stands = k.stands;
      later = λ l. begin;
      first = λ (z : suc i ≡ 0). let q : ⊥ = omega arith in absurd q;
      next = k.next;
      last = k.last;
    }
  where
    -- of the entries that are left, the first begins at its own low
    own : (bs : List Entry) → es ≡ bs ++ (k.entry ∷ k.after) → begins (next_low es hi) bs k.entry ≡ k.entry.low
    own [] h = ap (λ (l : List Entry). next_low l hi) h
    own (b ∷ bs) h = refl

    begin : c.lo ≡ k.entry.low
    begin = child-lo (next_low es hi) hi es i c k ∙ own k.before k.among

-- and the part at a place is a child
nth-child : (lo hi : ℕ) (es : List Entry) (i : ℕ) {c : Part} → Nth (parts lo hi es) i c → ChildAt lo hi es i c
nth-child lo hi [] i k = absurd k
nth-child lo hi (e ∷ es) zero k = child-first lo hi e es k
nth-child lo hi (e ∷ es) (suc i) {c} k = child-later lo hi e es i c (nth-child (next_low es hi) hi es i k)

-- each of the parts is, by some place
pub mem-child : (lo hi : ℕ) (es : List Entry) {c : Part} → Memᴰ c (parts lo hi es) → (i : ℕ) × ChildAt lo hi es i c
mem-child lo hi es k = let r = mem-nth (parts lo hi es) k in (r.0, nth-child lo hi es r.0 r.1)

-- every entry leads to one
pub entry-child : (lo hi : ℕ) (es : List Entry) {e : Entry} → Memᴰ e es → (c : Part) × (i : ℕ) × (k : ChildAt lo hi es i c) × (k.entry ≡ e)
unfolding child-first child-later
entry-child lo hi [] j = absurd (Memᴰ.not-nil j)
entry-child lo hi (x ∷ es) {e} j =
    ⊎_elim (λ (q : e ≡ x). (part_of lo (next_low es hi) x, 0, child-first lo hi x es refl, sym q))
    (λ h. let r = entry-child (next_low es hi) hi es h in (r.0, suc r.1, child-later lo hi x es r.1 r.0 r.2, r.3))
    (Memᴰ.cases_cons j)

-- ---- ways

module _ (m : Store) where
  -- its first step
  pub first_step : {p c : Part} {i : ℕ} {way : List ℕ} → Leads m p (i ∷ way) c → (d : Part) × ChildOf m p i d × Leads m d way c
  first_step (step {d = d} k r) = (d, k, r)

  -- a step more
  step-on : {p d c : Part} {way : List ℕ} {i : ℕ} → Leads m p way d → ChildOf m d i c → Leads m p (way ++ (i ∷ [])) c
  step-on {p} {d} {c} {i = i} (here e) k = step (subst (λ (x : Part). ChildOf m x i c) e k) (here refl)
  step-on (step j r) k = step j (step-on r k)

  -- a child of a node is a node
  pub child-node : {p d c : Part} {i : ℕ} → (way : List ℕ) × Leads m p way d → ChildOf m d i c → (way : List ℕ) × Leads m p way c
  child-node {i = i} r k = (r.0 ++ (i ∷ []), step-on r.1 k)

  -- and stands below the first
  pub child-below : {p d c : Part} {way : List ℕ} {i : ℕ} → Leads m p way d → ChildOf m d i c → Below m p c
  child-below {c = c} {i = i} (here e) k = (i, [], step (subst (λ (x : Part). ChildOf m x i c) e k) (here refl))
  child-below {i = i} (step {place = j} {way = way} h r) k = (j, way ++ (i ∷ []), step h (step-on r k))

  -- a way leads to a node
  pub leads-node : {p c : Part} {way : List ℕ} → Leads m p way c → NodeOf m p c
  leads-node (here e) = start e
  leads-node (step {p = p} {d = d} {place = i} k r) = node-of-child m (child (start refl) (child-mem p.lo p.hi (m p.block).entries i d k)) (leads-node r)

  -- and to every node leads one
  pub node-leads : {p c : Part} → NodeOf m p c → (way : List ℕ) × Leads m p way c
  node-leads (start e) = ([], here e)
  node-leads (child {d = d} r k) =
      let v = node-leads r in
      let i = mem-child d.lo d.hi (m d.block).entries k in
      (v.0 ++ (i.0 ∷ []), step-on v.1 i.1)

  -- a block that is reached is that of a node
  pub reach_leads : (l : ℕ) (p : Part) {b : ℕ} → Memᴰ b (reach l m p) → (c : Part) × ((way : List ℕ) × Leads m p way c) × (c.block ≡ b)
  reach_leads l p j = let r = reach-node l m p j in (r.0, node-leads r.1, r.2)

  -- a child of a sound part is sound, and its blocks are among those of the children
  module _ (l : ℕ) (p d : Part) (i : ℕ) (k : ChildOf m p i d) where
    kid : Nth (children p (m p.block)) i d
    kid = child-nth p.lo p.hi (m p.block).entries i d k

    kid-sound : sound_at (suc l) m p ≡ true → sound_at l m d ≡ true
    unfolding sound_at
    kid-sound s = every-mem (sound_at l m) (children p (m p.block)) (all-at _ s 2) (nth-mem (children p (m p.block)) i kid)

    kid-blocks : {b : ℕ} → Memᴰ b (reach l m d) → Memᴰ b (gather (reach l m) (children p (m p.block)))
    kid-blocks j = gather-in (reach l m) (children p (m p.block)) d (nth-mem (children p (m p.block)) i kid) j

  -- and a way leads to a block that is reached
  pub leads-reach : (l : ℕ) {p c : Part} {way : List ℕ} → sound_at l m p ≡ true → Leads m p way c → Memᴰ c.block (reach l m p)
  unfolding sound_at reach
  leads-reach zero s r = absurd (false≢true s)
  leads-reach (suc l) s (here e) = Memᴰ.head (ap (λ (x : Part). x.block) e)
  leads-reach (suc l) s (step {p = p} {d = d} {place = i} k r) = Memᴰ.tail (kid-blocks l p d i k (leads-reach l (kid-sound l p d i k s) r))

  -- ---- one way to each block

  abbrev pub OneWay : Part → Type 0
  OneWay p = (v w : List ℕ) (c d : Part) → Leads m p v c → Leads m p w d → c.block ≡ d.block → v ≡ w

  -- it goes on so from a child
  pub one-way-child : {p c : Part} {i : ℕ} → OneWay p → ChildOf m p i c → OneWay c
  one-way-child {i = i} one k v w x y r q e = ap rest (one (i ∷ v) (i ∷ w) x y (step k r) (step k q) e)

  -- so none is reached twice
  pub one-way-once : (l : ℕ) (p : Part) → OneWay p → Once (reach l m p)
  unfolding reach
  one-way-once zero p one = tt
  one-way-once (suc l) p one = (own, once-gathered (reach l m) (children p (m p.block)) (λ i c k. one-way-once l c (one-way-child one (goes i k))) off)
    where
      goes : (i : ℕ) {c : Part} → Nth (children p (m p.block)) i c → ChildOf m p i c
      goes i k = nth-child p.lo p.hi (m p.block).entries i k

      own : Memᴰ p.block (gather (reach l m) (children p (m p.block))) → ⊥
      own j =
          let r = gather-mem (reach l m) (children p (m p.block)) j in
          let n = mem-child p.lo p.hi (m p.block).entries r.1 in
          let q = reach_leads l r.0 r.2 in
          let e = ap length (one [] (n.0 ∷ q.1.0) p q.0 (here refl) (step n.1 q.1.1) (sym q.2)) in
          omega arith

      off : (i j : ℕ) (c d : Part) (b : ℕ) → Nth (children p (m p.block)) i c → Nth (children p (m p.block)) j d
          → Memᴰ b (reach l m c) → Memᴰ b (reach l m d) → i ≡ j
      off i j c d b k h x y =
          let r = reach_leads l c x in
          let q = reach_leads l d y in
          let e = one (i ∷ r.1.0) (j ∷ q.1.0) r.0 q.0 (step (goes i k) r.1.1) (step (goes j h) q.1.1) (r.2 ∙ sym q.2) in
          cc

  -- in a sound part where none is reached twice, one way leads to each
  once-ways : (l : ℕ) {p c d : Part} {v w : List ℕ} → sound_at l m p ≡ true → Once (reach l m p) → Leads m p v c → Leads m p w d → c.block ≡ d.block → v ≡ w
  unfolding sound_at reach
  once-ways zero s a r q e = absurd (false≢true s)
  once-ways (suc l) s a (here x) (here y) e = refl
  once-ways (suc l) s a (here x) (step {p = p} {d = d} {place = i} k q) e =
      absurd (a.0 (Memᴰ.cast (ap (λ (z : Part). z.block) (sym x) ∙ e) (kid-blocks l p d i k (leads-reach l (kid-sound l p d i k s) q))))
  once-ways (suc l) s a (step {p = p} {d = d} {place = i} k r) (here y) e =
      absurd (a.0 (Memᴰ.cast (ap (λ (z : Part). z.block) (sym y) ∙ sym e) (kid-blocks l p d i k (leads-reach l (kid-sound l p d i k s) r))))
  once-ways (suc l) s a (step {p = p} {d = x} {c = c} {place = i} {way = v} k r) (step {d = y} {c = d} {place = j} {way = w} h q) e =
      let ps = children p (m p.block) in
      let kx = kid l p x i k in
      let ky = kid l p y j h in
      let there = leads-reach l (kid-sound l p x i k s) r in
      let also = Memᴰ.cast e (leads-reach l (kid-sound l p y j h s) q) in
      let same : i ≡ j = nth-place (reach l m) ps i j a.1 kx ky there also in
      let part : y ≡ x = nth-same ps j ky (subst (λ (z : ℕ). Nth ps z x) same kx) in
      ap₂ (λ (z : ℕ) (zs : List ℕ). z ∷ zs) same
      (once-ways l (kid-sound l p x i k s) (nth-once (reach l m) ps i x a.1 kx) r (subst (λ (z : Part). Leads m z w d) part q) e)

  pub once-one-way : (l : ℕ) (p : Part) → sound_at l m p ≡ true → Once (reach l m p) → OneWay p
  once-one-way l p s a v w c d r q e = once-ways l s a r q e
