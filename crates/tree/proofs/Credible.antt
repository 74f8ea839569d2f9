-- What the children of a node make true of its entries: each is credible, their lows lie in the range, and no block is named twice.
-- Assumes nothing.
use mathlib.Core.Path.{◌≡◌, refl, ap, sym, ◌∙◌, subst⁻¹}
use mathlib.Core.Logic.{⊎_elim}
use mathlib.Core.Bool.{Bool, true, cond, ◌||◌, or-true, false≢true}
use mathlib.Core.List.{List, [], ◌∷◌, Memᴰ}
use Prim.Native.Nat.{ℕ, zero, suc, ◌≤◌, ◌<◌}
use native.Mathlib.Omega.{arith}
use lib.ListN.{length}
use lib.Dec.{eqb, ltb}
use borrow.Author.Tests.{leb-true, eqb-true, le-leb, lt-ltb, eq-eqb, ne_eqb}
use Rattle.octets.specs.Lists.{every, rest, rising, distinct}
use Rattle.octets.proofs.Order.{same_or_not}
use Rattle.octets.proofs.Tests.{all-at, all_cons, all_nil, and_left, and_right, and_both, or-either, every-mem, every-imp}
use Rattle.octets.proofs.Sets.{distinct_head, distinct_tail, distinct_cons, distinct-split}
use Rattle.octets.proofs.Rising.{rising-first, rising-rest}
use Rattle.spot.specs.Keys.{rank_key, all_keys, within}
use Rattle.spot.specs.Spots.{keys}
use Rattle.spot.proofs.Buffers.{keys_length}
use Rattle.spot.proofs.Halves.{rank-inj, rank-strict}
use Rattle.spot.proofs.Places.{within-from, within-to}
use Rattle.block.specs.declared.Entry.{Entry}
use Rattle.block.specs.declared.Asked.{Asked}
use Rattle.block.specs.declared.Asked.TheVariants.{Child}
use Rattle.block.specs.Node.{Node, Store}
use Rattle.block.specs.NodeRules.{node_ok, buffers_rise, filled, lowest, agrees, lows, zero_first, lows_rise, low_of, stands_in, child_blocks, children_apart, lows_not_below, before_next, in_child, entry_credible, all_credible, entries_credible}
use Rattle.tree.specs.Part.{Part, next_low, parts, Steps}
use Rattle.tree.specs.Reach.{gather, reach}
use Rattle.tree.specs.Sound.{sound_at, in_range}
use Rattle.tree.proofs.Says.{names-P}
use Rattle.tree.proofs.Ranges.{next_le}
use Rattle.tree.proofs.Below.{sizes-few}
use Rattle.tree.proofs.Entries.{Highest, Lowest, agree-size, agree-held, agree-top, agree-bottom}

-- two members of a list of one element are one
one-member : (ks : List ℕ) {a b : ℕ} → length ks ≡ 1 → Memᴰ a ks → Memᴰ b ks → a ≡ b
one-member [] h i j = absurd (mathlib.Core.List.Memᴰ.not-nil i)
one-member (k ∷ []) {a} {b} h i j =
    ⊎_elim (λ (p : a ≡ k). ⊎_elim (λ (q : b ≡ k). p ∙ sym q) (λ q. absurd (mathlib.Core.List.Memᴰ.not-nil q)) (mathlib.Core.List.Memᴰ.cases_cons j)) (λ p. absurd (mathlib.Core.List.Memᴰ.not-nil p)) (mathlib.Core.List.Memᴰ.cases_cons i)
one-member (k ∷ k' ∷ ks) h i j = let z : ⊥ = omega arith in absurd z

-- numbers that rise and are all the same are one at most
all_same : (ks : List ℕ) (t : ℕ) → rising ks ≡ true → ((k : ℕ) → Memᴰ k ks → k ≡ t) → length ks ≤ 1
all_same [] t r h = omega arith
all_same (k ∷ []) t r h = omega arith
all_same (k ∷ k' ∷ ks) t r h =
    let a = h k (mathlib.Core.List.Memᴰ.head refl) in
    let b = h k' (mathlib.Core.List.Memᴰ.tail (mathlib.Core.List.Memᴰ.head refl)) in
    let c = rising-first (suc k) k' ks (rising-rest 0 k (k' ∷ ks) r) in
    let z : ⊥ = omega arith in
    absurd z

-- An entry that a node agrees with, whose P keeps rule 5 and lies in the child's range, is credible
module _ (from : ℕ) (e : Entry) (es : List Entry) (n : Node) (agree : agrees (Child e) n ≡ true) (sizes : (filled n || lowest n) ≡ true) (up : rising (keys n.points) ≡ true)
    (inside : (k : ℕ) → Memᴰ k (keys n.points) → (from ≤ k) × (e.low ≤ k) × (before_next es k ≡ true) × (k < all_keys)) where
  key : (k : ℕ) → Memᴰ k (keys n.points) → k < all_keys
  key k i = (inside k i).3

  -- rule 3 of a key of P
  lies : (k : ℕ) → Memᴰ k (keys n.points) → in_child from e es k ≡ true
  unfolding in_child
  lies k i = let h = inside k i in all_cons _ _ (le-leb from k h.0) (all_cons _ _ (le-leb e.low k h.1) (all_cons _ _ h.2 all_nil))

  -- were the lowest the highest, there would be no other
  alone : Highest n.points e.top → Lowest n.points e.bottom → e.bottom ≡ e.top → length (keys n.points) ≤ 1
  alone t b q =
      let same = ap rank_key q in
      all_same (keys n.points) e.top up (λ k i. rank-inj k e.top (key k i) (key e.top t.0) (let u = t.1 k i in let v = b.1 k i in omega arith))

  -- the highest and the lowest of one spot are one, of more the highest lies above
  ends : (e.size ≡ 0 → ⊥) → Highest n.points e.top → Lowest n.points e.bottom
      → cond (eqb e.size 1) (eqb e.top e.bottom) (ltb (rank_key e.bottom) (rank_key e.top)) ≡ true
  ends z t b =
      let size = agree-size e n agree in
      let long = keys_length n.points in
      ⊎_elim (λ (s : e.size ≡ 1). rw (eq-eqb e.size 1 s) (eq-eqb e.top e.bottom (one-member (keys n.points) (omega arith) t.0 b.0)))
      (λ (s : e.size ≡ 1 → ⊥).
      rw (ne_eqb e.size 1 s)
      (lt-ltb (rank_key e.bottom) (rank_key e.top)
      (rank-strict e.bottom e.top (key e.bottom b.0) (key e.top t.0) (λ q. let few = alone t b q in omega arith) (b.1 e.top t.0))))
      (same_or_not e.size 1)

  credible-by : entry_credible from e es ≡ true
  unfolding entry_credible
  credible-by =
      ⊎_elim (λ (z : e.size ≡ 0). rw (eq-eqb e.size 0 z))
      (λ (z : e.size ≡ 0 → ⊥).
      let size = agree-size e n agree in
      let few = (sizes-few n sizes).0 in
      let held = agree-held e n agree z in
      let t = agree-top e n agree held in
      let b = agree-bottom e n agree held in
      rw (ne_eqb e.size 0 z)
      (all_cons _ _ (le-leb e.size 64 (omega arith)) (all_cons _ _ (ends z t b) (all_cons _ _ (lies e.top t.0) (all_cons _ _ (lies e.bottom b.0) all_nil)))))
      (same_or_not e.size 0)

-- a lower beginning of the range asks for less
credible-lower : (from from' : ℕ) (e : Entry) (es : List Entry) → from' ≤ from → entry_credible from e es ≡ true → entry_credible from' e es ≡ true
unfolding entry_credible in_child
credible-lower from from' e es l h =
    ⊎_elim (λ z. rw z)
    (λ z.
    ap (λ (t : Bool). eqb e.size 0 || t)
    (all_cons _ _ (all-at _ z 0) (all_cons _ _ (all-at _ z 1) (all_cons _ _ (lower e.top (all-at _ z 2)) (all_cons _ _ (lower e.bottom (all-at _ z 3)) all_nil)))) ∙
    or-true (eqb e.size 0))
    (or-either (eqb e.size 0) _ h)
  where
    lower : (k : ℕ) → in_child from e es k ≡ true → in_child from' e es k ≡ true
    lower k q = all_cons _ _ (le-leb from' k (let z = leb-true from k (all-at _ q 0) in omega arith)) (all_cons _ _ (all-at _ q 1) (all_cons _ _ (all-at _ q 2) all_nil))

-- of all entries
pub all-lower : (from from' : ℕ) (es : List Entry) → from' ≤ from → all_credible from es ≡ true → all_credible from' es ≡ true
all-lower from from' [] l h = refl
all-lower from from' (e ∷ es) l h =
    let c = entry_credible from e es in
    and_both (entry_credible from' e es) (all_credible from' es) (credible-lower from from' e es l (and_left c (all_credible from es) h)) (all-lower from from' es l (and_right c (all_credible from es) h))

-- ---- the entries of a node over sound children

-- lows in the range are not below what leads there
pub lows-not-below : (a : Asked) (lo hi : ℕ) (n : Node) → low_of a ≤ lo → every (within lo hi) (rest (lows n.entries)) ≡ true → lows_not_below a n ≡ true
unfolding lows_not_below
lows-not-below a lo hi n h w =
    every-imp (within lo hi) _ (rest (lows n.entries)) (λ k i. le-leb (low_of a) k (let z = within-from lo hi k i in omega arith)) w

-- a child begins where the entries after it do, or its parent ends
pub next_low_lem : (es : List Entry) (hi : ℕ) → next_low es (next_low es hi) ≤ next_low es hi
next_low_lem [] hi = omega arith
next_low_lem (e ∷ es) hi = omega arith

-- the first low is 0, so not past the range's beginning
zero-low : (es : List Entry) (lo : ℕ) → zero_first (lows es) ≡ true → next_low es lo ≤ lo
zero-low [] lo h = omega arith
zero-low (e ∷ es) lo h = let z = eqb-true e.low 0 h in omega arith

before-next : (es : List Entry) (hi k : ℕ) → k < next_low es hi → before_next es k ≡ true
before-next [] hi k h = refl
before-next (e ∷ es) hi k h = lt-ltb k e.low h

-- the entry of a sound child is credible
credible-part : (l : ℕ) (m : Store) (from lo hi : ℕ) (e : Entry) (es : List Entry) → from ≤ lo → e.low ≤ lo → next_low es hi ≤ all_keys
    → sound_at l m (record { block = e.block; asked = Child e; lo = lo; hi = next_low es hi }) ≡ true → entry_credible from e es ≡ true
unfolding sound_at node_ok buffers_rise in_range
credible-part zero m from lo hi e es a b c s = absurd (false≢true s)
credible-part (suc l) m from lo hi e es a b c s =
    let n = m e.block in
    let ok = all-at _ s 0 in
    credible-by from e es n (all-at _ ok 9) (all-at _ ok 7) (all-at _ (all-at _ ok 3) 0)
    (λ k i.
    let w = every-mem _ _ (all-at _ (all-at _ s 1) 0) (names-P n i) in
    let u = within-from lo (next_low es hi) k w in
    let v = within-to lo (next_low es hi) k w in
    (omega arith, omega arith, before-next es hi k v, omega arith))

-- so are all, if the ranges rise
all-credible : (l : ℕ) (m : Store) (from lo hi : ℕ) (es : List Entry) → from ≤ lo → next_low es lo ≤ lo → hi ≤ all_keys → Steps lo hi es
    → every (sound_at l m) (parts lo hi es) ≡ true → all_credible from es ≡ true
all-credible l m from lo hi [] a b c st s = refl
all-credible l m from lo hi (e ∷ es) a b c st s =
    let p : Part = record { block = e.block; asked = Child e; lo = lo; hi = next_low es hi } in
    let more = every (sound_at l m) (parts (next_low es hi) hi es) in
    let on = st.0 in
    let end = next_le hi es st.1 in
    and_both (entry_credible from e es) (all_credible from es) (credible-part l m from lo hi e es a b (omega arith) (and_left (sound_at l m p) more s))
    (all-credible l m from (next_low es hi) hi es (omega arith) (next_low_lem es hi) c st.1 (and_right (sound_at l m p) more s))

-- as a rule of the node
pub entries-credible : (l : ℕ) (m : Store) (a : Asked) (lo hi : ℕ) (n : Node) → low_of a ≤ lo → hi ≤ all_keys → lows_rise n ≡ true → Steps lo hi n.entries
    → every (sound_at l m) (parts lo hi n.entries) ≡ true → entries_credible a n ≡ true
unfolding entries_credible lows_rise
entries-credible l m a lo hi n low full up st s =
    all-credible l m (low_of a) lo hi n.entries (omega arith) (zero-low n.entries lo (all-at _ up 0)) full st s

-- ---- the blocks that a node names

-- a child's block is reached
block_in : (l : ℕ) (m : Store) (lo hi : ℕ) (es : List Entry) {z : ℕ} → Memᴰ z (child_blocks es) → Memᴰ z (gather (reach (suc l) m) (parts lo hi es))
unfolding reach
block_in l m lo hi [] i = absurd (mathlib.Core.List.Memᴰ.not-nil i)
block_in l m lo hi (e ∷ es) i =
    let p : Part = record { block = e.block; asked = Child e; lo = lo; hi = next_low es hi } in
    ⊎_elim (λ h. let own : Memᴰ _ (reach (suc l) m p) = mathlib.Core.List.Memᴰ.head h in mathlib.Core.List.Memᴰ.append_left (gather (reach (suc l) m) (parts (next_low es hi) hi es)) own)
    (λ j. mathlib.Core.List.Memᴰ.append_right (reach (suc l) m p) (block_in l m (next_low es hi) hi es j))
    (mathlib.Core.List.Memᴰ.cases_cons i)

-- no block is a child's twice, where none is reached twice
blocks-once : (l : ℕ) (m : Store) (lo hi : ℕ) (es : List Entry) → distinct (gather (reach (suc l) m) (parts lo hi es)) ≡ true → distinct (child_blocks es) ≡ true
unfolding reach
blocks-once l m lo hi [] d = refl
blocks-once l m lo hi (e ∷ es) d =
    let p : Part = record { block = e.block; asked = Child e; lo = lo; hi = next_low es hi } in
    let r = distinct-split (reach (suc l) m p) (gather (reach (suc l) m) (parts (next_low es hi) hi es)) d in
    distinct_cons e.block (child_blocks es) (λ i. r.off e.block (mathlib.Core.List.Memᴰ.head refl) (block_in l m (next_low es hi) hi es i)) (blocks-once l m (next_low es hi) hi es r.right)

-- nor is the node's own one of them
kids-apart : (l : ℕ) (m : Store) (b lo hi : ℕ) (es : List Entry) → every (sound_at l m) (parts lo hi es) ≡ true → distinct (b ∷ gather (reach l m) (parts lo hi es)) ≡ true
    → distinct (b ∷ child_blocks es) ≡ true
unfolding sound_at
kids-apart zero m b lo hi [] s d = refl
kids-apart zero m b lo hi (e ∷ es) s d = absurd (false≢true s)
kids-apart (suc l) m b lo hi es s d =
    let bs = gather (reach (suc l) m) (parts lo hi es) in
    distinct_cons b (child_blocks es) (λ i. distinct_head b bs d (block_in l m lo hi es i)) (blocks-once l m lo hi es (distinct_tail b bs d))

-- as a rule of the node, which stands in block b
pub children-apart : (l : ℕ) (m : Store) (a : Asked) (b lo hi : ℕ) (n : Node) → stands_in a ≡ b → every (sound_at l m) (parts lo hi n.entries) ≡ true
    → distinct (b ∷ gather (reach l m) (parts lo hi n.entries)) ≡ true → children_apart a n ≡ true
unfolding children_apart
children-apart l m a b lo hi n own s d = subst⁻¹ (λ (z : ℕ). distinct (z ∷ child_blocks n.entries) ≡ true) own (kids-apart l m b lo hi n.entries s d)
