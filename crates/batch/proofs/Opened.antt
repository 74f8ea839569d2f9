-- A node that took in a batch, over its children in a store: what the theory of updates asks of it, from what the code says. And the range of the child that a
-- batch is for.
-- Assumes nothing.
use mathlib.Core.Path.{◌≡◌, refl, sym, ap, subst, ◌∙◌}
use mathlib.Core.Logic.{inl, inr, ⊎_elim}
use mathlib.Core.Bool.{true}
use mathlib.Core.List.Memᴰ
use mathlib.Core.List.{List, [], ◌∷◌, ◌++◌, Memᴰ}
use mathlib.Core.Option.{Option, some-ne-none}
use Prim.Native.Nat.{ℕ, zero, suc, ◌≤◌, ◌<◌}
use native.Mathlib.Omega.{arith}
use lib.ListN.{length, take, drop, length-take}
use lib.Seq.{drop_at, length-take-le}
use borrow.Author.Tests.{leb-true}
use Rattle.octets.specs.Lists.{distinct}
use Rattle.octets.specs.Sets.{Apart}
use Rattle.octets.proofs.Order.{same_or_not, less-or-not}
use Rattle.octets.proofs.Tests.{all-at}
use Rattle.octets.proofs.Sets.{distinct-split, distinct-left}
use Rattle.spot.specs.declared.Spot.{Spot}
use Rattle.spot.specs.Keys.{rank_key, all_keys, within}
use Rattle.spot.specs.Spots.{keys}
use Rattle.spot.proofs.Places.{within-from, within-to}
use Rattle.spot.proofs.Buffers.{find-mem}
use Rattle.block.specs.declared.Entry.{Entry}
use Rattle.block.specs.declared.Asked.{Asked}
use Rattle.block.specs.Node.{Node, Store, store_of}
use Rattle.block.specs.NodeRules.{names, node_ok, filled, lowest}
use Rattle.block.proofs.Facts.{node-facts}
use Rattle.tree.specs.Part.{Part, next_low}
use Rattle.tree.specs.Lookup.{lookup}
use Rattle.buffer.specs.Buffer.{held}
use Rattle.node.specs.Memory.{entries_of, node_in, EntryAt, Loaded}
use Rattle.node.specs.declared.Entries.{Entries}
use Rattle.node.specs.declared.NodeValue.{NodeValue}
use Rattle.update_theory.specs.Held.{Held, insert_all}
use Rattle.update_theory.specs.Change.{part, Sound}
use Rattle.update_theory.specs.Open.{under, Open}
use Rattle.update_theory.proofs.Loose.{opened}
use Rattle.update_theory.proofs.Node.{ready_by}
use Rattle.update_theory.proofs.Open.{held_of, open-read, open-node, open-lowest}
use Rattle.update_theory.proofs.Settle.{open-inserts, open-deletes, open-spill}
use Rattle.update_theory.proofs.Spread.{start, child_at}
use Rattle.edit.specs.Edits.{held_in, Threshold, Spilled}
use Rattle.choose.specs.Choices.{ChildFor}
use Rattle.choose.proofs.Found.{floor_at, child-holds}
use Rattle.batch.specs.Batches.{batch_says, Receives, TakenIn}

-- ---- the child that a batch is for

-- the c-th of some entries begins what is left of them from c on
entry_first : (es : List Entry) (c : ℕ) (e : Entry) → c < length es → EntryAt es c e → drop c es ≡ e ∷ drop (suc c) es
entry_first es c e h a =
    let w : length (take c es) ≡ c = length-take-le c es (omega arith) in
    ap (drop c) a.split ∙ drop_at (take c es) (e ∷ drop (suc c) es) c w

start-floor : (lo : ℕ) (es : List Entry) (c : ℕ) (e : Entry) → c < length es → EntryAt es c e → start lo (take c es) e.low ≡ floor_at lo es c
start-floor lo es zero e h a = refl
start-floor lo [] (suc c) e h a = absurd (Memᴰ.not-nil a.there)
start-floor lo (x ∷ es) (suc c) e h a = sym (ap (λ (ys : List Entry). next_low ys 0) (entry_first (x ∷ es) (suc c) e h a))

-- a key for the c-th child lies in its range
pub child-range : (lo hi : ℕ) (es : List Entry) (k c : ℕ) (e : Entry) → ChildFor es k c → EntryAt es c e → within lo hi k ≡ true
    → within (child_at lo hi (take c es) (drop (suc c) es) e).lo (child_at lo hi (take c es) (drop (suc c) es) e).hi k ≡ true
child-range lo hi es k c e f a w =
    ap (λ (z : ℕ). within z (next_low (drop (suc c) es) hi) k) (start-floor lo es c e f.there a)
    ∙ child-holds es k lo hi c f (within-from lo hi k w) (within-to lo hi k w) e

-- ---- a node as it is loaded

names_apart : (n : Node) → distinct (names n) ≡ true → Apart (keys n.points) (keys n.inserts)
unfolding names
names_apart n h = (distinct-split (keys n.points) (keys n.inserts) (distinct-left (keys n.points ++ keys n.inserts) n.deletes h)).off

-- takes in a batch
pub receives : (l : ℕ) (a : Asked) (t : List ℕ) (b : ℕ) (n : NodeValue) (ni nd : ℕ) → node_ok l a (store_of t b) ≡ true → Loaded t b n → ni ≤ 16 → nd ≤ 16 → Receives n ni nd
receives l a t b n ni nd ok d hi hd =
    record {
      tidy = record { points = d.points; inserts = d.inserts; deletes = d.deletes };
      points = d.storable.points;
      inserts = d.storable.inserts;
      deletes = d.storable.deletes;
      apart = subst (λ (v : Node). Apart (keys v.points) (keys v.inserts)) (sym d.is) (names_apart (store_of t b) (node-facts l a (store_of t b) ok).once);
      few_i = hi;
      few_d = hd;
    }

-- ---- the node over its children

-- a leaf has nothing below: 0 serves as the lowest rank
pub open-leaf : (l : ℕ) (m : Store) (p : Part) → p.lo ≤ p.hi → Sound (suc l) m (p ∷ []) → (m p.block).level ≡ 0
    → Open l m p.lo p.hi 0 (m p.block).entries (held_of (m p.block)) (λ k. lookup (suc l) m k p)
open-leaf l m p h s e =
    let n = m p.block in
    let b = (node-facts l p.asked n (opened l m p s).ok).leaf-bare e in
    open-read l m p h s
    (λ each rules. ready_by l m p n each rules 0 (λ k i. omega arith) (λ k i. absurd (Memᴰ.not-nil (subst (λ (ss : List Spot). Memᴰ k (keys ss)) b.1 i)))
    (λ k i. absurd (Memᴰ.not-nil (subst (λ (ks : List ℕ). Memᴰ k ks) b.2 i)))
    (λ k a i. absurd (some-ne-none _ (sym i ∙ ap (λ (es : List Entry). under l m p.lo p.hi es k) b.0))))

-- P's lowest went to I, one after the other
pub open-spilled : (l : ℕ) (m : Store) (lo hi : ℕ) → hi ≤ all_keys → (r : ℕ) (es : List Entry) (b c : Held) (f : ℕ → Option ℕ) → Spilled b c → Open l m lo hi r es b f
    → (r' : ℕ) × Open l m lo hi r' es c f
open-spilled l m lo hi full r es b c f Spilled.none o = (r, o)
open-spilled l m lo hi full r es b c f (Spilled.more q a s) o =
    open-spilled l m lo hi full (suc (rank_key q.key)) es _ c f s (open-spill l m lo hi full r es b f o q a.there a.least)

module _ (l : ℕ) (x : Store) (b : ℕ) (a : Asked) (lo hi : ℕ) (order : lo ≤ hi) (full : hi ≤ all_keys) (sound : Sound (suc l) x (part b a lo hi ∷ []))
    (room : ℕ) (n : NodeValue) (is : node_in room n ≡ x b) where
  -- what is found through it
  abbrev before : ℕ → Option ℕ
  before k = lookup (suc l) x k (part b a lo hi)

  -- the node in memory for the one in its block
  in_memory : (r rank : ℕ) → r ≡ rank → Open l x lo hi r (x b).entries (held_of (x b)) before → Open l x lo hi rank (entries_of n.entries) (held_in n) before
  in_memory r rank e o =
      subst (λ (z : ℕ). Open l x lo hi z (entries_of n.entries) (held_in n) before) e
      (subst (λ (v : Node). Open l x lo hi r v.entries (held_of v) before) (sym is) o)

  ok : node_ok l a (x b) ≡ true
  ok = (opened l x (part b a lo hi) sound).ok

  -- a P under 32 is that of a node with nothing below
  thin : n.points.n < 32 → lowest (x b) ≡ true
  unfolding filled
  thin h =
      ⊎_elim
      (λ (w : filled (x b) ≡ true).
      let g : 32 ≤ length (x b).points = leb-true 32 (length (x b).points) (all-at _ w 0) in
      let e : length (held n.points) ≡ length (x b).points = ap (λ (v : Node). length v.points) is in
      absurd (omega (arith, length-take n.points.n n.points.spots)))
      (λ w. w)
      (node-facts l a (x b) ok).kind

  -- as it is loaded, the threshold is its lowest rank
  pub open-loaded : (rank : ℕ) → Threshold n rank → Open l x lo hi rank (entries_of n.entries) (held_in n) before
  open-loaded rank t =
      ⊎_elim
      (λ (z : n.level ≡ 0). in_memory 0 rank (sym (t.nothing (inl z))) (open-leaf l x p order sound (sym (ap (λ (v : Node). v.level) is) ∙ z)))
      (λ (z : n.level ≡ 0 → ⊥).
      ⊎_elim
      (λ (g : 32 ≤ n.points.n).
      let q = t.lowest z g in
      let e : held n.points ≡ (x b).points = ap (λ (v : Node). v.points) is in
      in_memory (rank_key q.0.key) rank (sym q.2)
      (open-node l x p order sound q.0.key (subst (λ (ss : List Spot). Memᴰ q.0.key (keys ss)) e (find-mem q.0.key (held n.points) q.1.there))
      (λ k i. q.1.least k (subst (λ (ss : List Spot). Memᴰ k (keys ss)) (sym e) i))))
      (λ (g : n.points.n < 32). in_memory 0 rank (sym (t.nothing (inr g))) (open-lowest l x p order sound (thin g)))
      (less-or-not 32 n.points.n))
      (same_or_not n.level 0)
    where
      p : Part
      p = part b a lo hi

  -- once it took in a batch
  pub taken-open : (ss : List Spot) (ks : List ℕ) (ni nd : ℕ) (r : NodeValue) → ((k : ℕ) → Memᴰ k (keys ss) → within lo hi k ≡ true)
      → ((k : ℕ) → Memᴰ k ks → within lo hi k ≡ true) → TakenIn n ss ks ni nd r
      → (r' : ℕ) × Open l x lo hi r' (entries_of r.entries) (held_in r) (λ k. batch_says ss ks k (before k))
  taken-open ss ks ni nd r wI wD t =
      let es = entries_of n.entries in
      let o = open-loaded t.rank t.threshold in
      let i = open-inserts l x lo hi full t.rank es (held_in n) before o ss wI in
      let d = open-deletes l x lo hi full t.rank es (insert_all t.rank ss (held_in n)) _ i ks wD in
      let s = open-spilled l x lo hi full t.rank es _ (held_in r) _ t.spilled d in
      (s.0, subst (λ (z : Entries). Open l x lo hi s.0 (entries_of z) (held_in r) (λ k. batch_says ss ks k (before k))) (sym t.entries) s.1)
