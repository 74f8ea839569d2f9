-- The nodes of a sound part: each keeps the rules, its range lies in the part's, and its blocks are among the part's.
-- Assumes nothing.
use mathlib.Core.Path.{◌≡◌, refl, sym, subst}
use mathlib.Core.Logic.{⊎_elim}
use mathlib.Core.Bool.{true, false≢true}
use mathlib.Core.List.Memᴰ
use mathlib.Core.List.{List, Memᴰ}
use Prim.Native.Nat.{ℕ, zero, suc}
use Rattle.octets.specs.Lists.{every}
use Rattle.octets.proofs.Tests.{all-at, every-mem}
use Rattle.block.specs.Node.{Store}
use Rattle.block.specs.Table.{block}
use Rattle.block.specs.NodeRules.{node_ok}
use Rattle.tree.specs.Part.{Part, children}
use Rattle.tree.specs.Reach.{reach}
use Rattle.tree.specs.Sound.{in_range, sound_at}
use Rattle.tree.proofs.Gather.{gather-mem, gather-in}

-- c is a node of the part p: its uppermost, or a child of one
pub data NodeOf (m : Store) (p : Part) : Part → Type 0 where
  start : {c : Part} → c ≡ p → NodeOf m p c
  child : {d c : Part} → NodeOf m p d → Memᴰ c (children d (m d.block)) → NodeOf m p c

-- a node of a node is a node
pub node-of-child : (m : Store) {p c d : Part} → NodeOf m p c → NodeOf m c d → NodeOf m p d
node-of-child m {p} r (start e) = subst (λ (x : Part). NodeOf m p x) (sym e) r
node-of-child m r (child x k) = child (node-of-child m r x) k

-- ---- blocks

-- the part c of the part p, with the levels left there: it is sound, and what `blocks` has of it, it has of p
pub record Inside (m : Store) (blocks : ℕ → Part → List ℕ) (l : ℕ) (p c : Part) : Type 0 where
  pub left : ℕ
  pub sound-there : sound_at left m c ≡ true
  pub within_all : (b : ℕ) → Memᴰ b (blocks left c) → Memᴰ b (blocks l p)

-- the part itself
pub inside-all : (m : Store) (blocks : ℕ → Part → List ℕ) (l : ℕ) (p : Part) → sound_at l m p ≡ true → {c : Part} → c ≡ p → Inside m blocks l p c
inside-all m blocks l p s e = subst (λ (x : Part). Inside m blocks l p x) (sym e) (record { left = l; sound-there = s; within_all = λ b j. j })

-- a child of such a part
pub inside-child : (m : Store) (blocks : ℕ → Part → List ℕ) (l : ℕ) (p d c : Part) → Inside m blocks l p d → Memᴰ c (children d (m d.block))
    → ((i : ℕ) → sound_at i m c ≡ true → (b : ℕ) → Memᴰ b (blocks i c) → Memᴰ b (blocks (suc i) d))
    → Inside m blocks l p c
unfolding sound_at
inside-child m blocks l p d c v k f = go v.left v.sound-there v.within_all
  where
    go : (i : ℕ) → sound_at i m d ≡ true → ((b : ℕ) → Memᴰ b (blocks i d) → Memᴰ b (blocks l p)) → Inside m blocks l p c
    go zero s w = absurd (false≢true s)
    go (suc i) s w =
        let u = every-mem (sound_at i m) (children d (m d.block)) (all-at _ s 2) k in
        record { left = i; sound-there = u; within_all = λ b j. w b (f i u b j) }

-- every node is one, as to the blocks reached
node-reached : (l : ℕ) (m : Store) (p : Part) → sound_at l m p ≡ true → {c : Part} → NodeOf m p c → Inside m (λ i x. reach i m x) l p c
unfolding reach
node-reached l m p s (start e) = inside-all m (λ i x. reach i m x) l p s e
node-reached l m p s (child {d = d} {c = c} r k) =
    inside-child m (λ i x. reach i m x) l p d c (node-reached l m p s r) k (λ i u b j. Memᴰ.tail (gather-in (reach i m) (children d (m d.block)) c k j))

-- a block reached is that of a node
pub reach-node : (l : ℕ) (m : Store) (p : Part) {b : ℕ} → Memᴰ b (reach l m p) → (c : Part) × NodeOf m p c × (c.block ≡ b)
unfolding reach
reach-node zero m p k = absurd (Memᴰ.not-nil k)
reach-node (suc l) m p k =
    ⊎_elim (λ e. (p, start refl, sym e))
    (λ j.
    let g = gather-mem (reach l m) (children p (m p.block)) j in
    let r = reach-node l m g.0 g.2 in
    (r.0, node-of-child m (child (start refl) g.1) r.1, r.2))
    (Memᴰ.cases_cons k)

-- ---- rules

-- a node that keeps the rules, with as many levels below it as its level
pub record Stands (m : Store) (c : Part) : Type 0 where
  pub left : ℕ
  pub ok : node_ok left c.asked (m c.block) ≡ true
  pub range : in_range c (m c.block) ≡ true
  pub below : every (sound_at left m) (children c (m c.block)) ≡ true

stands : (l : ℕ) (m : Store) (c : Part) → sound_at l m c ≡ true → Stands m c
unfolding sound_at
stands zero m c s = absurd (false≢true s)
stands (suc l) m c s = record { left = l; ok = all-at _ s 0; range = all-at _ s 1; below = all-at _ s 2 }

-- every node does
pub node-stands : (l : ℕ) (m : Store) (p : Part) → sound_at l m p ≡ true → {c : Part} → NodeOf m p c → Stands m c
node-stands l m p s {c} r = let v = node-reached l m p s r in stands v.left m c v.sound-there

-- and so do its children
pub child-sound : (m : Store) (d : Part) (w : Stands m d) {c : Part} → Memᴰ c (children d (m d.block)) → sound_at w.left m c ≡ true
child-sound m d w k = every-mem (sound_at w.left m) (children d (m d.block)) w.below k
