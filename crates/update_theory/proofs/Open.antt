-- A node in memory during an update: how it comes from a node that is read, and goes on when its buffers, the store elsewhere or a child change.
-- Assumes nothing.
use mathlib.Core.Path.{◌≡◌, ap, sym, ◌∙◌}
use mathlib.Core.Bool.{true, cond}
use mathlib.Core.List.{List, [], ◌∷◌, ◌++◌, Memᴰ}
use mathlib.Core.Option.{Option}
use Prim.Native.Nat.{ℕ, suc, ◌≤◌}
use Rattle.spot.specs.declared.Spot.{Spot}
use Rattle.spot.specs.Spots.{keys}
use Rattle.spot.specs.Keys.{rank_key, within}
use Rattle.block.specs.declared.Entry.{Entry}
use Rattle.block.specs.Node.{Node, Store}
use Rattle.block.specs.NodeRules.{lowest}
use Rattle.octets.specs.Lists.{every}
use Rattle.tree.specs.Part.{Part, parts, children, Steps}
use Rattle.tree.specs.Sound.{sound_at}
use Rattle.tree.specs.Lookup.{lookup}
use Rattle.tree.proofs.Frame.{Same, reaches_same, sounds-same, lookups-same}
use Rattle.tree.proofs.Ranges.{steps_of}
use Rattle.update_theory.specs.Held.{Held}
use Rattle.update_theory.specs.Change.{reaches, Sound, Changed}
use Rattle.update_theory.specs.Open.{says, NodeReady, Fit, under, Open}
use Rattle.update_theory.proofs.Spread.{child_at, child-found, child-changed, child-steps}
use Rattle.update_theory.proofs.Ready.{ready-fewer}
use Rattle.update_theory.proofs.Loose.{lookup-step, opened}
use Rattle.update_theory.proofs.Node.{beneath, Rules, rules-of, ready_of, ready-lowest}

-- the buffers of a node
abbrev pub held_of : Node → Held
held_of n = record { points = n.points; inserts = n.inserts; deletes = n.deletes }

-- a node that is read is open, as soon as its buffers are ready
pub open-read : (l : ℕ) (m : Store) (p : Part) → p.lo ≤ p.hi → Sound (suc l) m (p ∷ []) → {r : ℕ}
    → (every (sound_at l m) (children p (m p.block)) ≡ true → Rules l p (m p.block) → Fit p.lo p.hi r (held_of (m p.block)) (beneath l m p (m p.block)))
    → Open l m p.lo p.hi r (m p.block).entries (held_of (m p.block)) (λ k. lookup (suc l) m k p)
open-read l m p h s ready =
    let o = opened l m p s in
    let n = m p.block in
    record {
      kids = o.kids;
      steps = steps_of l p n h o.ok o.inside;
      ready = ready o.kids.each (rules-of l p n o.ok o.inside);
      found = λ k w. sym (lookup-step l m k p);
    }

-- its P isn't empty, and q is the lowest of it
pub open-node : (l : ℕ) (m : Store) (p : Part) → p.lo ≤ p.hi → Sound (suc l) m (p ∷ []) → (q : ℕ) → Memᴰ q (keys (m p.block).points)
    → ((k : ℕ) → Memᴰ k (keys (m p.block).points) → rank_key q ≤ rank_key k)
    → Open l m p.lo p.hi (rank_key q) (m p.block).entries (held_of (m p.block)) (λ k. lookup (suc l) m k p)
open-node l m p h s q i least = open-read l m p h s (λ each rules. ready_of l m p (m p.block) each rules q i least)

-- or it is one of the lowest, with nothing below: 0 serves as the lowest rank
pub open-lowest : (l : ℕ) (m : Store) (p : Part) → p.lo ≤ p.hi → Sound (suc l) m (p ∷ []) → lowest (m p.block) ≡ true
    → Open l m p.lo p.hi 0 (m p.block).entries (held_of (m p.block)) (λ k. lookup (suc l) m k p)
open-lowest l m p h s e = open-read l m p h s (λ each rules. ready-lowest l m p (m p.block) each rules e)

-- only the buffers change
pub open-held : (l : ℕ) (m : Store) (lo hi r r' : ℕ) (es : List Entry) (b b' : Held) (f g : ℕ → Option ℕ) → Open l m lo hi r es b f
    → Fit lo hi r' b' (under l m lo hi es) → ((k : ℕ) → within lo hi k ≡ true → says b' k (under l m lo hi es k) ≡ g k)
    → Open l m lo hi r' es b' g
open-held l m lo hi r r' es b b' f g o a e = record { kids = o.kids; steps = o.steps; ready = a; found = e }

-- the store changes elsewhere
ready-ext : (lo hi r : ℕ) (P I : List Spot) (D : List ℕ) (below below' : ℕ → Option ℕ) → ((k : ℕ) → below' k ≡ below k) → NodeReady lo hi r P I D below → NodeReady lo hi r P I D below'
ready-ext lo hi r P I D below below' e h = ready-fewer h h.up_p h.up_i h.up_d (λ k i. i) (λ k i. i) (λ k i. i) (λ k a i. h.deep k a (sym (e k) ∙ i))

-- the node in memory stays what it was
pub open-frame : (l : ℕ) (x y : Store) (lo hi r : ℕ) (es : List Entry) (b : Held) (f : ℕ → Option ℕ) → Same x y (reaches l x (parts lo hi es)) → Open l x lo hi r es b f → Open l y lo hi r es b f
open-frame l x y lo hi r es b f a o =
    let e = lookups-same x y l (parts lo hi es) a in
    record {
      kids = record { each = sounds-same x y l (parts lo hi es) a ∙ o.kids.each; once = rw (reaches_same x y l (parts lo hi es) a) o.kids.once; led = o.kids.led };
      steps = o.steps;
      ready = ready-ext lo hi r b.points b.inserts b.deletes (under l x lo hi es) (under l y lo hi es) e o.ready;
      found = λ k w. ap (says b k) (e k) ∙ o.found k w;
    }

-- A child changes, into one or more, and the buffers with it. `after` is what is then found below.
module _ (l : ℕ) (New : ℕ → Type 0) (x y : Store) (lo hi r : ℕ) (us vs : List Entry) (e e' : Entry) (es : List Entry) (b : Held) (f g : ℕ → Option ℕ)
    (low : e'.low ≡ e.low) (o : Open l x lo hi r (us ++ (e ∷ vs)) b f)
    (fresh : (z : ℕ) → New z → Memᴰ z (reaches l x (parts lo hi (us ++ (e ∷ vs)))) → ⊥)
    (c : Changed l New x (child_at lo hi us vs e ∷ []) y (parts (child_at lo hi us vs e).lo (child_at lo hi us vs e).hi (e' ∷ es)) g) where
  -- what is found below then
  abbrev pub after : ℕ → Option ℕ
  after k = cond (within (child_at lo hi us vs e).lo (child_at lo hi us vs e).hi k) (g k) (under l x lo hi (us ++ (e ∷ vs)) k)

  is-after : (k : ℕ) → under l y lo hi (us ++ ((e' ∷ es) ++ vs)) k ≡ after k
  is-after = child-found l New x y lo hi us vs e e' es g low o.steps o.kids fresh c

  -- all children then
  pub open-changed : Changed l New x (parts lo hi (us ++ (e ∷ vs))) y (parts lo hi (us ++ ((e' ∷ es) ++ vs))) after
  open-changed = child-changed l New x y lo hi us vs e e' es g low o.steps o.kids fresh c

  -- the node in memory over the changed child
  pub open-child : Steps (child_at lo hi us vs e).lo (child_at lo hi us vs e).hi (e' ∷ es) → (r' : ℕ) (b' : Held) (h : ℕ → Option ℕ) → Fit lo hi r' b' after
      → ((k : ℕ) → within lo hi k ≡ true → says b' k (after k) ≡ h k)
      → Open l y lo hi r' (us ++ ((e' ∷ es) ++ vs)) b' h
  open-child st r' b' h a q =
      record {
        kids = open-changed.sound;
        steps = child-steps l New x y lo hi us vs e e' es g low o.steps st;
        ready = ready-ext lo hi r' b'.points b'.inserts b'.deletes after (under l y lo hi (us ++ ((e' ∷ es) ++ vs))) is-after a;
        found = λ k w. ap (says b' k) (is-after k) ∙ q k w;
      }
