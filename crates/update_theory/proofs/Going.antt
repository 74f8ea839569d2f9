-- An update under way at one node, step by step: its start, a change of the buffers, a change of a child, and the node stored.
-- Assumes nothing.
use mathlib.Core.Path.{◌≡◌, refl, subst}
use mathlib.Core.List.{List, [], ◌∷◌, ◌++◌, Memᴰ}
use mathlib.Core.Option.{Option}
use Prim.Native.Nat.{ℕ, suc}
use Rattle.octets.specs.Sets.{Apart}
use Rattle.block.specs.declared.Entry.{Entry}
use Rattle.block.specs.Node.{Node, Store}
use Rattle.block.specs.declared.Asked.{Asked}
use Rattle.tree.specs.Part.{Part, next_low, parts}
use Rattle.tree.specs.Reach.{reach}
use Rattle.update_theory.specs.Held.{Held}
use Rattle.update_theory.specs.Change.{part, reaches, Sound, Changed}
use Rattle.update_theory.specs.Spare.{Taken, Within}
use Rattle.update_theory.specs.Open.{under, Open}
use Rattle.update_theory.specs.Going.{Going}
use Rattle.update_theory.proofs.Change.{changed-refl}
use Rattle.update_theory.proofs.Spread.{child_at, parts-one}
use Rattle.update_theory.proofs.Open.{held_of, open-changed}
use Rattle.update_theory.proofs.Close.{Shape, settle-one}
use Rattle.update_theory.proofs.Spare.{spare-left, spare-trans, sound-one, apart-one}

-- before anything is done
pub going_start : (l lo hi : ℕ) (x : Store) (s : List ℕ) (r : ℕ) (es : List Entry) (b : Held) (f : ℕ → Option ℕ) → Open l x lo hi r es b f → Apart s (reaches l x (parts lo hi es))
    → Going l lo hi x s es x s r es b f
going_start l lo hi x s r es b f o a =
    record { node = o; changed = changed-refl l (Taken s s) x (parts lo hi es) (λ z t. t.1 t.0) o.kids; spare = a; less = λ z i. i }

-- only the node in memory changed
pub going-held : (l lo hi : ℕ) (x : Store) (s : List ℕ) (es₀ : List Entry) (y : Store) (s' : List ℕ) (r r' : ℕ) (es : List Entry) (b b' : Held) (f g : ℕ → Option ℕ)
    → Going l lo hi x s es₀ y s' r es b f → Open l y lo hi r' es b' g → Going l lo hi x s es₀ y s' r' es b' g
going-held l lo hi x s es₀ y s' r r' es b b' f g a o = record { node = o; changed = a.changed; spare = a.spare; less = a.less }

module _ (l lo hi : ℕ) (x : Store) (s : List ℕ) (es₀ : List Entry) (y : Store) (s' : List ℕ) (r : ℕ) (us vs : List Entry) (e : Entry) (b : Held) (f : ℕ → Option ℕ)
    (a : Going l lo hi x s es₀ y s' r (us ++ (e ∷ vs)) b f) where
  -- the spare blocks left aren't reached
  going-spare : Apart s' (reaches l y (parts lo hi (us ++ (e ∷ vs))))
  going-spare = spare-left l s s' x (parts lo hi es₀) y (parts lo hi (us ++ (e ∷ vs))) (under l y lo hi (us ++ (e ∷ vs))) a.less a.spare a.changed

  going-parts : parts lo hi (us ++ (e ∷ vs)) ≡ parts lo e.low us ++ ((child_at lo hi us vs e ∷ []) ++ parts (next_low vs hi) hi vs)
  going-parts = parts-one lo hi us vs e

  -- what a call on the child needs: it is sound, and the spare blocks are none of its own
  pub going-child : Sound l y (child_at lo hi us vs e ∷ []) × Apart s' (reaches l y (child_at lo hi us vs e ∷ []))
  going-child = (
    sound-one l y (parts lo e.low us) (child_at lo hi us vs e) (parts (next_low vs hi) hi vs) (rw going-parts at a.node.kids),
    apart-one l y s' (parts lo e.low us) (child_at lo hi us vs e) (parts (next_low vs hi) hi vs) (subst (λ (ps : List Part). Apart s' (reaches l y ps)) going-parts going-spare),
  )

  -- blocks taken of them are new
  pub going-fresh : (s'' : List ℕ) (z : ℕ) → Taken s' s'' z → Memᴰ z (reaches l y (parts lo hi (us ++ (e ∷ vs)))) → ⊥
  going-fresh s'' z t i = going-spare z t.0 i

  -- the child changed, by the store w and the spare blocks s'', and the node in memory with it (by any of open-fill-.., open-push-..)
  pub going_on : (w : Store) (s'' : List ℕ) (e' : Entry) (es : List Entry) (g h : ℕ → Option ℕ) (r' : ℕ) (b' : Held) → Within s'' s' → e'.low ≡ e.low
      → Changed l (Taken s' s'') y (child_at lo hi us vs e ∷ []) w (parts (child_at lo hi us vs e).lo (child_at lo hi us vs e).hi (e' ∷ es)) g
      → Open l w lo hi r' (us ++ ((e' ∷ es) ++ vs)) b' h
      → Going l lo hi x s es₀ w s'' r' (us ++ ((e' ∷ es) ++ vs)) b' h
  going_on w s'' e' es g h r' b' less low c o =
      let d = open-changed l (Taken s' s'') y w lo hi r us vs e e' es b f g low a.node (going-fresh s'') c in
      let q = spare-trans l s s' s'' x (parts lo hi es₀) y (parts lo hi (us ++ (e ∷ vs))) w (parts lo hi (us ++ ((e' ∷ es) ++ vs))) (under l y lo hi (us ++ (e ∷ vs))) _ a.less less a.changed d in
      record {
        node = o;
        changed = record { sound = q.sound; span = q.span; found = λ k i. refl; reached = q.reached; still = q.still; kept = q.kept };
        spare = a.spare;
        less = λ z i. a.less z (less z i);
      }

-- THE END: the node is stored in its block. With f, this is settle's promise for one entry, and take_top's.
pub going_done : (l : ℕ) (x y w : Store) (p : Part) (a : Asked) (s s' : List ℕ) (r : ℕ) (n : Node) (f : ℕ → Option ℕ) → Sound (suc l) x (p ∷ []) → Apart s (reach (suc l) x p)
    → Going l p.lo p.hi x s (x p.block).entries y s' r n.entries (held_of n) f → Shape l p.block a p.lo p.hi n
    → w p.block ≡ n → ((z : ℕ) → (z ≡ p.block → ⊥) → w z ≡ y z)
    → Changed (suc l) (Taken s s') x (p ∷ []) w (part p.block a p.lo p.hi ∷ []) f
going_done l x y w p a s s' r n f sound apart g h at_block else =
    settle-one l (Taken s s') x y w p a r n f (under l y p.lo p.hi n.entries) sound (λ z t i. apart z t.0 i) g.changed g.node h at_block else
