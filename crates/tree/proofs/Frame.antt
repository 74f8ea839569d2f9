-- What a part says depends on the blocks reached in it only.
-- Assumes nothing.
use mathlib.Core.Path.{◌≡◌, refl, ap}
use mathlib.Core.Bool.{Bool}
use mathlib.Core.List.{List, [], ◌∷◌, Memᴰ}
use Prim.Native.Nat.{ℕ, zero, suc}
use Rattle.octets.specs.Lists.{all, every}
use Rattle.block.specs.Node.{Store}
use Rattle.block.specs.NodeRules.{node_ok}
use Rattle.tree.specs.Part.{Part, children}
use Rattle.tree.specs.Lookup.{down, lookup}
use Rattle.tree.specs.Reach.{gather, reach}
use Rattle.tree.specs.Sound.{sound_at, in_range}
use Rattle.tree.proofs.Gather.{gather-in, gather_cong, every-cong, down-cong}

-- the stores agree on these blocks
abbrev pub Same : Store → Store → List ℕ → Type 0
Same x y bs = (z : ℕ) → Memᴰ z bs → y z ≡ x z

module _ (x y : Store) where
  -- the blocks reached in a child are reached in the part
  under : (l : ℕ) (p : Part) → Same x y (reach (suc l) x p) → (c : Part) → Memᴰ c (children p (x p.block)) → Same x y (reach l x c)
  unfolding reach
  under l p a c h z i = a z (Memᴰ.tail (gather-in (reach l x) (children p (x p.block)) c h i))

  here : (l : ℕ) (p : Part) → Same x y (reach (suc l) x p) → y p.block ≡ x p.block
  unfolding reach
  here l p a = a p.block (Memᴰ.head refl)

  -- the blocks reached
  pub reach-same : (l : ℕ) (p : Part) → Same x y (reach l x p) → reach l y p ≡ reach l x p
  unfolding reach
  reach-same zero p a = refl
  reach-same (suc l) p a =
      rw (here l p a) (ap (λ (b : List ℕ). p.block ∷ b) (gather_cong _ _ (children p (x p.block)) (λ c h. reach-same l c (under l p a c h))))

  -- soundness
  pub sound-same : (l : ℕ) (p : Part) → Same x y (reach l x p) → sound_at l y p ≡ sound_at l x p
  unfolding sound_at
  sound-same zero p a = refl
  sound-same (suc l) p a =
      rw (here l p a)
      (ap (λ (b : Bool). all (node_ok l p.asked (x p.block) ∷ in_range p (x p.block) ∷ b ∷ []))
      (every-cong _ _ (children p (x p.block)) (λ c h. sound-same l c (under l p a c h))))

  -- and what is live depend on these blocks only
  pub lookup-same : (l : ℕ) (k : ℕ) (p : Part) → Same x y (reach l x p) → lookup l y k p ≡ lookup l x k p
  unfolding lookup
  lookup-same zero k p a = refl
  lookup-same (suc l) k p a =
      rw (here l p a, down-cong (lookup l y k) (lookup l x k) k (children p (x p.block)) (λ c h. lookup-same l k c (under l p a c h)))

  -- the same over a list of parts, which is what a node in memory has below it
  module _ (l : ℕ) (ps : List Part) (a : Same x y (gather (reach l x) ps)) where
    each : (c : Part) → Memᴰ c ps → Same x y (reach l x c)
    each c h z i = a z (gather-in (reach l x) ps c h i)

    pub reaches_same : gather (reach l y) ps ≡ gather (reach l x) ps
    reaches_same = gather_cong _ _ ps (λ c h. reach-same l c (each c h))

    pub sounds-same : every (sound_at l y) ps ≡ every (sound_at l x) ps
    sounds-same = every-cong _ _ ps (λ c h. sound-same l c (each c h))

    pub lookups-same : (k : ℕ) → down (lookup l y k) k ps ≡ down (lookup l x k) k ps
    lookups-same k = down-cong _ _ k ps (λ c h. lookup-same l k c (each c h))
