-- Where two unread parts show one rank and one block, the walk of Top breaks: the block is reached twice.
-- Assumes nothing.
use mathlib.Core.Path.{◌≡◌, refl, ap, sym, subst}
use mathlib.Core.Logic.{⊎_elim}
use mathlib.Core.Bool.{Bool, true, false}
use mathlib.Core.List.Memᴰ
use mathlib.Core.List.{List, [], ◌∷◌, ◌++◌, Memᴰ}
use Prim.Native.Nat.{ℕ, suc, ◌<◌}
use native.Mathlib.Omega.{arith}
use lib.ListN.{length}
use lib.IntN.{ℤ}
use Rattle.octets.specs.Lists.{has}
use Rattle.octets.proofs.Lists.{mem-more}
use Rattle.octets.proofs.Sets.{mem-has}
use Rattle.spot.specs.Query.{top_query}
use Rattle.spot.specs.declared.Spot.{Spot}
use Rattle.spot.specs.declared.Query.{Query}
use Rattle.block.specs.Node.{store_of}
use Rattle.block.specs.NodeRules.{node_ok}
use Rattle.tree.specs.Walk.{broken}
use Rattle.tree.specs.Top.{top_walk}
use Rattle.tree.specs.BestFirst.{Pending, promised, opened, shown, NonePromises}
use Rattle.tree.proofs.BestFirstParts.{Fit, opened-under, shown-under}
use Rattle.tree.proofs.BestFirstSteps.{NoneRanks}
use Rattle.tree.proofs.BestFirst.{Progress, read-part, broken-node, broken-twice}
use Rattle.within_theory.proofs.Following.{Ties}

mem-split : {A : Type 0} (xs : List A) {x : A} → Memᴰ x xs → (us : List A) × (vs : List A) × (xs ≡ us ++ (x ∷ vs))
mem-split [] i = absurd (Memᴰ.not-nil i)
mem-split {A} (y ∷ ys) {x} i =
    ⊎_elim (λ (e : x ≡ y). ([], ys, ap (λ (z : A). z ∷ ys) (sym e))) (λ j. let r = mem-split ys j in (y ∷ r.0, r.1, ap (λ (l : List A). y ∷ l) r.2))
    (Memᴰ.cases_cons i)

module _ (t : List ℕ) (x1 x2 : ℤ) (k : ℕ) (p : Pending) (vs : List Pending) (found given : List Spot) (blocks : List ℕ)
    (g : Progress t x1 x2 k (p ∷ vs) found given blocks) (most : NonePromises (promised p) vs) (low : NoneRanks (promised p) found) (room : length given < k)
    (l : ℕ) (e : p.levels ≡ suc l) (u : Pending) (other : Memᴰ u vs) (tied : Ties p u) where
  abbrev q : Query
  q = top_query x1 x2 0

  -- once p is read, u leads to a block that was read
  after : node_ok l p.part.asked (store_of t p.part.block) ≡ true → has p.part.block blocks ≡ false → top_walk t x1 x2 k ≡ broken
  after ok new =
      let ps = opened (store_of t) q l p ++ vs in
      let r = mem-split ps (Memᴰ.append_right (opened (store_of t) q l p) other) in
      let fits : Fit t q p = g.fit p (Memᴰ.head refl) in
      broken-twice t x1 x2 k r.0 u r.1 (shown (store_of t) q p ++ found) given (p.part.block ∷ blocks)
      (subst (λ (us : List Pending). Progress t x1 x2 k us (shown (store_of t) q p ++ found) given (p.part.block ∷ blocks)) r.2
      (read-part t x1 x2 k [] p vs found given blocks g most low room l e ok new))
      (λ v i.
      ⊎_elim (λ j. omega (arith, opened-under t q l p fits e ok v j, tied.0)) (λ j. omega (arith, most v j, tied.0))
      (Memᴰ.append_cases (opened (store_of t) q l p) (subst (λ (us : List Pending). Memᴰ v us) (sym r.2) (mem-more r.0 u r.1 i))))
      (λ s i.
      ⊎_elim (λ j. omega (arith, shown-under t q l p fits e ok s j, tied.0)) (λ j. omega (arith, low s j, tied.0))
      (Memᴰ.append_cases (shown (store_of t) q p) i))
      room
      (mem-has u.part.block (p.part.block ∷ blocks) (Memᴰ.head tied.1))

  pub broken-tied : top_walk t x1 x2 k ≡ broken
  broken-tied = go (node_ok l p.part.asked (store_of t p.part.block)) (has p.part.block blocks) refl refl
    where
      go : (a b : Bool) → node_ok l p.part.asked (store_of t p.part.block) ≡ a → has p.part.block blocks ≡ b → top_walk t x1 x2 k ≡ broken
      go false b h n = broken-node t x1 x2 k [] p vs found given blocks g most low room l e h
      go true true h n = broken-twice t x1 x2 k [] p vs found given blocks g most low room n
      go true false h n = after h n
