-- How a list of entries is cut, and what follows when a child becomes one or more others.
-- Assumes nothing.
use mathlib.Core.Path.{◌≡◌, refl, ap, sym, subst⁻¹, ◌∙◌}
use mathlib.Core.Bool.{or-false, Bool, true, false, cond, ◌||◌}
use mathlib.Core.List.Memᴰ
use mathlib.Core.List.{List, [], ◌∷◌, ◌++◌, Memᴰ}
use mathlib.Core.Option.{Option}
use Prim.Native.Nat.{ℕ, ◌≤◌}
use native.Mathlib.Omega.{arith}
use borrow.Author.Tests.{eqb-true}
use Rattle.spot.specs.Keys.{within}
use Rattle.spot.proofs.Places.{within-high, within-from, within-join}
use Rattle.block.specs.declared.Entry.{Entry}
use Rattle.block.specs.Node.{Store}
use Rattle.block.specs.NodeRules.{lows, zero_first}
use Rattle.block.specs.declared.Asked.TheVariants.{Child}
use Rattle.tree.specs.Part.{Part, next_low, parts, Steps}
use Rattle.tree.specs.Lookup.{down, lookup}
use Rattle.tree.proofs.Ranges.{steps-le}
use Rattle.update_theory.specs.Change.{covers, reaches, Sound, Changed}
use Rattle.update_theory.proofs.Change.{changed-as, among, changed-among, found_after, down-append}

-- the children's ranges fill their parent's
pub covers-parts : (lo hi : ℕ) (e : Entry) (es : List Entry) (k : ℕ) → Steps lo hi (e ∷ es) → covers k (parts lo hi (e ∷ es)) ≡ within lo hi k
covers-parts lo hi e [] k h = or-false (within lo hi k)
covers-parts lo hi e (f ∷ es) k h =
    ap (λ (b : Bool). within lo f.low k || b) (covers-parts f.low hi f es k h.1) ∙ within-join lo f.low hi k h.0 (steps-le f.low hi f es h.1)

-- where the range of the entries after us begins, if those before end at h
abbrev pub start : ℕ → List Entry → ℕ → ℕ
start lo [] h = lo
start lo (u ∷ us) h = h

-- a child's range doesn't begin before its entry says
pub first-low : (lo : ℕ) (us vs : List Entry) (e : Entry) → zero_first (lows (us ++ (e ∷ vs))) ≡ true → e.low ≤ start lo us e.low
first-low lo [] vs e z = let q = eqb-true e.low 0 z in omega arith
first-low lo (u ∷ us) vs e z = omega arith

next_low-append : (us vs : List Entry) (hi : ℕ) → next_low (us ++ vs) hi ≡ next_low us (next_low vs hi)
next_low-append [] vs hi = refl
next_low-append (u ∷ us) vs hi = refl

start-next : (us : List Entry) (h : ℕ) → start (next_low us h) us h ≡ h
start-next [] h = refl
start-next (u ∷ us) h = refl

-- THE law of ranges: entries one after the other
pub parts-append : (lo hi : ℕ) (us vs : List Entry) → parts lo hi (us ++ vs) ≡ parts lo (next_low vs hi) us ++ parts (start lo us (next_low vs hi)) hi vs
parts-append lo hi [] vs = refl
parts-append lo hi (u ∷ us) vs =
    rw (next_low-append us vs hi, parts-append (next_low us (next_low vs hi)) hi us vs, start-next us (next_low vs hi))

-- their ranges rise together
steps-join : (lo hi : ℕ) (us vs : List Entry) → Steps lo (next_low vs hi) us → Steps (start lo us (next_low vs hi)) hi vs → Steps lo hi (us ++ vs)
steps-join lo hi [] vs a b = b
steps-join lo hi (u ∷ us) vs a b =
    rw (next_low-append us vs hi) (a.0, steps-join (next_low us (next_low vs hi)) hi us vs a.1 (rw (start-next us (next_low vs hi)) b))

-- and apart
pub steps-split : (lo hi : ℕ) (us vs : List Entry) → Steps lo hi (us ++ vs) → Steps lo (next_low vs hi) us × Steps (start lo us (next_low vs hi)) hi vs
steps-split lo hi [] vs s = (tt, s)
steps-split lo hi (u ∷ us) vs s =
    let r = steps-split (next_low us (next_low vs hi)) hi us vs (rw (next_low-append us vs hi) at s.1) in
    ((rw (next_low-append us vs hi) at s.0, r.0), rw (start-next us (next_low vs hi)) at r.1)

-- a key in the range of the entries after us lies in none of theirs
pub off-left : (lo h hi k : ℕ) (us : List Entry) → Steps lo h us → start lo us h ≤ k → covers k (parts lo h us) ≡ false
off-left lo h hi k [] s g = refl
off-left lo h hi k (u ∷ []) s g = rw (within-high lo h k g)
off-left lo h hi k (u ∷ v ∷ us) s g =
    rw (within-high lo v.low k (omega (arith, g, steps-le v.low h v us s.1))) (off-left v.low h hi k (v ∷ us) s.1 g)

-- the part that entry e leads to, which stands between us and vs
abbrev pub child_at : ℕ → ℕ → List Entry → List Entry → Entry → Part
child_at lo hi us vs e = record { block = e.block; asked = Child e; lo = start lo us e.low; hi = next_low vs hi }

-- that part among the others
pub parts-one : (lo hi : ℕ) (us vs : List Entry) (e : Entry) → parts lo hi (us ++ (e ∷ vs)) ≡ parts lo e.low us ++ ((child_at lo hi us vs e ∷ []) ++ parts (next_low vs hi) hi vs)
parts-one lo hi us vs e = parts-append lo hi us (e ∷ vs)

pub child-in : (lo hi : ℕ) (us vs : List Entry) (e : Entry) → Memᴰ (child_at lo hi us vs e) (parts lo hi (us ++ (e ∷ vs)))
child-in lo hi us vs e =
    subst⁻¹ (λ (ps : List Part). Memᴰ (child_at lo hi us vs e) ps) (parts-one lo hi us vs e) (Memᴰ.append_right (parts lo e.low us) (Memᴰ.head refl))

-- A child became one or more: entry e among us and vs, whose part is c, became the entries f ∷ fs. The first keeps its low.
module _ (l : ℕ) (New : ℕ → Type 0) (x y : Store) (lo hi : ℕ) (us vs : List Entry) (e f : Entry) (fs : List Entry) (g : ℕ → Option ℕ) where
  abbrev child : Part
  child = child_at lo hi us vs e

  -- what it became among the others
  parts_more : f.low ≡ e.low
      → parts lo hi (us ++ ((f ∷ fs) ++ vs)) ≡ parts lo e.low us ++ (parts (start lo us e.low) (next_low vs hi) (f ∷ fs) ++ parts (next_low vs hi) hi vs)
  parts_more h =
      parts-append lo hi us ((f ∷ fs) ++ vs) ∙ ap (λ (b : ℕ). parts lo b us ++ parts (start lo us b) hi ((f ∷ fs) ++ vs)) h ∙
      ap (λ (r : List Part). parts lo e.low us ++ r) (parts-append (start lo us e.low) hi (f ∷ fs) vs)

  module _ (h : f.low ≡ e.low) (st : Steps lo hi (us ++ (e ∷ vs))) (s : Sound l x (parts lo hi (us ++ (e ∷ vs))))
      (fresh : (z : ℕ) → New z → Memᴰ z (reaches l x (parts lo hi (us ++ (e ∷ vs)))) → ⊥) (c : Changed l New x (child ∷ []) y (parts child.lo child.hi (f ∷ fs)) g) where
    abbrev A : List Part
    A = parts lo e.low us

    abbrev P : List Part
    P = child ∷ []

    abbrev Q : List Part
    Q = parts child.lo child.hi (f ∷ fs)

    abbrev B : List Part
    B = parts (next_low vs hi) hi vs

    s' : Sound l x (A ++ (P ++ B))
    s' = rw (parts-one lo hi us vs e) at s

    fresh' : (z : ℕ) → New z → Memᴰ z (reaches l x (A ++ (P ++ B))) → ⊥
    fresh' = rw (parts-one lo hi us vs e) at fresh

    -- what is found then below the node, at every key
    pub child-found : (k : ℕ) → down (lookup l y k) k (parts lo hi (us ++ ((f ∷ fs) ++ vs))) ≡ cond (within child.lo child.hi k) (g k) (down (lookup l x k) k (parts lo hi (us ++ (e ∷ vs))))
    child-found k = rw (parts_more h, parts-one lo hi us vs e) (found_after l New x y A P Q B g s' fresh' c k ∙ go (within child.lo child.hi k) refl)
      where
        go : (b : Bool) → within child.lo child.hi k ≡ b
            → cond (covers k A) (down (lookup l x k) k A) (cond (b || false) (g k) (down (lookup l x k) k B)) ≡ cond b (g k) (down (lookup l x k) k (A ++ (P ++ B)))
        go true w = rw (off-left lo e.low hi k us (steps-split lo hi us (e ∷ vs) st).0 (within-from child.lo child.hi k w))
        go false w = sym (down-append (lookup l x k) k A (child ∷ B) ∙ rw w)

    -- all children changed with it
    pub child-changed : Changed l New x (parts lo hi (us ++ (e ∷ vs))) y (parts lo hi (us ++ ((f ∷ fs) ++ vs))) (λ k. cond (within child.lo child.hi k) (g k) (down (lookup l x k) k (parts lo hi (us ++ (e ∷ vs)))))
    child-changed =
        rw (parts_more h, parts-one lo hi us vs e)
        (changed-as l New x (A ++ (P ++ B)) y (A ++ (Q ++ B)) (among l New x y A P Q B g s' fresh' c) (λ k. cond (within child.lo child.hi k) (g k) (down (lookup l x k) k (A ++ (P ++ B))))
        (λ k i. sym (found_after l New x y A P Q B g s' fresh' c k) ∙ rw (parts_more h, parts-one lo hi us vs e) at (child-found k))
        (changed-among l New x y A P Q B g s' fresh' c))

  -- the ranges still rise
  pub child-steps : f.low ≡ e.low → Steps lo hi (us ++ (e ∷ vs)) → Steps child.lo child.hi (f ∷ fs) → Steps lo hi (us ++ ((f ∷ fs) ++ vs))
  child-steps h st c =
      let a = steps-split lo hi us (e ∷ vs) st in
      steps-join lo hi us ((f ∷ fs) ++ vs) (rw (← h) at a.0) (steps-join (start lo us f.low) hi (f ∷ fs) vs (rw (← h) at c) a.1.1)
