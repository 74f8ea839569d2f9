-- The children of a node: how their ranges lie one after the other, and in which of them a search down ends.
-- Assumes nothing.
use mathlib.Core.Path.{◌≡◌, refl, ap, ap₂, sym, ◌∙◌}
use mathlib.Core.Logic.{⊎_elim}
use mathlib.Core.Bool.{Bool, true, false, cond}
use mathlib.Core.List.Memᴰ
use mathlib.Core.List.{List, [], ◌∷◌, Memᴰ}
use mathlib.Core.Option.{Option, some, none-ne-some}
use Prim.Native.Nat.{ℕ, suc, ◌≤◌, ◌<◌}
use native.Mathlib.Omega.{arith}
use lib.ListN.{length}
use Rattle.octets.specs.Lists.{rest, rising, rising_from}
use Rattle.octets.proofs.Tests.{all-at, every-mem}
use Rattle.octets.proofs.Rising.{rising-first, rising-rest}
use Rattle.spot.specs.Keys.{within}
use Rattle.spot.proofs.Places.{within-yes, within-high, within-from, within-to}
use Rattle.block.specs.declared.Entry.{Entry}
use Rattle.block.specs.declared.Asked.TheVariants.{Child}
use Rattle.block.specs.Node.{Node}
use Rattle.block.specs.NodeRules.{lows, lows_rise, node_ok}
use Rattle.tree.specs.Part.{Part, next_low, parts, Steps}
use Rattle.tree.specs.Lookup.{down}
use Rattle.tree.specs.Sound.{in_range}

-- where the first of them begins, and so all, is not past the end
pub next_le : (hi : ℕ) (es : List Entry) → Steps (next_low es hi) hi es → next_low es hi ≤ hi
next_le hi [] h = omega arith
next_le hi (e ∷ es) h = omega (arith, h.0, next_le hi es h.1)

-- nor is the beginning of all
pub steps-le : (lo hi : ℕ) (e : Entry) (es : List Entry) → Steps lo hi (e ∷ es) → lo ≤ hi
steps-le lo hi e es h = omega (arith, h.0, next_le hi es h.1)

steps_on : (es : List Entry) (lo hi : ℕ) → lo ≤ hi → rising_from (suc lo) (lows es) ≡ true → ((k : ℕ) → Memᴰ k (lows es) → k < hi) → (lo ≤ next_low es hi) × Steps (next_low es hi) hi es
steps_on [] lo hi h r w = (h, tt)
steps_on (e ∷ es) lo hi h r w =
    let up = rising-first (suc lo) e.low (lows es) r in
    let top = w e.low (Memᴰ.head refl) in
    (omega arith, steps_on es e.low hi (omega arith) (rising-rest (suc lo) e.low (lows es) r) (λ k j. w k (Memᴰ.tail j)))

-- from the rules of the lows
pub steps-make : (es : List Entry) (lo hi : ℕ) → lo ≤ hi → rising (rest (lows es)) ≡ true → ((k : ℕ) → Memᴰ k (rest (lows es)) → within lo hi k ≡ true) → Steps lo hi es
steps-make [] lo hi h r w = tt
steps-make (e ∷ []) lo hi h r w = (h, tt)
steps-make (e ∷ f ∷ es) lo hi h r w =
    let i = w f.low (Memᴰ.head refl) in
    let to = within-to lo hi f.low i in
    (within-from lo hi f.low i, steps_on es f.low hi (omega arith) (rising-rest 0 f.low (lows es) r) (λ k j. within-to lo hi k (w k (Memᴰ.tail j))))

-- from the rules of a node
pub steps_of : (l : ℕ) (p : Part) (n : Node) → p.lo ≤ p.hi → node_ok l p.asked n ≡ true → in_range p n ≡ true → Steps p.lo p.hi n.entries
unfolding node_ok lows_rise in_range
steps_of l p n h a b = steps-make n.entries p.lo p.hi h (all-at _ (all-at _ a 5) 1) (λ k i. every-mem _ _ (all-at _ b 1) i)

-- a child's range lies in its parent's
pub part-bounds : (lo hi : ℕ) (es : List Entry) {c : Part} → Steps lo hi es → Memᴰ c (parts lo hi es) → (lo ≤ c.lo) × (c.hi ≤ hi) × (c.lo ≤ c.hi)
part-bounds lo hi [] s h = absurd (Memᴰ.not-nil h)
part-bounds lo hi (e ∷ es) {c} s h =
    ⊎_elim
    (λ j. let a : c.lo ≡ lo = ap (λ (p : Part). p.lo) j in let b : c.hi ≡ next_low es hi = ap (λ (p : Part). p.hi) j in (omega arith, omega (arith, next_le hi es s.1), omega (arith, s.0)))
    (λ j. let r = part-bounds (next_low es hi) hi es s.1 j in (omega (arith, s.0, r.0), r.1, r.2))
    (Memᴰ.cases_cons h)

-- as many children as entries
pub parts-length : (lo hi : ℕ) (es : List Entry) → length (parts lo hi es) ≡ length es
parts-length lo hi [] = refl
parts-length lo hi (e ∷ es) = ap suc (parts-length (next_low es hi) hi es)

-- a part is led to by an entry
pub parts-mem : (lo hi : ℕ) (es : List Entry) {c : Part} → Memᴰ c (parts lo hi es)
    → (e : Entry) × Memᴰ e es × (c.asked ≡ Child e) × (c.block ≡ e.block)
parts-mem lo hi [] k = absurd (Memᴰ.not-nil k)
parts-mem lo hi (e ∷ es) {c} k =
    ⊎_elim (λ h. (e, Memᴰ.head refl, ap (λ (p : Part). p.asked) h, ap (λ (p : Part). p.block) h))
    (λ j. let r = parts-mem (next_low es hi) hi es j in (r.0, Memᴰ.tail r.1, r.2, r.3))
    (Memᴰ.cases_cons k)

-- ---- a search down

-- what is found is found in a part whose range holds the key
pub down-from : (f : Part → Option ℕ) (k : ℕ) (ps : List Part) {a : ℕ} → down f k ps ≡ some a → (c : Part) × Memᴰ c ps × (within c.lo c.hi k ≡ true) × (f c ≡ some a)
down-from f k [] e = absurd (none-ne-some _ e)
down-from f k (p ∷ ps) {a} e = go (within p.lo p.hi k) refl e (down-from f k ps)
  where
    go : (b : Bool) → within p.lo p.hi k ≡ b → cond b (f p) (down f k ps) ≡ some a
        → (down f k ps ≡ some a → (c : Part) × Memᴰ c ps × (within c.lo c.hi k ≡ true) × (f c ≡ some a))
        → (c : Part) × Memᴰ c (p ∷ ps) × (within c.lo c.hi k ≡ true) × (f c ≡ some a)
    go true w h ih = (p, Memᴰ.head refl, w, h)
    go false w h ih = let r = ih h in (r.0, Memᴰ.tail r.1, r.2, r.3)

-- it goes to the part whose range holds the key
pub down-at : (f : Part → Option ℕ) (k lo hi : ℕ) (es : List Entry) (c : Part) → Steps lo hi es → Memᴰ c (parts lo hi es) → within c.lo c.hi k ≡ true
    → down f k (parts lo hi es) ≡ f c
down-at f k lo hi [] c s h w = absurd (Memᴰ.not-nil h)
down-at f k lo hi (e ∷ es) c s h w =
    ⊎_elim (λ (j : c ≡ record { block = e.block; asked = Child e; lo = lo; hi = next_low es hi }). rw (ap₂ (λ (a b : ℕ). within a b k) (sym (ap (λ (p : Part). p.lo) j)) (sym (ap (λ (p : Part). p.hi) j)) ∙ w) (ap f (sym j)))
    (λ j.
    let r = part-bounds (next_low es hi) hi es s.1 j in
    rw (within-high lo (next_low es hi) k (omega (arith, r.0, within-from c.lo c.hi k w))) (down-at f k (next_low es hi) hi es c s.1 j w))
    (Memᴰ.cases_cons h)

-- what is found lies in the parent's range
pub down-in : (f : Part → Option ℕ) (k lo hi : ℕ) (es : List Entry) {a : ℕ} → Steps lo hi es → down f k (parts lo hi es) ≡ some a → within lo hi k ≡ true
down-in f k lo hi es st e =
    let c = down-from f k (parts lo hi es) e in
    let b = part-bounds lo hi es st c.1 in
    let u = within-from c.0.lo c.0.hi k c.2 in
    let v = within-to c.0.lo c.0.hi k c.2 in
    within-yes lo hi k (omega (arith, b.0, u)) (omega (arith, b.1, v))
