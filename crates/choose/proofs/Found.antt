-- The child chosen for a key is the one in which a search down ends.
-- Assumes nothing.
use mathlib.Core.Path.{◌≡◌, refl, subst}
use mathlib.Core.Bool.{true}
use mathlib.Core.List.{List, [], ◌∷◌, Memᴰ}
use mathlib.Core.Option.{Option}
use Prim.Native.Nat.{ℕ, zero, suc, ◌-◌, ◌≤◌, ◌<◌}
use native.Mathlib.Nat.{le_of_suc-le-suc, not-suc-le-zero}
use native.Mathlib.Omega.{arith}
use lib.ListN.{length, drop, get_or, length-drop}
use Rattle.spot.specs.Keys.{within}
use Rattle.spot.proofs.Places.{within-yes}
use Rattle.block.specs.declared.Entry.{Entry}
use Rattle.block.specs.declared.Asked.TheVariants.{Child}
use Rattle.tree.specs.Part.{Part, next_low, parts, Steps}
use Rattle.tree.specs.Lookup.{down}
use Rattle.tree.proofs.Ranges.{parts-length, down-at}
use Rattle.octets.proofs.Lists.{at_mem}
use Rattle.choose.specs.Choices.{ChildFor}

-- where the i-th range begins: the parent's beginning, or the entry's low
abbrev pub floor_at : ℕ → List Entry → ℕ → ℕ
floor_at lo es zero = lo
floor_at lo es (suc i) = next_low (drop (suc i) es) 0

-- the i-th part: its entry is e
abbrev pub part_at : ℕ → ℕ → List Entry → ℕ → Entry → Part
part_at lo hi es i e =
    record { block = e.block; asked = Child e; lo = floor_at lo es i; hi = next_low (drop (suc i) es) hi }

-- what ends a range that is not the last begins the next one, whatever the parent's end
next-in : (es : List Entry) (a b : ℕ) → 0 < length es → next_low es a ≡ next_low es b
next-in [] a b h = absurd (not-suc-le-zero h)
next-in (e ∷ es) a b h = refl

-- it stands at i among the parts
pub part-at : (es : List Entry) (lo hi i : ℕ) (p : Part) (d : Entry) → i < length es → get_or (parts lo hi es) i p ≡ part_at lo hi es i (get_or es i d)
part-at [] lo hi i p d h = absurd (not-suc-le-zero h)
part-at (e ∷ es) lo hi zero p d h = refl
part-at (e ∷ es) lo hi (suc i) p d h = later i (le_of_suc-le-suc h) (part-at es (next_low es hi) hi i p d (le_of_suc-le-suc h))
  where
    later : (i : ℕ) → i < length es → get_or (parts (next_low es hi) hi es) i p ≡ part_at (next_low es hi) hi es i (get_or es i d)
        → get_or (parts (next_low es hi) hi es) i p ≡ part_at lo hi (e ∷ es) (suc i) (get_or es i d)
    later zero g r = rw (next-in es 0 hi g) r
    later (suc i) g r = r

module _ (es : List Entry) (k lo hi i : ℕ) (c : ChildFor es k i) (a : lo ≤ k) (b : k < hi) where
  floor-le : (j : ℕ) → j ≡ i → floor_at lo es j ≤ k
  floor-le zero e = a
  floor-le (suc j) e = let p : 0 < i = omega arith in rw e (c.from p)

  ceiling : (t : List Entry) → (0 < length t → k < next_low t 0) → k < next_low t hi
  ceiling [] f = b
  ceiling (e ∷ t) f = f (omega arith)

  -- the range of the child for k holds k
  pub child-holds : (e : Entry) → within (part_at lo hi es i e).lo (part_at lo hi es i e).hi k ≡ true
  child-holds e =
      within-yes (floor_at lo es i) (next_low (drop (suc i) es) hi) k (floor-le i refl)
      (ceiling (drop (suc i) es) (λ h. let g : 0 < length es - suc i = rw (length-drop (suc i) es) at h in c.to (omega arith)))

  -- so a search down for k goes there
  pub down-child : (f : Part → Option ℕ) (d : Entry) → Steps lo hi es → down f k (parts lo hi es) ≡ f (part_at lo hi es i (get_or es i d))
  down-child f d st =
      let p = part_at lo hi es i d in
      let h : i < length (parts lo hi es) = rw parts-length c.there in
      let m : Memᴰ (part_at lo hi es i (get_or es i d)) (parts lo hi es) =
      subst (λ (x : Part). Memᴰ x (parts lo hi es)) (part-at es lo hi i p d c.there) (at_mem (parts lo hi es) i p h) in
      down-at f k lo hi es (part_at lo hi es i (get_or es i d)) st m (child-holds (get_or es i d))
