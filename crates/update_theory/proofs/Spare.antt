-- Spare blocks over one update and another, and one child of many.
-- Assumes nothing.
use mathlib.Core.Path.{◌≡◌, refl, ap, sym, ◌∙◌, subst, subst⁻¹}
use mathlib.Core.Logic.{◌⊎◌, inl, inr, ⊎_elim}
use mathlib.Core.Bool.{true}
use mathlib.Core.List.Memᴰ
use mathlib.Core.List.{List, [], ◌∷◌, ◌++◌}
use mathlib.Core.Option.{Option}
use Prim.Native.Nat.{ℕ, suc, ◌<◌}
use native.Mathlib.Omega.{arith}
use lib.Dec.{leb}
use borrow.Author.Tests.{le-leb}
use Rattle.octets.specs.Lists.{rest, rising, rising_from}
use Rattle.octets.specs.Sets.{Apart}
use Rattle.octets.proofs.Tests.{and_left, and_right, and_both, every-left, every-right}
use Rattle.octets.proofs.Sets.{in-or-not, distinct-split}
use Rattle.octets.proofs.Rising.{rises-after}
use Rattle.block.specs.declared.Entry.{Entry}
use Rattle.block.specs.Node.{Store}
use Rattle.block.specs.NodeRules.{lows}
use Rattle.block.proofs.Views.{lows-append}
use Rattle.tree.specs.Part.{Part, next_low}
use Rattle.tree.specs.Reach.{reach}
use Rattle.tree.specs.Sound.{sound_at}
use Rattle.tree.proofs.Gather.{gather_append}
use Rattle.update_theory.specs.Change.{reaches, leads, Sound, Changed}
use Rattle.update_theory.specs.Spare.{Taken, Within}
use Rattle.update_theory.proofs.Change.{changed-trans}

-- what is left isn't reached afterwards
pub spare-left : (l : ℕ) (s s' : List ℕ) (x : Store) (ps : List Part) (y : Store) (qs : List Part) (f : ℕ → Option ℕ) → Within s' s → Apart s (reaches l x ps)
    → Changed l (Taken s s') x ps y qs f → Apart s' (reaches l y qs)
spare-left l s s' x ps y qs f w a c z i j = ⊎_elim (λ u. a z (w z i) u) (λ t. t.1 i) (c.reached z j)

-- one update after another, each with what the one before left
pub spare-trans : (l : ℕ) (s s' s'' : List ℕ) (x : Store) (ps : List Part) (y : Store) (qs : List Part) (w : Store) (rs : List Part) (f g : ℕ → Option ℕ) → Within s' s → Within s'' s'
    → Changed l (Taken s s') x ps y qs f → Changed l (Taken s' s'') y qs w rs g → Changed l (Taken s s'') x ps w rs g
spare-trans l s s' s'' x ps y qs w rs f g a b c d =
    changed-trans l (Taken s s') (Taken s' s'') (Taken s s'') x ps y qs w rs f g (λ z t. (t.0, λ i. t.1 (b z i))) (λ z t. (a z t.0, t.1)) exact c d
  where
    exact : (z : ℕ) → Taken s s'' z → Taken s s' z ⊎ Taken s' s'' z
    exact z t = ⊎_elim (λ i. inr (i, t.1)) (λ n. inl (t.0, n)) (in-or-not z s')

-- one of the parts of a sound list is sound, and what is spare of all is spare of it
pub sound-one : (l : ℕ) (m : Store) (us : List Part) (c : Part) (vs : List Part) → Sound l m (us ++ ((c ∷ []) ++ vs)) → Sound l m (c ∷ [])
sound-one l m us c vs s =
    let e = every-right (sound_at l m) us ((c ∷ []) ++ vs) s.each in
    let d = distinct-split (reaches l m us) (reaches l m ((c ∷ []) ++ vs)) (rw (gather_append (reach l m) us ((c ∷ []) ++ vs)) at s.once) in
    record {
      each = every-left (sound_at l m) (c ∷ []) vs e;
      once = (distinct-split (reaches l m (c ∷ [])) (reaches l m vs) (rw (gather_append (reach l m) (c ∷ []) vs) at d.right)).left;
      led = every-left leads (c ∷ []) vs (every-right leads us ((c ∷ []) ++ vs) s.led);
    }

-- the same of spare blocks
pub apart-one : (l : ℕ) (m : Store) (s : List ℕ) (us : List Part) (c : Part) (vs : List Part) → Apart s (reaches l m (us ++ ((c ∷ []) ++ vs))) → Apart s (reaches l m (c ∷ []))
apart-one l m s us c vs a z i j =
    a z i (rw (gather_append (reach l m) us ((c ∷ []) ++ vs), gather_append (reach l m) (c ∷ []) vs) (Memᴰ.append_right (reaches l m us) (Memᴰ.append_left (reaches l m vs) j)))

-- the lows of a node's entries, where one entry became two
rises-two : (a : ℕ) (xs : List ℕ) (y s : ℕ) (zs : List ℕ) → y < s → rising_from (suc s) zs ≡ true → rising_from a (xs ++ (y ∷ zs)) ≡ true → rising_from a (xs ++ (y ∷ s ∷ zs)) ≡ true
rises-two a [] y s zs h g r =
    and_both (leb a y) _ (and_left (leb a y) (rising_from (suc y) zs) r) (and_both (leb (suc y) s) (rising_from (suc s) zs) (le-leb (suc y) s h) g)
rises-two a (x ∷ xs) y s zs h g r =
    and_both (leb a x) _ (and_left (leb a x) (rising_from (suc x) (xs ++ (y ∷ zs))) r) (rises-two (suc x) xs y s zs h g (and_right (leb a x) (rising_from (suc x) (xs ++ (y ∷ zs))) r))

-- the numbers after one rise still rise from a smaller start
rises-from : (a b hi : ℕ) (vs : List Entry) → b < next_low vs hi → rising_from a (lows vs) ≡ true → rising_from (suc b) (lows vs) ≡ true
rises-from a b hi [] h r = refl
rises-from a b hi (v ∷ vs) h r = and_both (leb (suc b) v.low) _ (le-leb (suc b) v.low h) (and_right (leb a v.low) (rising_from (suc v.low) (lows vs)) r)

-- first child: only the next low bounds the new one; any other: the entry's own low too
pub lows-first : (hi : ℕ) (e e₁ e₂ : Entry) (vs : List Entry) → e₂.low < next_low vs hi → rising (rest (lows (e ∷ vs))) ≡ true → rising (rest (lows ((e₁ ∷ e₂ ∷ []) ++ vs))) ≡ true
lows-first hi e e₁ e₂ vs h r = and_both (leb 0 e₂.low) _ (le-leb 0 e₂.low (omega arith)) (rises-from 0 e₂.low hi vs h r)

-- where it is not the first child
pub lows-two : (hi : ℕ) (u : Entry) (us : List Entry) (e e₁ e₂ : Entry) (vs : List Entry) → e₁.low ≡ e.low → e.low < e₂.low → e₂.low < next_low vs hi
    → rising (rest (lows ((u ∷ us) ++ (e ∷ vs)))) ≡ true → rising (rest (lows ((u ∷ us) ++ ((e₁ ∷ e₂ ∷ []) ++ vs)))) ≡ true
lows-two hi u us e e₁ e₂ vs same h g r =
    let r' : rising_from 0 (lows us ++ (e.low ∷ lows vs)) ≡ true = subst (λ (xs : List ℕ). rising_from 0 xs ≡ true) (lows-append us (e ∷ vs)) r in
    subst⁻¹ (λ (xs : List ℕ). rising_from 0 xs ≡ true) (lows-append us ((e₁ ∷ e₂ ∷ []) ++ vs) ∙ ap (λ (y : ℕ). lows us ++ (y ∷ e₂.low ∷ lows vs)) same)
    (rises-two 0 (lows us) e.low e₂.low (lows vs) h (rises-from (suc e.low) e₂.low hi vs g (rises-after 0 (lows us) e.low (lows vs) r')) r')

-- where one entry became one
pub lows-same : (us : List Entry) (e e₁ : Entry) (vs : List Entry) → e₁.low ≡ e.low → lows (us ++ ((e₁ ∷ []) ++ vs)) ≡ lows (us ++ (e ∷ vs))
lows-same us e e₁ vs h = lows-append us (e₁ ∷ vs) ∙ ap (λ (y : ℕ). lows us ++ (y ∷ lows vs)) h ∙ sym (lows-append us (e ∷ vs))
