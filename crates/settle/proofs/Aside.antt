-- A change of some parts is a change of them also where a block that none of them reaches holds something else.
-- Assumes nothing.
use mathlib.Core.Path.{◌≡◌, refl, ap, sym, ◌∙◌, subst, subst⁻¹}
use mathlib.Core.Logic.{inl, inr, ⊎_elim}
use mathlib.Core.Bool.{Bool, true, false, cond, true≢false}
use mathlib.Core.List.{List, Memᴰ}
use mathlib.Core.Option.{Option}
use Prim.Native.Nat.{ℕ}
use lib.Dec.{eqb}
use borrow.Author.Tests.{eqb-true, eq-eqb}
use Rattle.octets.specs.Lists.{distinct}
use Rattle.block.specs.Node.{Node, Store}
use Rattle.tree.specs.Part.{Part}
use Rattle.tree.proofs.Frame.{Same, reaches_same, sounds-same, lookups-same}
use Rattle.update_theory.specs.Change.{reaches, Changed}

-- the store with n in block b
abbrev pub instead : ℕ → Node → Store → Store
instead b n y z = cond (eqb z b) n (y z)

pub instead-here : (b : ℕ) (n : Node) (y : Store) → instead b n y b ≡ n
instead-here b n y = go (eqb b b) refl
  where
    go : (q : Bool) → eqb b b ≡ q → cond q n (y b) ≡ n
    go true e = refl
    go false e = absurd (true≢false (sym (eq-eqb b b refl) ∙ e))

pub instead-else : (b : ℕ) (n : Node) (y : Store) (z : ℕ) → (z ≡ b → ⊥) → instead b n y z ≡ y z
instead-else b n y z h = go (eqb z b) refl
  where
    go : (q : Bool) → eqb z b ≡ q → cond q n (y z) ≡ y z
    go true e = absurd (h (eqb-true z b e))
    go false e = refl

module _ (l : ℕ) (New : ℕ → Type 0) (x y : Store) (ps qs : List Part) (f : ℕ → Option ℕ) (c : Changed l New x ps y qs f) (x' y' : Store) (before : Same x x' (reaches l x ps)) (after : Same y y' (reaches l y qs))
    (kept : (z : ℕ) → (Memᴰ z (reaches l x ps) → ⊥) → (New z → ⊥) → y' z ≡ x' z) where
  same-before : reaches l x' ps ≡ reaches l x ps
  same-before = reaches_same x x' l ps before

  same_after : reaches l y' qs ≡ reaches l y qs
  same_after = reaches_same y y' l qs after

  pub changed-aside : Changed l New x' ps y' qs f
  changed-aside =
      record {
        sound = record { each = sounds-same y y' l qs after ∙ c.sound.each; once = ap distinct same_after ∙ c.sound.once; led = c.sound.led };
        span = c.span;
        found = λ k h. lookups-same y y' l qs after k ∙ c.found k h;
        reached = λ z i. ⊎_elim (λ j. inl (subst⁻¹ (λ (bs : List ℕ). Memᴰ z bs) same-before j)) inr (c.reached z (subst (λ (bs : List ℕ). Memᴰ z bs) same_after i));
        still = λ z i. subst⁻¹ (λ (bs : List ℕ). Memᴰ z bs) same_after (c.still z (⊎_elim (λ j. inl (subst (λ (bs : List ℕ). Memᴰ z bs) same-before j)) inr i));
        kept = λ z i j. kept z (λ q. i (subst⁻¹ (λ (bs : List ℕ). Memᴰ z bs) same-before q)) j;
      }
