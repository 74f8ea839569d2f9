-- A tree that came of another: from a change at the root, past a change of block 0, and with a root more.
-- Assumes nothing.
use mathlib.Core.Path.{◌≡◌, refl, ap, sym, ◌∙◌, subst, subst⁻¹}
use mathlib.Core.Logic.{◌⊎◌, inl, inr, ⊎_elim}
use mathlib.Core.Bool.{Bool, true, false, cond, ◌||◌}
use mathlib.Core.List.{List, [], ◌∷◌, Memᴰ, append-nil}
use mathlib.Core.Option.{Option, none}
use Prim.Native.Nat.{ℕ}
use Rattle.octets.specs.Lists.{distinct}
use Rattle.octets.proofs.Tests.{and_left, and_both}
use Rattle.spot.specs.Keys.{start_key, end_key}
use Rattle.block.specs.declared.Asked.TheVariants.{Root}
use Rattle.block.specs.Node.{Store}
use Rattle.block.specs.NodeRules.{stands_in}
use Rattle.tree.specs.Part.{Part}
use Rattle.tree.specs.Lookup.{lookup}
use Rattle.tree.specs.Reach.{reach}
use Rattle.tree.specs.Sound.{sound_at}
use Rattle.tree.proofs.Frame.{Same, reach-same, sound-same, lookup-same}
use Rattle.update_theory.specs.Change.{part, reaches, Sound, Changed}
use Rattle.update_theory.proofs.Change.{led-one}
use Rattle.change.specs.Growing.{Rooted}

-- one part, alone
pub sound-of : (l : ℕ) (m : Store) (p : Part) → stands_in p.asked ≡ p.block → sound_at l m p ≡ true → distinct (reach l m p) ≡ true → Sound l m (p ∷ [])
sound-of l m p own s d =
    record { each = and_both (sound_at l m p) true s refl; once = subst⁻¹ (λ (r : List ℕ). distinct r ≡ true) (append-nil (reach l m p)) d; led = led-one p own }

pub of-sound : (l : ℕ) (m : Store) (p : Part) → Sound l m (p ∷ []) → (sound_at l m p ≡ true) × (distinct (reach l m p) ≡ true)
of-sound l m p s =
    (and_left (sound_at l m p) true s.each, subst (λ (r : List ℕ). distinct r ≡ true) (append-nil (reach l m p)) s.once)

-- the root changed and stayed the root
pub rooted-one : (l : ℕ) (New : ℕ → Type 0) (x : Store) (b : ℕ) (y : Store) (f : ℕ → Option ℕ)
    → Changed l New x (part b (Root b) start_key end_key ∷ []) y (part b (Root b) start_key end_key ∷ []) f → Rooted l x (part b (Root b) start_key end_key ∷ []) New l y b f
rooted-one l New x b y f c =
    record {
      sound = c.sound;
      found = λ k i. sym (ap (λ (u : Bool). cond u (lookup l y k p) none) i) ∙ c.found k (ap (λ (u : Bool). u || false) i);
      reached = λ z i. c.reached z (subst⁻¹ (λ (r : List ℕ). Memᴰ z r) (append-nil (reach l y p)) i);
      still = λ z i. subst (λ (r : List ℕ). Memᴰ z r) (append-nil (reach l y p)) (c.still z i);
    }
  where
    p : Part
    p = part b (Root b) start_key end_key

-- block 0, which it does not reach, changed
pub rooted-frame : (l : ℕ) (x : Store) (ps : List Part) (New : ℕ → Type 0) (h : ℕ) (y : Store) (b : ℕ) (f : ℕ → Option ℕ) (w : Store)
    → (Memᴰ 0 (reaches l x ps) → ⊥) → (New 0 → ⊥) → ((z : ℕ) → (z ≡ 0 → ⊥) → w z ≡ y z)
    → Rooted l x ps New h y b f → Rooted l x ps New h w b f
unfolding stands_in
rooted-frame l x ps New h y b f w old new else g =
    record {
      sound = sound-of h w p refl (sound-same y w h p same ∙ s.0) (ap distinct r ∙ s.1);
      found = λ k i. lookup-same y w h k p same ∙ g.found k i;
      reached = λ z i. g.reached z (subst (λ (bs : List ℕ). Memᴰ z bs) r i);
      still = λ z i. subst⁻¹ (λ (bs : List ℕ). Memᴰ z bs) r (g.still z i);
    }
  where
    p : Part
    p = part b (Root b) start_key end_key

    s : (sound_at h y p ≡ true) × (distinct (reach h y p) ≡ true)
    s = of-sound h y p g.sound

    same : Same y w (reach h y p)
    same z i = else z (λ (e : z ≡ 0). ⊎_elim old new (g.reached 0 (subst (λ (k : ℕ). Memᴰ k (reach h y p)) e i)))

    r : reach h w p ≡ reach h y p
    r = reach-same y w h p same

-- some parts changed, and then became a tree
pub rooted-after : (l : ℕ) (A B New : ℕ → Type 0) (x : Store) (ps : List Part) (y : Store) (qs : List Part) (h : ℕ) (w : Store) (b : ℕ) (f g : ℕ → Option ℕ)
    → ((z : ℕ) → A z → New z) → ((z : ℕ) → B z → New z) → ((z : ℕ) → New z → A z ⊎ B z)
    → Changed l A x ps y qs f → Rooted l y qs B h w b g → Rooted l x ps New h w b g
rooted-after l A B New x ps y qs h w b f g a d exact c r =
    record {
      sound = r.sound;
      found = r.found;
      reached = λ z i. ⊎_elim (λ j. ⊎_elim inl (λ n. inr (a z n)) (c.reached z j)) (λ n. inr (d z n)) (r.reached z i);
      still = λ z i. r.still z (⊎_elim (λ j. inl (c.still z (inl j))) (λ n. ⊎_elim (λ j. inl (c.still z (inr j))) inr (exact z n)) i);
    }
