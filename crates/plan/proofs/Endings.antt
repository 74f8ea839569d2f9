-- What ended a block, where one fusion more is made.
-- Assumes nothing.
use mathlib.Core.Path.{◌≡◌, refl, sym, ◌∙◌}
use mathlib.Core.Logic.{◌⊎◌, inl, inr}
use mathlib.Core.Bool.{Bool, true, false, cond, ◌||◌}
use mathlib.Core.List.{List, [], ◌∷◌, ◌++◌}
use Prim.Native.Nat.{ℕ}
use lib.Dec.{eqb}
use borrow.Author.Tests.{eq-eqb, ne_eqb}
use Rattle.sweep.specs.Sweep.{Fusion}
use Rattle.sweep.specs.Pressed.{no_key, ended_by}
use Rattle.sweep.specs.Laws.{consumed}
use Rattle.sweep.proofs.Stands.{consumed-append, ended-none, ended-append}

-- b is a half of the fusion
abbrev half_of : ℕ → Fusion → Bool
half_of b f = eqb b f.first || eqb b f.second

no-half : (b : ℕ) (f : Fusion) → (b ≡ f.first → ⊥) → (b ≡ f.second → ⊥) → half_of b f ≡ false
no-half b f h k = rw (ne_eqb b f.first h, ne_eqb b f.second k)

a_half : (b : ℕ) (f : Fusion) → (b ≡ f.first) ⊎ (b ≡ f.second) → half_of b f ≡ true
a_half b f (inl e) = rw (eq-eqb b f.first e)
a_half b f (inr e) = rw (eq-eqb b f.second e) (go (eqb b f.first))
  where
    go : (t : Bool) → t || true ≡ true
    go true = refl
    go false = refl

-- another block's end stays
pub ended-other : (b : ℕ) (fs : List Fusion) (f : Fusion) → (b ≡ f.first → ⊥) → (b ≡ f.second → ⊥) → ended_by b (fs ++ (f ∷ [])) ≡ ended_by b fs
ended-other b fs f h k = ended-append b fs (f ∷ []) ∙ rw (no-half b f h k) (go (consumed b fs) refl)
  where
    go : (t : Bool) → consumed b fs ≡ t → cond t (ended_by b fs) no_key ≡ ended_by b fs
    go true e = refl
    go false e = sym (ended-none b fs e)

-- a half that was none before is ended by it
pub ended_here : (b : ℕ) (fs : List Fusion) (f : Fusion) → consumed b fs ≡ false → (b ≡ f.first) ⊎ (b ≡ f.second) → ended_by b (fs ++ (f ∷ [])) ≡ f.passed
ended_here b fs f c h = ended-append b fs (f ∷ []) ∙ rw (c, a_half b f h)

pub whole-still : (b : ℕ) (fs : List Fusion) (f : Fusion) → consumed b fs ≡ false → (b ≡ f.first → ⊥) → (b ≡ f.second → ⊥) → consumed b (fs ++ (f ∷ [])) ≡ false
whole-still b fs f c h k = consumed-append b fs (f ∷ []) ∙ rw (c, no-half b f h k)
