-- The places of the blocks that stand: none stands twice, and each block begins where the one before it ends. A fusion keeps both.
-- Assumes nothing.
use mathlib.Core.Path.{◌≡◌, refl, sym, ap, subst, ◌∙◌}
use mathlib.Core.Logic.{⊎_elim}
use mathlib.Core.List.Memᴰ
use mathlib.Core.List.{List, [], ◌∷◌, ◌++◌, Memᴰ}
use Prim.Native.Nat.{ℕ, ◌+◌, ◌<◌}
use native.Mathlib.Omega.{arith}
use lib.ListN.{length, take, drop, get_or, take-append-drop}
use Rattle.octets.proofs.Lists.{drop-next, mem-less, mem-more, mem-here}
use Rattle.octets.proofs.Once.{Once}
use Rattle.plan.specs.Plans.{no_piece}
use Rattle.plan.specs.declared.Piece.{Piece}
use Rattle.plan.proofs.Blocks.{core}

-- the i-th and the next one, and the others on both sides
pub split-two : (os : List ℕ) (i : ℕ) → i + 1 < length os → os ≡ take i os ++ (get_or os i 0 ∷ get_or os (i + 1) 0 ∷ drop (i + 2) os)
split-two os i h =
    let e : i + 1 + 1 ≡ i + 2 = omega arith in
    sym (take-append-drop i os)
    ∙ ap (λ (l : List ℕ). take i os ++ l)
    (drop-next os i 0 (omega arith)
    ∙ ap (λ (l : List ℕ). get_or os i 0 ∷ l) (drop-next os (i + 1) 0 h ∙ ap (λ (k : ℕ). get_or os (i + 1) 0 ∷ drop k os) e))

-- ---- none twice

-- the others stood before
pub both : (xs : List ℕ) (a b : ℕ) (ys : List ℕ) {x : ℕ} → Memᴰ x (xs ++ ys) → Memᴰ x (xs ++ (a ∷ b ∷ ys))
both xs a b ys i = mem-more xs a (b ∷ ys) (mem-more xs b ys i)

pub once-fused : (xs : List ℕ) (a b c : ℕ) (ys : List ℕ) → Once (xs ++ (a ∷ b ∷ ys)) → ((x : ℕ) → Memᴰ x (xs ++ ys) → x ≡ c → ⊥) → Once (xs ++ (c ∷ ys))
once-fused [] a b c ys o h = (λ i. h c i refl, o.1.1)
once-fused (x ∷ xs) a b c ys o h = (
  λ i. ⊎_elim (λ e. h x (Memᴰ.head refl) e) (λ j. o.0 (both xs a b ys j)) (mem-less xs c ys i),
  once-fused xs a b c ys o.1 (λ y j. h y (Memᴰ.tail j)),
)

-- the others are not the two
pub not_first : (xs : List ℕ) (a b : ℕ) (ys : List ℕ) {x : ℕ} → Once (xs ++ (a ∷ b ∷ ys)) → Memᴰ x (xs ++ ys) → x ≡ a → ⊥
not_first [] a b ys o i e = o.0 (Memᴰ.tail (Memᴰ.cast (sym e) i))
not_first (y ∷ xs) a b ys {x} o i e =
    ⊎_elim (λ (f : x ≡ y). o.0 (subst (λ (z : ℕ). Memᴰ z (xs ++ (a ∷ b ∷ ys))) (sym e ∙ f) (mem-here xs a (b ∷ ys))))
    (λ j. not_first xs a b ys o.1 j e)
    (Memᴰ.cases_cons i)

pub not-second : (xs : List ℕ) (a b : ℕ) (ys : List ℕ) {x : ℕ} → Once (xs ++ (a ∷ b ∷ ys)) → Memᴰ x (xs ++ ys) → x ≡ b → ⊥
not-second [] a b ys o i e = o.1.0 (Memᴰ.cast (sym e) i)
not-second (y ∷ xs) a b ys {x} o i e =
    ⊎_elim (λ (f : x ≡ y). o.0 (subst (λ (z : ℕ). Memᴰ z (xs ++ (a ∷ b ∷ ys))) (sym e ∙ f) (mem-more xs a (b ∷ ys) (mem-here xs b ys))))
    (λ j. not-second xs a b ys o.1 j e)
    (Memᴰ.cases_cons i)

-- ---- each begins where the one before it ends, and the first at e

abbrev pub Runs : List Piece → ℕ → List ℕ → Type 0
Runs ps e [] = Unit {0}
Runs ps e (a ∷ os) = ((get_or ps a no_piece).from ≡ e) × Runs ps (get_or ps a no_piece).to os

-- the pieces are the same but for what ended them
abbrev pub Kept : List Piece → List Piece → List ℕ → Type 0
Kept ps qs os = (a : ℕ) → Memᴰ a os → core (get_or qs a no_piece) ≡ core (get_or ps a no_piece)

runs-kept : (ps qs : List Piece) (e : ℕ) (os : List ℕ) → Kept ps qs os → Runs ps e os → Runs qs e os
runs-kept ps qs e [] h r = tt
runs-kept ps qs e (a ∷ os) h r =
    let k = h a (Memᴰ.head refl) in (
      ap (λ (p : Piece). p.from) k ∙ r.0,
      subst (λ (x : ℕ). Runs qs x os) (sym (ap (λ (p : Piece). p.to) k)) (runs-kept ps qs (get_or ps a no_piece).to os (λ x i. h x (Memᴰ.tail i)) r.1),
    )

pub runs-touch : (ps : List Piece) (e : ℕ) (xs : List ℕ) (a b : ℕ) (ys : List ℕ) → Runs ps e (xs ++ (a ∷ b ∷ ys)) → (get_or ps a no_piece).to ≡ (get_or ps b no_piece).from
runs-touch ps e [] a b ys r = sym r.1.0
runs-touch ps e (x ∷ xs) a b ys r = runs-touch ps (get_or ps x no_piece).to xs a b ys r.1

pub runs-fused : (ps qs : List Piece) (e : ℕ) (xs : List ℕ) (a b c : ℕ) (ys : List ℕ) → (get_or qs c no_piece).from ≡ (get_or ps a no_piece).from
    → (get_or qs c no_piece).to ≡ (get_or ps b no_piece).to → Kept ps qs (xs ++ ys) → Runs ps e (xs ++ (a ∷ b ∷ ys)) → Runs qs e (xs ++ (c ∷ ys))
runs-fused ps qs e [] a b c ys f t h r =
    (f ∙ r.0, subst (λ (x : ℕ). Runs qs x ys) (sym t) (runs-kept ps qs (get_or ps b no_piece).to ys h r.1.1))
runs-fused ps qs e (x ∷ xs) a b c ys f t h r =
    let k = h x (Memᴰ.head refl) in (
      ap (λ (p : Piece). p.from) k ∙ r.0,
      subst (λ (z : ℕ). Runs qs z (xs ++ (c ∷ ys))) (sym (ap (λ (p : Piece). p.to) k))
          (runs-fused ps qs (get_or ps x no_piece).to xs a b c ys f t (λ y i. h y (Memᴰ.tail i)) r.1),
    )
