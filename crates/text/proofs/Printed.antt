-- The lines that are printed, field by field. A primed number is the machine's, which is the number itself.
-- Assumes nothing.
use mathlib.Core.Path.{◌≡◌, refl, ap, ap₂, ◌∙◌}
use mathlib.Core.List.{List, [], ◌∷◌, ◌++◌}
use Prim.Native.Nat.{ℕ}
use lib.IntN.{ℤ}
use Rattle.text.specs.Text.{decimal, signed, joined, spot_line, count_line, refusal_line}
use Rattle.text.proofs.Words.{joined-three, joined-four}

-- three fields
three : (a x y : List ℕ) {x' y' : List ℕ} → x' ≡ x → y' ≡ y → a ++ (32 ∷ x') ++ (32 ∷ y') ≡ joined (a ∷ x ∷ y ∷ [])
three a x y e f = ap₂ (λ (v w : List ℕ). a ++ (32 ∷ v) ++ (32 ∷ w)) e f ∙ joined-three a x y

pub spot-text : (p r : ℤ) (t : ℕ) {p' r' : ℤ} → p' ≡ p → r' ≡ r → signed p' ++ (32 ∷ signed r') ++ (32 ∷ decimal t) ++ (10 ∷ []) ≡ spot_line p r t
unfolding spot_line
spot-text p r t e f =
    ap₂ (λ (v w : ℤ). signed v ++ (32 ∷ signed w) ++ (32 ∷ decimal t) ++ (10 ∷ [])) e f
    ∙ ap (λ (l : List ℕ). l ++ (10 ∷ [])) (joined-three (signed p) (signed r) (decimal t))

pub count-text : (n : ℕ) → decimal n ++ (10 ∷ []) ≡ count_line n
unfolding count_line
count-text n = refl

pub refusal-text : (n : ℕ) → (82 ∷ []) ++ (32 ∷ decimal n) ++ (10 ∷ []) ≡ refusal_line n
unfolding refusal_line joined
refusal-text n = refl

pub two-text : (k : ℕ) (x y : ℤ) {x' y' : ℤ} → x' ≡ x → y' ≡ y → (k ∷ []) ++ (32 ∷ signed x') ++ (32 ∷ signed y') ≡ joined ((k ∷ []) ∷ signed x ∷ signed y ∷ [])
two-text k x y e f = three (k ∷ []) (signed x) (signed y) (ap signed e) (ap signed f)

pub joined_as : (k : ℕ) (x y : ℤ) {x' y' : ℤ} → x' ≡ x → y' ≡ y → joined ((k ∷ []) ∷ signed x' ∷ signed y' ∷ []) ≡ joined ((k ∷ []) ∷ signed x ∷ signed y ∷ [])
joined_as k x y e f = ap₂ (λ (u v : ℤ). joined ((k ∷ []) ∷ signed u ∷ signed v ∷ [])) e f

-- a command's last field behind the others
pub third-text : (k : ℕ) (x y : ℤ) (w : List ℕ) {x' y' : ℤ} {w' : List ℕ} → x' ≡ x → y' ≡ y → w' ≡ w
    → joined ((k ∷ []) ∷ signed x' ∷ signed y' ∷ []) ++ (32 ∷ w') ≡ joined ((k ∷ []) ∷ signed x ∷ signed y ∷ w ∷ [])
third-text k x y w {x'} {y'} {w'} e f g =
    ap (λ (l : List ℕ). l ++ (32 ∷ w')) (joined_as k x y e f)
    ∙ ap (λ (u : List ℕ). joined ((k ∷ []) ∷ signed x ∷ signed y ∷ []) ++ (32 ∷ u)) g
    ∙ joined-four (k ∷ []) (signed x) (signed y) w
