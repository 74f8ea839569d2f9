-- Words with one space between, read back one by one.
-- Assumes nothing.
use mathlib.Core.Path.{◌≡◌, refl, ap, ◌∙◌}
use mathlib.Core.Bool.{Bool, true, false, cond}
use mathlib.Core.List.{List, [], ◌∷◌, ◌++◌, append_assoc}
use Prim.Native.Nat.{ℕ, suc}
use lib.Dec.{eqb}
use lib.ListN.{length, get_or, take, drop}
use Rattle.octets.specs.Lists.{has}
use Rattle.octets.proofs.Tests.{neither}
use Rattle.text.specs.Text.{joined}
use Rattle.text.specs.Reading.{front, behind}

front-word : (w r : List ℕ) → has 32 w ≡ false → front (w ++ (32 ∷ r)) ≡ w
front-word [] r h = refl
front-word (x ∷ w) r h = rw (neither (eqb 32 x) (has 32 w) h).0 (ap (λ (l : List ℕ). x ∷ l) (front-word w r (neither (eqb 32 x) (has 32 w) h).1))

front-last : (w : List ℕ) → has 32 w ≡ false → front w ≡ w
front-last [] h = refl
front-last (x ∷ w) h = rw (neither (eqb 32 x) (has 32 w) h).0 (ap (λ (l : List ℕ). x ∷ l) (front-last w (neither (eqb 32 x) (has 32 w) h).1))

behind-word : (w r : List ℕ) → has 32 w ≡ false → behind (w ++ (32 ∷ r)) ≡ r
behind-word [] r h = refl
behind-word (x ∷ w) r h = rw (neither (eqb 32 x) (has 32 w) h).0 (behind-word w r (neither (eqb 32 x) (has 32 w) h).1)

pub joined-front : (w : List ℕ) (ws : List (List ℕ)) → has 32 w ≡ false → front (joined (w ∷ ws)) ≡ w
unfolding joined
joined-front w [] h = front-last w h
joined-front w (v ∷ ws) h = front-word w (joined (v ∷ ws)) h

pub joined-behind : (w v : List ℕ) (ws : List (List ℕ)) → has 32 w ≡ false → behind (joined (w ∷ (v ∷ ws))) ≡ joined (v ∷ ws)
unfolding joined
joined-behind w v ws h = behind-word w (joined (v ∷ ws)) h

pub joined-first : (k : ℕ) (v : List ℕ) (ws : List (List ℕ)) → get_or (joined ((k ∷ []) ∷ (v ∷ ws))) 0 0 ≡ k
unfolding joined
joined-first k v ws = refl

-- ---- as they are written: one field behind another

pub joined-three : (a b c : List ℕ) → a ++ (32 ∷ b) ++ (32 ∷ c) ≡ joined (a ∷ b ∷ c ∷ [])
unfolding joined
joined-three a b c = append_assoc a (32 ∷ b) (32 ∷ c)

pub joined-four : (a b c d : List ℕ) → joined (a ∷ b ∷ c ∷ []) ++ (32 ∷ d) ≡ joined (a ∷ b ∷ c ∷ d ∷ [])
unfolding joined
joined-four a b c d = append_assoc a (32 ∷ (b ++ (32 ∷ c))) (32 ∷ d) ∙ ap (λ (l : List ℕ). a ++ (32 ∷ l)) (append_assoc b (32 ∷ c) (32 ∷ d))

-- ---- as they lie in a line

take-front : (b : Bool) (x : ℕ) (xs ys : List ℕ) → take (length ys) xs ≡ ys → take (length (cond b [] (x ∷ ys))) (x ∷ xs) ≡ cond b [] (x ∷ ys)
take-front true x xs ys h = refl
take-front false x xs ys h = ap (λ (l : List ℕ). x ∷ l) h

pub front-take : (l : List ℕ) → take (length (front l)) l ≡ front l
front-take [] = refl
front-take (x ∷ xs) = take-front (eqb 32 x) x xs (front xs) (front-take xs)

drop-front : (b : Bool) (x : ℕ) (xs ys zs : List ℕ) → drop (suc (length ys)) xs ≡ zs → drop (length (cond b [] (x ∷ ys))) xs ≡ cond b xs zs
drop-front true x xs ys zs h = refl
drop-front false x xs ys zs h = h

pub behind-drop : (l : List ℕ) → drop (suc (length (front l))) l ≡ behind l
behind-drop [] = refl
behind-drop (x ∷ xs) = drop-front (eqb 32 x) x xs (front xs) (behind xs) (behind-drop xs)
