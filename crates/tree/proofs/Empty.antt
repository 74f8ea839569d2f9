-- Lists that are empty or not, by their length and by what is in them.
-- Assumes nothing.
use mathlib.Core.Path.{◌≡◌, refl, sym, ◌∙◌}
use mathlib.Core.Bool.{true, false, true≢false}
use mathlib.Core.List.Memᴰ
use mathlib.Core.List.{List, [], ◌∷◌, Memᴰ}
use Prim.Native.Nat.{suc, ◌≤◌}
use native.Mathlib.Omega.{arith}
use lib.ListN.{length}
use lib.Dec.{eqb}
use borrow.Author.Tests.{eq-eqb, ne_eqb}
use Rattle.octets.specs.Lists.{is_empty}
use Rattle.spot.specs.declared.Spot.{Spot}
use Rattle.spot.specs.Spots.{keys}

module _ {A : Type 0} where
  -- the test by the length
  empty-is : (xs : List A) → is_empty xs ≡ eqb (length xs) 0
  empty-is [] = refl
  empty-is (x ∷ xs) = sym (ne_eqb (suc (length xs)) 0 (λ e. omega arith))

  -- some elements, or none
  pub some-length : (xs : List A) → (length xs ≡ 0 → ⊥) → is_empty xs ≡ false
  some-length xs n = empty-is xs ∙ ne_eqb (length xs) 0 n

  -- no elements
  pub none-length : (xs : List A) → length xs ≤ 0 → is_empty xs ≡ true
  none-length xs h = empty-is xs ∙ eq-eqb (length xs) 0 (omega arith)

  -- a list with a member is not empty
  pub held-some : (xs : List A) {x : A} → Memᴰ x xs → is_empty xs ≡ false
  held-some [] i = absurd (Memᴰ.not-nil i)
  held-some (x ∷ xs) i = refl

  -- and one that is empty has none
  pub none-held : (xs : List A) {x : A} → is_empty xs ≡ true → Memᴰ x xs → ⊥
  none-held xs h i = true≢false (sym h ∙ held-some xs i)

-- the keys of some spots
pub empty-keys : (ss : List Spot) → is_empty (keys ss) ≡ is_empty ss
empty-keys [] = refl
empty-keys (s ∷ ss) = refl
