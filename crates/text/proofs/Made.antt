-- The command that a sign and fields make, and the fields of a line.
-- Assumes nothing.
use mathlib.Core.Path.{◌≡◌, refl, ap, ◌∙◌}
use mathlib.Core.List.{List, [], ◌∷◌}
use Prim.Native.Nat.{ℕ, ◌≤◌}
use native.Mathlib.Nat.{not-suc-le-zero}
use lib.IntN.{ℤ}
use lib.ListN.{length, get_or, drop}
use borrow.Author.Tests.{ne_eqb}
use mir.Syntax.{w32}
use mir.Val.{to_z, of_z}
use Rattle.std.specs.Prelude.{Some, None}
use Rattle.text.specs.Reading.{front, behind, value, integer, command_of, guess}
use Rattle.text.specs.declared.Command.TheVariants.{Add, Withdraw, Report, Top}
use Rattle.text.proofs.Numbers.{integer-back}

module _ (k : ℕ) (x y z : ℤ) (n : ℕ) where
  pub made-add : k ≡ 43 → Some (Add x y n) ≡ command_of k x y z n
  unfolding command_of
  made-add h = rw h refl

  pub made-withdraw : k ≡ 45 → Some (Withdraw x y) ≡ command_of k x y z n
  unfolding command_of
  made-withdraw h = rw h refl

  pub made-report : k ≡ 63 → Some (Report x y z) ≡ command_of k x y z n
  unfolding command_of
  made-report h = rw h refl

  pub made-top : k ≡ 94 → Some (Top x y n) ≡ command_of k x y z n
  unfolding command_of
  made-top h = rw h refl

  pub made_none : (k ≡ 43 → ⊥) → (k ≡ 45 → ⊥) → (k ≡ 63 → ⊥) → (k ≡ 94 → ⊥) → None ≡ command_of k x y z n
  unfolding command_of
  made_none a b c d = rw (ne_eqb k 43 a, ne_eqb k 45 b, ne_eqb k 63 c, ne_eqb k 94 d)

-- what the code reads at the starts of the words is what the line gives
pub read-guess : (l : List ℕ) (a b c k n : ℕ) (x y z : ℤ) → drop a l ≡ behind l → drop b l ≡ behind (drop a l) → drop c l ≡ behind (drop b l)
    → k ≡ get_or l 0 0 → x ≡ integer (front (drop a l)) → y ≡ integer (front (drop b l)) → z ≡ integer (front (drop c l)) → n ≡ value 0 (front (drop c l))
    → command_of k (to_z w32 (of_z w32 x)) (to_z w32 (of_z w32 y)) (to_z w32 (of_z w32 z)) n ≡ guess l
unfolding guess
read-guess l a b c k n x y z da db dc ek ex ey ez en =
    let ea : drop a l ≡ behind l = da in
    let eb : drop b l ≡ behind (behind l) = db ∙ ap behind ea in
    let ec : drop c l ≡ behind (behind (behind l)) = dc ∙ ap behind eb in
    rw (ek, integer-back x (front (drop a l)) ex, integer-back y (front (drop b l)) ey, integer-back z (front (drop c l)) ez, en, ea, eb, ec)

-- an empty line says nothing
pub guess_empty : (l : List ℕ) → length l ≤ 0 → None ≡ guess l
unfolding guess command_of
guess_empty [] h = refl
guess_empty (x ∷ l) h = absurd (not-suc-le-zero h)
