-- Arrays that loops of stores fill: from the first on by one rule, and closed up behind an entry.
-- Assumes nothing.
use mathlib.Core.Path.{◌≡◌, sym, ap, ap₂, ◌∙◌}
use mathlib.Core.Logic.{⊎_elim}
use mathlib.Core.List.{List, ◌++◌}
use Prim.Native.Nat.{ℕ, ◌+◌, ◌-◌, ◌≤◌, ◌<◌}
use native.Mathlib.Omega.{arith}
use lib.ListN.{length, take, drop, get_or, set, length-set, length-drop}
use lib.Seq.{get_or-set_same, get_or-set_other, append_snoc}
use Rattle.std.specs.List.{copy_within}
use Rattle.std.proofs.lemmas.List.{drop-set-lt, drop-take}
use Rattle.std.proofs.lemmas.List.Edits.{take-paste}
use Rattle.octets.proofs.Order.{same_or_not}
use Rattle.octets.proofs.Lists.{take-push}
use Rattle.plan.specs.Plans.{closed_up}

-- one element more of those that follow a rule
pub filled : {A : Type 0} (f : ℕ → A) (l : List A) (i : ℕ) (x d : A) → i < length l → ((j : ℕ) → j < i → get_or l j d ≡ f j) → x ≡ f i
    → (j : ℕ) → j < i + 1 → get_or (set l i x) j d ≡ f j
filled f l i x d h p e j k =
    ⊎_elim (λ (s : j ≡ i). rw s (get_or-set_same l i x d h ∙ e)) (λ (s : j ≡ i → ⊥). get_or-set_other l i j x d s ∙ p j (omega arith)) (same_or_not j i)

-- the i-th entry is stored, and those behind the next one are moved up
pub closed-moved : (order : List ℕ) (i n block : ℕ) → i + 1 < n → n ≤ length order
    → take (n - 1) (copy_within (set order i block) (i + 2) n (i + 1)) ≡ closed_up order i n block
closed-moved order i n block h a =
    let stored : List ℕ = set order i block in
    let long = length-set order i block in
    let behind = length-drop (i + 2) stored in
    let last : i + 1 + (n - (i + 2)) ≡ n - 1 = omega arith in
    let whole : i + 2 + (n - (i + 2)) ≡ n = omega arith in
    let up : take (n - (i + 2)) (drop (i + 2) stored) ≡ drop (i + 2) (take n order) =
    ap (take (n - (i + 2))) (drop-set-lt (i + 2) order i block (omega arith))
    ∙ sym (drop-take (i + 2) (n - (i + 2)) order)
    ∙ ap (λ (k : ℕ). drop (i + 2) (take k order)) whole in
    ap (λ (k : ℕ). take k (copy_within stored (i + 2) n (i + 1))) (sym last)
    ∙ take-paste stored (i + 1) (drop (i + 2) stored) (n - (i + 2)) (omega (arith, long)) (omega (arith, long, behind))
    ∙ ap₂ (λ (x y : List ℕ). x ++ y) (take-push order i block (omega arith)) up
    ∙ append_snoc (take i order) block (drop (i + 2) (take n order))
