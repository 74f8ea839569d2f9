-- Along the nodes above: one after the other, and one more.
-- Assumes nothing.
use mathlib.Core.Path.{◌≡◌, refl, sym, ap, subst, ◌∙◌}
use mathlib.Core.Logic.{◌⊎◌, inl, inr, ⊎_elim}
use mathlib.Core.Bool.{Bool, ◌||◌, or_assoc}
use mathlib.Core.List.Memᴰ
use mathlib.Core.List.{List, [], ◌∷◌, ◌++◌, Memᴰ}
use Prim.Native.Nat.{ℕ, ◌+◌, ◌≤◌, ◌<◌}
use native.Mathlib.Omega.{arith}
use lib.ListN.{length, get_or}
use lib.Seq.{length-take-le}
use Rattle.octets.specs.Lists.{has}
use Rattle.octets.proofs.Lists.{at_mem}
use Rattle.octets.proofs.Sets.{has-append}
use Rattle.block.specs.Node.{Store}
use Rattle.visit.specs.declared.Path.{Path}
use Rattle.visit.specs.Visit.{above, waiting, waiting_by, ValidPath}
use Rattle.block.specs.NodeRules.{ValidBlock}

-- ---- lists of nodes

pub waiting-append : (m : Store) (k : ℕ) (xs ys : List ℕ) → has k (waiting_by m (xs ++ ys)) ≡ has k (waiting_by m xs) || has k (waiting_by m ys)
waiting-append m k [] ys = refl
waiting-append m k (b ∷ xs) ys =
    has-append k (waiting (m b)) (waiting_by m (xs ++ ys))
    ∙ ap (λ (x : Bool). has k (waiting (m b)) || x) (waiting-append m k xs ys)
    ∙ sym (or_assoc (has k (waiting (m b))) (has k (waiting_by m xs)) (has k (waiting_by m ys)))
    ∙ sym (ap (λ (x : Bool). x || has k (waiting_by m ys)) (has-append k (waiting (m b)) (waiting_by m xs)))

module _ (p : Path) (long : length p.blocks ≡ 8) (few : p.n ≤ 7) where
  pub path-length : length (above p) ≡ p.n
  path-length = length-take-le p.n p.blocks (omega arith)

  pub path-at : (i : ℕ) → i < p.n → Memᴰ (get_or (above p) i 0) (above p)
  path-at i h = at_mem (above p) i 0 (omega (arith, path-length))

-- ---- one node more

-- a node of a path with one more is one of those before it, or the last
pub last-or-not : {r : List ℕ} (p : Path) (b : ℕ) → r ≡ above p ++ (b ∷ []) → {c : ℕ} → Memᴰ c r → Memᴰ c (above p) ⊎ (c ≡ b)
last-or-not {r} p b g {c} i =
    ⊎_elim (λ j. inl j) (λ j. inr (Memᴰ.eq_of_singleton j)) (Memᴰ.append_cases (above p) {t = b ∷ []} (subst (λ (l : List ℕ). Memᴰ c l) g i))

pub valid-more : (t : List ℕ) (p r : Path) (b : ℕ) → ValidPath t p → ValidBlock t b → p.n ≤ 6 → r.n ≡ p.n + 1 → above r ≡ above p ++ (b ∷ []) → ValidPath t r
valid-more t p r b v w h e g = record { few = omega arith; valid = λ c i. from c (last-or-not p b g i) }
  where
    from : (c : ℕ) → Memᴰ c (above p) ⊎ (c ≡ b) → ValidBlock t c
    from c (inl i) = v.valid c i
    from c (inr q) = subst (λ (x : ℕ). ValidBlock t x) (sym q) w
