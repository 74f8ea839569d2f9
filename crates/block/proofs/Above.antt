-- Keys that lie below all of some others in rank order.
-- Assumes nothing.
use mathlib.Core.Path.{◌≡◌, refl, ap, ◌∙◌}
use mathlib.Core.Bool.{Bool, true, ◌&&◌}
use mathlib.Core.List.{List, [], ◌∷◌, map}
use Prim.Native.Nat.{ℕ, ◌≤◌, ◌<◌, min}
use native.Mathlib.Omega.{arith}
use lib.Dec.{ltb}
use borrow.Author.Tests.{ltb-true, lt-ltb}
use Rattle.octets.specs.Lists.{every, minimum}
use Rattle.octets.specs.Sets.{Apart}
use Rattle.spot.specs.Keys.{all_keys}
use Rattle.octets.proofs.Tests.{and_left, and_right, and_both, every-mem, every-imp, every_two}
use Rattle.block.specs.Checks.{last_key}

-- ---- below all of a list, and below its least

module _ (g : ℕ → ℕ) where
  -- every one of ps lies above every one of ks
  abbrev pub above : List ℕ → List ℕ → Bool
  above ks ps = every (λ p. every (λ k. ltb (g k) (g p)) ks) ps

  pub least_above : (top : ℕ) (ks ps : List ℕ) → every (λ k. ltb (g k) (minimum top (map g ps))) ks ≡ true → above ks ps ≡ true
  least_above top ks [] q = refl
  least_above top ks (x ∷ ps) q =
      let m : ℕ = minimum top (map g ps) in
      and_both _ _
      (every-imp (λ k. ltb (g k) (min (g x) m)) (λ k. ltb (g k) (g x)) ks (λ k h. lt-ltb (g k) (g x) (first (g k) (g x) m (ltb-true _ _ h))) q)
      (least_above top ks ps
      (every-imp (λ k. ltb (g k) (min (g x) m)) (λ k. ltb (g k) m) ks (λ k h. lt-ltb (g k) m (second (g k) (g x) m (ltb-true _ _ h))) q))
    where
      first : (a b c : ℕ) → a < min b c → a < b
      first a b c h = omega arith

      second : (a b c : ℕ) → a < min b c → a < c
      second a b c h = omega arith

  above-least : (top : ℕ) (ks ps : List ℕ) → every (λ k. ltb (g k) top) ks ≡ true → above ks ps ≡ true
      → every (λ k. ltb (g k) (minimum top (map g ps))) ks ≡ true
  above-least top ks [] p q = p
  above-least top ks (x ∷ ps) p q =
      let m : ℕ = minimum top (map g ps) in
      every-imp (λ k. ltb (g k) (g x) && ltb (g k) m) (λ k. ltb (g k) (min (g x) m)) ks
      (λ k h. lt-ltb (g k) (min (g x) m) (both (g k) (g x) m (ltb-true _ _ (and_left (ltb (g k) (g x)) (ltb (g k) m) h)) (ltb-true _ _ (and_right (ltb (g k) (g x)) (ltb (g k) m) h))))
      (every_two (λ k. ltb (g k) (g x)) (λ k. ltb (g k) m) ks (and_left (every (λ k. ltb (g k) (g x)) ks) (above ks ps) q)
      (above-least top ks ps p (and_right (every (λ k. ltb (g k) (g x)) ks) (above ks ps) q)))
    where
      both : (a b c : ℕ) → a < b → a < c → a < min b c
      both a b c h j = omega arith

  -- where there is one of them, the bound top is no test of its own
  pub above-under : (top x : ℕ) (ks ps : List ℕ) → g x ≤ top → above ks (x ∷ ps) ≡ true
      → every (λ k. ltb (g k) (minimum top (map g (x ∷ ps)))) ks ≡ true
  above-under top x ks ps h q =
      above-least top ks (x ∷ ps)
      (every-imp (λ k. ltb (g k) (g x)) (λ k. ltb (g k) top) ks (λ k j. lt-ltb (g k) top (under_top (g k) (g x) top (ltb-true _ _ j) h))
      (and_left (every (λ k. ltb (g k) (g x)) ks) (above ks ps) q))
      q
    where
      under_top : (a b c : ℕ) → a < b → b ≤ c → a < c
      under_top a b c h j = omega arith

  -- and what lies below is another
  pub above_apart : (ks ps : List ℕ) → above ks ps ≡ true → Apart ps ks
  above_apart ks ps q z i j =
      let l : g z < g z = ltb-true (g z) (g z) (every-mem (λ k. ltb (g k) (g z)) ks (every-mem (λ p. every (λ k. ltb (g k) (g p)) ks) ps q i) j) in
      omega arith

-- the least of some numbers of 64 bits, whatever it is compared with at the end
last-least : (xs : List ℕ) → min last_key (minimum all_keys xs) ≡ minimum last_key xs
last-least [] = refl
last-least (x ∷ xs) =
    let e : min last_key (minimum all_keys xs) ≡ minimum last_key xs = last-least xs in
    swap last_key x (minimum all_keys xs) ∙ ap (λ (m : ℕ). min x m) e
  where
    swap : (a b c : ℕ) → min a (min b c) ≡ min b (min a c)
    swap a b c = omega arith

pub least-last : (x : ℕ) (xs : List ℕ) → x ≤ last_key → minimum all_keys (x ∷ xs) ≡ minimum last_key (x ∷ xs)
least-last x xs h = skip x last_key (minimum all_keys xs) h ∙ ap (λ (m : ℕ). min x m) (last-least xs)
  where
    skip : (a b c : ℕ) → a ≤ b → min a c ≡ min a (min b c)
    skip a b c h = omega arith
