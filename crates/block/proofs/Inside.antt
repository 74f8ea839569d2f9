-- Keys that rise inside the limits: the first of them is held against the lower limit, the last against the upper one.
-- Assumes nothing.
use mathlib.Core.Path.{◌≡◌, refl, ap, ◌∙◌}
use mathlib.Core.Bool.{Bool, true, false, ◌&&◌, and-false}
use mathlib.Core.List.{List, ◌∷◌}
use Prim.Native.Nat.{ℕ, suc, ◌≤◌, ◌<◌}
use native.Mathlib.Omega.{arith}
use lib.Dec.{leb, ltb}
use borrow.Author.Tests.{leb-true, ltb-true, le-leb, lt-ltb}
use Rattle.octets.specs.Lists.{every, rising_from}
use Rattle.octets.proofs.Tests.{and_left, and_right, and_both, every-imp, every_two}
use Rattle.octets.proofs.Rising.{rising-lower, rising-from}
use Rattle.spot.specs.Keys.{limited, start_key, end_key}
use Rattle.spot.proofs.Limits.{limited-from, limited-to, limited-yes}
use Rattle.block.specs.declared.Asked.{Asked}
use Rattle.block.specs.NodeRules.{low_of}
use Rattle.block.specs.Checks.{comes_before, rises_inside, start_of}
use Rattle.block.proofs.Rules.{rising-floor}

-- ---- key by key

-- the keys after prev rise from it on, and it and they come before the end
abbrev pub goes_on : ℕ → List ℕ → Bool
goes_on prev ks = ltb prev end_key && rises_inside (suc prev) ks

pub inside-first : (floor k : ℕ) (ks : List ℕ) → rises_inside floor (k ∷ ks) ≡ leb floor k && goes_on k ks
inside-first floor k ks = arrange (leb floor k) (ltb k end_key) (rising_from (suc k) ks) (every (comes_before end_key) ks)
  where
    arrange : (a b c d : Bool) → (a && c) && (b && d) ≡ a && (b && (c && d))
    arrange false b c d = refl
    arrange true true c d = refl
    arrange true false c d = and-false c

-- a key before one that comes before the end does so too
pub inside-next : (prev k : ℕ) (ks : List ℕ) → goes_on prev (k ∷ ks) ≡ ltb prev k && goes_on k ks
inside-next prev k ks =
    ap (λ (b : Bool). ltb prev end_key && b) (inside-first (suc prev) k ks)
    ∙ implied (ltb prev end_key) (ltb prev k) (ltb k end_key) (rises_inside (suc k) ks)
    (λ p q. let l : prev < k = ltb-true prev k p in
    let m : k < end_key = ltb-true k end_key q in
    lt-ltb prev end_key (omega arith))
  where
    implied : (a b c d : Bool) → (b ≡ true → c ≡ true → a ≡ true) → a && (b && (c && d)) ≡ b && (c && d)
    implied a false c d h = and-false a
    implied a true false d h = and-false a
    implied a true true d h = rw (h refl refl)

-- ---- the range and the limits together

pub start-low : (a : Asked) → low_of a ≤ start_of a
unfolding start_of
start-low a = omega arith

pub start_first : (a : Asked) → start_key ≤ start_of a
unfolding start_of
start_first a = omega arith

pub start-least : (a : Asked) (k : ℕ) → low_of a ≤ k → start_key ≤ k → start_of a ≤ k
unfolding start_of
start-least a k l m = omega arith

module _ (a : Asked) (ks : List ℕ) where
  pub inside-make : rising_from (low_of a) ks ≡ true → every limited ks ≡ true → rises_inside (start_of a) ks ≡ true
  inside-make p q =
      and_both (rising_from (start_of a) ks) (every (comes_before end_key) ks)
      (rising-floor (start_of a) ks (rising-lower 0 (low_of a) ks (omega arith) p)
      (every-imp (λ k. leb (low_of a) k && limited k) (leb (start_of a)) ks
      (λ k h. le-leb (start_of a) k (start-least a k (leb-true (low_of a) k (and_left (leb (low_of a) k) (limited k) h)) (limited-from k (and_right (leb (low_of a) k) (limited k) h))))
      (every_two (leb (low_of a)) limited ks (rising-from (low_of a) ks p) q)))
      (every-imp limited (comes_before end_key) ks (λ k h. lt-ltb k end_key (limited-to k h)) q)

  module _ (h : rises_inside (start_of a) ks ≡ true) where
    pub inside-from : rising_from (start_of a) ks ≡ true
    inside-from = and_left (rising_from (start_of a) ks) (every (comes_before end_key) ks) h

    pub inside-before : every (comes_before end_key) ks ≡ true
    inside-before = and_right (rising_from (start_of a) ks) (every (comes_before end_key) ks) h

    pub inside-rise : rising_from (low_of a) ks ≡ true
    inside-rise = rising-lower (low_of a) (start_of a) ks (start-low a) inside-from

    pub inside-limited : every limited ks ≡ true
    inside-limited =
        every-imp (λ k. leb (start_of a) k && comes_before end_key k) limited ks
        (λ k g.
        let l : start_of a ≤ k = leb-true (start_of a) k (and_left (leb (start_of a) k) (ltb k end_key) g) in
        limited-yes k (omega (arith, start_first a)) (ltb-true k end_key (and_right (leb (start_of a) k) (ltb k end_key) g)))
        (every_two (leb (start_of a)) (comes_before end_key) ks (rising-from (start_of a) ks inside-from) inside-before)
