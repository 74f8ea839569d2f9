-- One rank key less takes at most one spot more, so a search for one from which on a node takes 32 to 64 ends; and an even division of the spots among the children.
-- Assumes nothing.
use mathlib.Core.Path.{◌≡◌, refl, ap, sym, ◌∙◌}
use mathlib.Core.Logic.{⊎_elim}
use mathlib.Core.Bool.{Bool, true, false, cond, not, ◌&&◌, true≢false}
use mathlib.Core.List.{List, [], ◌∷◌}
use Prim.Native.Nat.{ℕ, suc, ◌+◌, ◌-◌, ◌*◌, ◌/◌, ◌%◌, ◌≤◌, ◌<◌}
use native.Mathlib.Omega.{arith}
use native.Mathlib.Nat.{div-add-mod', mod-lt, le-div_iff_mul-le, mul-le-mul_right}
use lib.ListN.{length}
use lib.Dec.{leb, eqb}
use borrow.Author.Tests.{leb-true, eq-eqb, ne_eqb}
use Rattle.octets.specs.Lists.{every, rising, rising_from}
use Rattle.octets.proofs.Tests.{and_left, and_right, every-imp, every_two}
use Rattle.octets.proofs.Order.{less-or-not, same_or_not}
use Rattle.octets.proofs.Rising.{rising-rest, rising-from}
use Rattle.spot.specs.declared.Spot.{Spot}
use Rattle.spot.specs.Spots.{keys}
use Rattle.spot.specs.Keys.{rank_key, all_keys, within}
use Rattle.spot.proofs.Places.{within-yes, within_low, within-high, within-to}
use Rattle.spot.proofs.Halves.{rank-inj}
use Rattle.rebuild_theory.specs.Build.{band}

-- a rank key other than c lies in the range from c as it does in that from the next on
within-suc : (c t r : ℕ) → (r ≡ c → ⊥) → within c t r ≡ within (suc c) t r
within-suc c t r n =
    ⊎_elim (λ (a : c ≤ r). ⊎_elim (λ (b : t ≤ r). within-high c t r b ∙ sym (within-high (suc c) t r b)) (λ (b : r < t). within-yes c t r a b ∙ sym (within-yes (suc c) t r (more a) b)) (less-or-not t r))
    (λ (a : r < c). within_low c t r a ∙ sym (within_low (suc c) t r (omega arith)))
    (less-or-not c r)
  where
    more : c ≤ r → suc c ≤ r
    more a = ⊎_elim (λ (e : r ≡ c). absurd (n e)) (λ (e : r ≡ c → ⊥). omega arith) (same_or_not r c)

band-same : (c t : ℕ) (ss : List Spot) → every (λ k. not (eqb (rank_key k) c)) (keys ss) ≡ true → band c t ss ≡ band (suc c) t ss
unfolding band
band-same c t [] h = refl
band-same c t (s ∷ ss) h =
    rw (within-suc c t (rank_key s.key) other, band-same c t ss (and_right (not (eqb (rank_key s.key) c)) (every (λ k. not (eqb (rank_key k) c)) (keys ss)) h))
  where
    other : rank_key s.key ≡ c → ⊥
    other e = true≢false (sym (and_left (not (eqb (rank_key s.key) c)) (every (λ k. not (eqb (rank_key k) c)) (keys ss)) h) ∙ ap not (eq-eqb (rank_key s.key) c e))

others-differ : (s : Spot) (ss : List Spot) (c : ℕ) → rank_key s.key ≡ c → s.key < all_keys → every (within 0 all_keys) (keys ss) ≡ true → rising_from (suc s.key) (keys ss) ≡ true
    → every (λ k. not (eqb (rank_key k) c)) (keys ss) ≡ true
others-differ s ss c e small keyed up =
    every-imp (λ k. within 0 all_keys k && leb (suc s.key) k) (λ k. not (eqb (rank_key k) c)) (keys ss)
    (λ k h. differ k (within-to 0 all_keys k (and_left (within 0 all_keys k) (leb (suc s.key) k) h)) (leb-true (suc s.key) k (and_right (within 0 all_keys k) (leb (suc s.key) k) h)))
    (every_two (within 0 all_keys) (leb (suc s.key)) (keys ss) keyed (rising-from (suc s.key) (keys ss) up))
  where
    differ : (k : ℕ) → k < all_keys → suc s.key ≤ k → not (eqb (rank_key k) c) ≡ true
    differ k l a = rw (ne_eqb (rank_key k) c (λ (g : rank_key k ≡ c). let q = rank-inj k s.key l small (g ∙ sym e) in let z : ⊥ = omega arith in z))

-- one rank key less takes at most one spot more
pub band-step : (c t a : ℕ) (ss : List Spot) → every (within 0 all_keys) (keys ss) ≡ true → rising_from a (keys ss) ≡ true → length (band c t ss) ≤ suc (length (band (suc c) t ss))
unfolding band
band-step c t a [] keyed up = omega arith
band-step c t a (s ∷ ss) keyed up =
    ⊎_elim (λ (e : rank_key s.key ≡ c). hit (within c t (rank_key s.key)) (within (suc c) t (rank_key s.key)) (ap (λ (l : List Spot). length l) (band-same c t ss (others-differ s ss c e small later rises))))
    (λ (e : rank_key s.key ≡ c → ⊥). miss (within c t (rank_key s.key)) (within (suc c) t (rank_key s.key)) (within-suc c t (rank_key s.key) e) (band-step c t (suc s.key) ss later rises))
    (same_or_not (rank_key s.key) c)
  where
    later : every (within 0 all_keys) (keys ss) ≡ true
    later = and_right (within 0 all_keys s.key) (every (within 0 all_keys) (keys ss)) keyed

    small : s.key < all_keys
    small = within-to 0 all_keys s.key (and_left (within 0 all_keys s.key) (every (within 0 all_keys) (keys ss)) keyed)

    rises : rising_from (suc s.key) (keys ss) ≡ true
    rises = rising-rest a s.key (keys ss) up

    hit : (x y : Bool) → length (band c t ss) ≡ length (band (suc c) t ss) → length (cond x (s ∷ band c t ss) (band c t ss)) ≤ suc (length (cond y (s ∷ band (suc c) t ss) (band (suc c) t ss)))
    hit true true e = omega (arith, e)
    hit true false e = omega (arith, e)
    hit false true e = omega (arith, e)
    hit false false e = omega (arith, e)

    miss : (x y : Bool) → x ≡ y → length (band c t ss) ≤ suc (length (band (suc c) t ss))
        → length (cond x (s ∷ band c t ss) (band c t ss)) ≤ suc (length (cond y (s ∷ band (suc c) t ss) (band (suc c) t ss)))
    miss true true e h = omega (arith, h)
    miss true false e h = absurd (true≢false e)
    miss false true e h = absurd (true≢false (sym e))
    miss false false e h = h

-- none lies in an empty band
pub band-none : (c t : ℕ) → t ≤ c → (ss : List Spot) → band c t ss ≡ []
unfolding band
band-none c t h [] = refl
band-none c t h (s ∷ ss) = rw (nothing (rank_key s.key)) (band-none c t h ss)
  where
    nothing : (r : ℕ) → within c t r ≡ false
    nothing r = ⊎_elim (λ (a : t ≤ r). within-high c t r a) (λ (a : r < t). within_low c t r (omega arith)) (less-or-not t r)

-- A search by halving ends: between a cut that takes too many and one that takes too few there is another.
pub ends-apart : (t lo hi : ℕ) (ys : List Spot) → rising (keys ys) ≡ true → every (within 0 all_keys) (keys ys) ≡ true → lo < hi → 64 < length (band lo t ys)
    → length (band hi t ys) < 32
    → suc lo < hi
ends-apart t lo hi ys up keyed l a b = ⊎_elim (λ (h : hi ≤ suc lo). absurd (same (omega arith))) (λ (h : suc lo < hi). h) (less-or-not hi (suc lo))
  where
    same : hi ≡ suc lo → ⊥
    same e =
        let s = band-step lo t 0 ys keyed up in
        let f = ap (λ (c : ℕ). length (band c t ys)) e in
        omega (arith, s, f, a, b)

-- m spots for suc d children of a to b spots each: the first takes m / suc d, and as much is left for the others
pub record Division (d m a b : ℕ) : Type 0 where
  pub least : a ≤ m / suc d
  pub most : m / suc d ≤ b
  pub left : a * d ≤ m - m / suc d
  pub right : m - m / suc d ≤ b * d
  pub small : m / suc d ≤ m

-- the even division is one
pub divide : (d m a b : ℕ) → a * suc d ≤ m → m ≤ b * suc d → Division d m a b
divide d m a b h g = record { least = low; most = high; left = omega (arith, whole, wide, low'); right = right-here; small = omega (arith, whole, wide) }
  where
    whole : m / suc d * suc d + m % suc d ≡ m
    whole = div-add-mod' m (suc d)

    part : m % suc d < suc d
    part = mod-lt m (omega arith)

    low : a ≤ m / suc d
    low = (le-div_iff_mul-le {k = suc d} (omega arith)).1 h

    wide : m / suc d * suc d ≡ m / suc d * d + m / suc d
    wide = omega arith

    low' : a * d ≤ m / suc d * d
    low' = mul-le-mul_right d low

    over : suc b ≤ m / suc d → ⊥
    over l =
        let x : suc b * suc d ≤ m / suc d * suc d = mul-le-mul_right (suc d) l in
        let y : suc b * suc d ≡ b * suc d + suc d = omega arith in
        omega (arith, x, y, whole, g)

    high : m / suc d ≤ b
    high = ⊎_elim (λ (l : m / suc d ≤ b). l) (λ (l : b < m / suc d). absurd (over l)) (less-or-not (m / suc d) b)

    right-here : m - m / suc d ≤ b * d
    right-here = ⊎_elim (λ (l : b ≤ m / suc d). equal (omega (arith, l, high))) (λ (l : m / suc d < b). less l) (less-or-not b (m / suc d))
      where
        equal : m / suc d ≡ b → m - m / suc d ≤ b * d
        equal e = let x : b * suc d ≡ b * d + b = omega arith in omega (arith, e, x, g)

        less : suc (m / suc d) ≤ b → m - m / suc d ≤ b * d
        less l =
            let x : suc (m / suc d) * d ≤ b * d = mul-le-mul_right d l in
            let y : suc (m / suc d) * d ≡ m / suc d * d + d = omega arith in
            omega (arith, x, y, whole, wide, part)
