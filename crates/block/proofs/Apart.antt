-- Two rising lists that share no number, by a walk along both.
-- Assumes nothing.
use mathlib.Core.Path.{◌≡◌, refl, sym, ap, ap₂, subst, ◌∙◌}
use mathlib.Core.Bool.{Bool, true, false, not}
use mathlib.Core.List.{List, [], ◌∷◌}
use Prim.Native.Nat.{ℕ, zero, suc, ◌+◌, ◌-◌, ◌*◌, ◌≤◌, ◌<◌}
use native.Mathlib.Nat.{eq-or-lt_of_le}
use mathlib.Core.Logic.{⊎_elim}
use native.Mathlib.Omega.{arith}
use borrow.Author.Tests.{not-true, ne_eqb, eq-eqb}
use Rattle.octets.specs.Lists.{rising_from, rising, has}
use Rattle.octets.specs.Sets.{Apart}
use Rattle.spot.specs.Spots.{key_at, keys_from}
use Rattle.block.specs.Checks.{apart, Past}
use Rattle.octets.proofs.Tests.{every-mem, every-make}
use Rattle.octets.proofs.Sets.{has-not, not-has-mem}
use Rattle.octets.proofs.Rising.{rising-lower, rising-first, rising-rest, rising-make, rising-least}
use Rattle.octets.proofs.Records.{left, left-all, left-cons, left-none}

-- the test and the fact
pub apart-test : (xs ys : List ℕ) → Apart xs ys → apart xs ys ≡ true
apart-test xs ys o = every-make (λ x. not (has x ys)) xs (λ x i. ap not (has-not x ys (o x i)))

pub apart-fact : (xs ys : List ℕ) → apart xs ys ≡ true → Apart xs ys
apart-fact xs ys h z i j = not-has-mem z ys (not-true (has z ys) (every-mem (λ x. not (has x ys)) xs h i)) j

apart-nil : (xs : List ℕ) → apart xs [] ≡ true
apart-nil [] = refl
apart-nil (x ∷ xs) = apart-nil xs

skip : (y a : ℕ) (ys zs : List ℕ) → rising_from a zs ≡ true → y < a → apart zs (y ∷ ys) ≡ apart zs ys
skip y a ys [] p h = refl
skip y a ys (z ∷ zs) p h =
    let l : a ≤ z = rising-first a z zs p in
    rw (ne_eqb z y (λ e. omega arith), skip y (suc z) ys zs (rising-rest a z zs p) (omega arith))

-- the lower of the two first numbers goes
apart-left : (x y : ℕ) (xs ys : List ℕ) → rising (y ∷ ys) ≡ true → x < y → apart (x ∷ xs) (y ∷ ys) ≡ apart xs (y ∷ ys)
apart-left x y xs ys p h = rw (ne_eqb x y (λ e. omega arith), has-not x ys (λ i. let l : suc y ≤ x = rising-least (suc y) ys (rising-rest 0 y ys p) i in omega arith))

apart-right : (x y : ℕ) (xs ys : List ℕ) → rising (x ∷ xs) ≡ true → y < x → apart (x ∷ xs) (y ∷ ys) ≡ apart (x ∷ xs) ys
apart-right x y xs ys p h =
    skip y x ys (x ∷ xs) (rising-make x x xs (omega arith) (rising-rest 0 x xs p)) h

apart-meet : (x y : ℕ) (xs ys : List ℕ) → x ≡ y → apart (x ∷ xs) (y ∷ ys) ≡ false
apart-meet x y xs ys e = rw (eq-eqb x y e)

-- ---- the walk
module _ (s : List ℕ) (n at d ad : ℕ) where
  abbrev many : ℕ → List ℕ
  many i = left (key_at s) 12 n at i

  abbrev few : ℕ → List ℕ
  few j = left (key_at s) 8 d ad j

  abbrev goal : Bool
  goal = apart (keys_from s 12 n at) (keys_from s 8 d ad)

  pub record ApartInv (i j : ℕ) : Type 0 where
    pub same : goal ≡ apart (many i) (few j)
    pub rise : rising (many i) ≡ true
    pub rise2 : rising (few j) ≡ true

  pub apart-start : rising (keys_from s 12 n at) ≡ true → rising (keys_from s 8 d ad) ≡ true → ApartInv 0 0
  apart-start p q =
      let e : keys_from s 12 n at ≡ many 0 = left-all (key_at s) 12 n at in
      let g : keys_from s 8 d ad ≡ few 0 = left-all (key_at s) 8 d ad in
      record { same = ap₂ apart e g; rise = ap rising (sym e) ∙ p; rise2 = ap rising (sym g) ∙ q }

  pub apart-few : (i j : ℕ) → ApartInv i j → d ≤ j → true ≡ goal
  apart-few i j v h = sym (v.same ∙ ap (apart (many i)) (left-none (key_at s) 8 d ad j h) ∙ apart-nil (many i))

  pub apart-many : (i j : ℕ) → ApartInv i j → n ≤ i → true ≡ goal
  apart-many i j v h = sym (v.same ∙ ap (λ (l : List ℕ). apart l (few j)) (left-none (key_at s) 12 n at i h))

  module _ (i j : ℕ) {a b : ℕ} (v : ApartInv i j) (hi : i < n) (hj : j < d) (ea : a ≡ key_at s (at + 12 * i)) (eb : b ≡ key_at s (ad + 8 * j)) where
    x-cons : many i ≡ a ∷ many (i + 1)
    x-cons = left-cons (key_at s) 12 n at i hi ∙ ap (λ (k : ℕ). k ∷ many (i + 1)) (sym ea)

    y-cons : few j ≡ b ∷ few (j + 1)
    y-cons = left-cons (key_at s) 8 d ad j hj ∙ ap (λ (k : ℕ). k ∷ few (j + 1)) (sym eb)

    both-cons : goal ≡ apart (a ∷ many (i + 1)) (b ∷ few (j + 1))
    both-cons = v.same ∙ ap₂ apart x-cons y-cons

    rise-x : rising (a ∷ many (i + 1)) ≡ true
    rise-x = ap rising (sym x-cons) ∙ v.rise

    rise-y : rising (b ∷ few (j + 1)) ≡ true
    rise-y = ap rising (sym y-cons) ∙ v.rise2

    pub apart-stop : a ≡ b → false ≡ goal
    apart-stop e = sym (both-cons ∙ apart-meet a b (many (i + 1)) (few (j + 1)) e)

    apart_next : a < b → ApartInv (i + 1) j
    apart_next h =
        record {
          same = both-cons ∙ apart-left a b (many (i + 1)) (few (j + 1)) rise-y h ∙ ap (apart (many (i + 1))) (sym y-cons);
          rise = rising-lower 0 (suc a) (many (i + 1)) (omega arith) (rising-rest 0 a (many (i + 1)) rise-x);
          rise2 = v.rise2;
        }

    pub apart-next2 : b < a → ApartInv i (j + 1)
    apart-next2 h =
        record {
          same = both-cons ∙ apart-right a b (many (i + 1)) (few (j + 1)) rise-x h ∙ ap (λ (l : List ℕ). apart l (few (j + 1))) (sym x-cons);
          rise = v.rise;
          rise2 = rising-lower 0 (suc b) (few (j + 1)) (omega arith) (rising-rest 0 b (few (j + 1)) rise-y);
        }

  -- all keys below b go
  skip-to : (m i j : ℕ) {b : ℕ} → ApartInv i j → i + m ≤ n → ((q : ℕ) → i ≤ q → q < i + m → key_at s (at + 12 * q) < b) → j < d → b ≡ key_at s (ad + 8 * j)
      → ApartInv (i + m) j
  skip-to zero i j v hn h hj eb = subst (λ (k : ℕ). ApartInv k j) (let e : i ≡ i + 0 = omega arith in e) v
  skip-to (suc m) i j v hn h hj eb =
      let e : i + 1 + m ≡ i + suc m = omega arith in
      subst (λ (k : ℕ). ApartInv k j) e
      (skip-to m (i + 1) j (apart_next i j v (omega arith) hj refl eb (h i (omega arith) (omega arith))) (omega arith) (λ q l g. h q (omega arith) (omega arith)) hj eb)

  pub apart-past : (i j r : ℕ) {b : ℕ} → ApartInv i j → Past s at n i b r → j < d → b ≡ key_at s (ad + 8 * j) → ApartInv r j
  apart-past i j r v p hj eb =
      let l : i ≤ r = p.start in
      let w : r ≤ n = p.within in
      let e : i + (r - i) ≡ r = omega arith in
      subst (λ (k : ℕ). ApartInv k j) e (skip-to (r - i) i j v (omega arith) (λ q h g. p.below q h (omega arith)) hj eb)

pub below_next : (s : List ℕ) (at from k i : ℕ) → ((q : ℕ) → from ≤ q → q < i → key_at s (at + 12 * q) < k) → key_at s (at + 12 * i) < k
    → (q : ℕ) → from ≤ q → q < i + 1 → key_at s (at + 12 * q) < k
below_next s at from k i p h q l g =
    ⊎_elim (λ e. subst (λ (z : ℕ). key_at s (at + 12 * z) < k) (sym e) h) (λ m. p q l m) (eq-or-lt_of_le (let b : q ≤ i = omega arith in b))
