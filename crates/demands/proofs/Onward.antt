-- "Report's order is from x1 onward": what the turning keeps, and the order that it makes, of keys and of spots in whole numbers.
-- Assumes nothing.
use mathlib.Core.Path.{◌≡◌, refl, sym, ap₂, ◌∙◌}
use mathlib.Core.Logic.{⊎_elim}
use mathlib.Core.Bool.{Bool, true, false, cond, ◌&&◌, ◌||◌}
use mathlib.Core.List.Memᴰ
use mathlib.Core.List.{List, [], ◌∷◌, ◌++◌, Memᴰ}
use Prim.Native.Nat.{ℕ, ◌+◌, ◌≤◌, ◌<◌}
use native.Mathlib.Omega.{arith}
use lib.Dec.{leb, ltb}
use lib.IntN.{ℤ}
use borrow.Author.Tests.{le-leb, lt-leb, lt-ltb, le-ltb, ltb-true, leb-true}
use Rattle.octets.specs.Lists.{keep, rising_from}
use Rattle.octets.proofs.Order.{less-or-not, ltb-same}
use Rattle.octets.proofs.Tests.{keep-in, keep-mem, keep-there}
use Rattle.spot.specs.declared.Spot.{Spot}
use Rattle.spot.specs.Keys.{all_keys}
use Rattle.spot.specs.Spots.{keys, from_on}
use Rattle.spot.specs.Query.{query, from_of}
use Rattle.spot.proofs.Signed.{Fits, biased-lt}
use Rattle.demands.specs.Model.{PlainSpot}
use Rattle.demands.specs.Demands.{InOrder, report_before}
use Rattle.demands.proofs.Orders.{model-from, model-under}
use Rattle.demands.proofs.Plain.{to_key_spot, SpotFits, before-is}
use Rattle.demands.proofs.Alive.{to_plain, plain, Small, plain-key, plain_fits, Ahead, Lower, in_order, rises-ahead}

-- ---- what a turning keeps

module _ (k : ℕ) (ss : List Spot) where
  pub from-on-mem : {s : Spot} → Memᴰ s (from_on k ss) → Memᴰ s ss
  unfolding from_on
  from-on-mem i = ⊎_elim (λ j. keep-in _ ss j) (λ j. keep-in _ ss j) (Memᴰ.append_cases (keep (λ s. leb k s.key) ss) i)

  pub mem-from-on : {s : Spot} → Memᴰ s ss → Memᴰ s (from_on k ss)
  unfolding from_on
  mem-from-on {s} i =
      ⊎_elim (λ (l : k ≤ s.key). Memᴰ.append_left (keep (λ x. ltb x.key k) ss) (keep-there (λ x. leb k x.key) ss i (le-leb k s.key l)))
      (λ (l : s.key < k). Memᴰ.append_right (keep (λ x. leb k x.key) ss) (keep-there (λ x. ltb x.key k) ss i (lt-ltb s.key k l)))
      (less-or-not k s.key)

-- ---- the order from k on

-- those below k come after all others
unfoldable onward : ℕ → ℕ → ℕ
onward k a = cond (leb k a) a (a + all_keys)

above-onward : (k a : ℕ) → k ≤ a → onward k a ≡ a
unfolding onward
above-onward k a h = rw (le-leb k a h)

below-onward : (k a : ℕ) → a < k → onward k a ≡ a + all_keys
unfolding onward
below-onward k a h = rw (lt-leb k a h)

onward-is : (k a b : ℕ) → a < all_keys → b < all_keys → cond (leb k a) (ltb b k || ltb a b) (ltb b k && ltb a b) ≡ ltb (onward k a) (onward k b)
onward-is k a b la lb =
    ⊎_elim
    (λ (h : k ≤ a).
    ⊎_elim (λ (g : k ≤ b). rw (le-leb k a h, le-ltb b k g, above-onward k a h, above-onward k b g))
    (λ (g : b < k). rw (le-leb k a h, lt-ltb b k g, above-onward k a h, below-onward k b g) (sym (lt-ltb a (b + all_keys) (omega arith))))
    (less-or-not k b))
    (λ (h : a < k).
    ⊎_elim (λ (g : k ≤ b). rw (lt-leb k a h, le-ltb b k g, below-onward k a h, above-onward k b g) (sym (le-ltb (a + all_keys) b (omega arith))))
    (λ (g : b < k). rw (lt-leb k a h, lt-ltb b k g, below-onward k a h, below-onward k b g) (ltb-same a b (a + all_keys) (b + all_keys) (λ l. omega arith) (λ l. omega arith)))
    (less-or-not k b))
    (less-or-not k a)

-- a test of whole numbers
abbrev Ahead-of : ℕ → Spot → Spot → Type 0
Ahead-of k x y = onward k x.key < onward k y.key

key-small : (s : PlainSpot) → SpotFits s → (to_key_spot s).key < all_keys
key-small s f = omega (arith, biased-lt s.place f.place, biased-lt s.rank f.rank)

module _ (x1 x2 y : ℤ) (f1 : Fits x1) where
  abbrev k : ℕ
  k = from_of (query x1 x2 y)

  report-is : (s r : PlainSpot) → SpotFits s → SpotFits r → report_before x1 s r ≡ ltb (onward k (to_key_spot s).key) (onward k (to_key_spot r).key)
  unfolding report_before
  report-is s r f g =
      rw (model-from x1 x2 y s.place s.rank f1 f.place f.rank, model-under x1 x2 y r.place r.rank f1 g.place g.rank, before-is s r f g)
      (onward-is k (to_key_spot s).key (to_key_spot r).key (key-small s f) (key-small r g))

  -- it doesn't go both ways
  pub report-apart : (s r : PlainSpot) → SpotFits s → SpotFits r → report_before x1 s r ≡ true → report_before x1 r s ≡ true → ⊥
  report-apart s r f g a b =
      let here = onward k (to_key_spot s).key in
      let there = onward k (to_key_spot r).key in
      omega (arith, ltb-true here there (sym (report-is s r f g) ∙ a), ltb-true there here (sym (report-is r s g f) ∙ b))

  ahead_before : (s r : Spot) → s.key < all_keys → r.key < all_keys → Ahead-of k s r → report_before x1 (to_plain s) (to_plain r) ≡ true
  ahead_before s r f g l =
      report-is (to_plain s) (to_plain r) (plain_fits s f) (plain_fits r g) ∙ ap₂ (λ (u v : Spot). ltb (onward k u.key) (onward k v.key)) (plain-key s) (plain-key r) ∙
      lt-ltb _ _ l

-- ---- lists in an order

module _ (R : Spot → Spot → Type 0) where
  ahead-keep : (f : Spot → Bool) (ss : List Spot) → Ahead R ss → Ahead R (keep f ss)
  ahead-keep f [] a = tt
  ahead-keep f (x ∷ xs) a = go (f x) (ahead-keep f xs a.1)
    where
      go : (b : Bool) → Ahead R (keep f xs) → Ahead R (cond b (x ∷ keep f xs) (keep f xs))
      go true h = (λ y i. a.0 y (keep-in f xs i), h)
      go false h = h

  ahead-append : (xs ys : List Spot) → Ahead R xs → Ahead R ys → ((x y : Spot) → Memᴰ x xs → Memᴰ y ys → R x y) → Ahead R (xs ++ ys)
  ahead-append [] ys a b h = b
  ahead-append (x ∷ xs) ys a b h = (
    λ y i. ⊎_elim (λ j. a.0 y j) (λ j. h x y (Memᴰ.head refl) j) (Memᴰ.append_cases xs i),
    ahead-append xs ys a.1 b (λ u v i j. h u v (Memᴰ.tail i) j),
  )

  ahead-so : (S : Spot → Spot → Type 0) (xs : List Spot) → ((x y : Spot) → Memᴰ x xs → Memᴰ y xs → R x y → S x y) → Ahead R xs → Ahead S xs
  ahead-so S [] h a = tt
  ahead-so S (x ∷ xs) h a = (
    λ y i. h x y (Memᴰ.head refl) (Memᴰ.tail i) (a.0 y i),
    ahead-so S xs (λ u v i j. h u v (Memᴰ.tail i) (Memᴰ.tail j)) a.1,
  )

turned-ahead : (k : ℕ) (ss : List Spot) → Small ss → Ahead Lower ss → Ahead (Ahead-of k) (from_on k ss)
unfolding from_on
turned-ahead k ss small a =
    ahead-append (Ahead-of k) (keep from ss) (keep under ss)
    (ahead-so Lower (Ahead-of k) (keep from ss) (λ x y i j l. rw (is-from x i, is-from y j) l) (ahead-keep Lower from ss a))
    (ahead-so Lower (Ahead-of k) (keep under ss) (λ x y i j l. rw (is-under x i, is-under y j) (omega arith)) (ahead-keep Lower under ss a))
    (λ x y i j. let l = small x (keep-in from ss i) in rw (is-from x i, is-under y j) (omega arith))
  where
    from : Spot → Bool
    from s = leb k s.key

    under : Spot → Bool
    under s = ltb s.key k

    is-from : (s : Spot) → Memᴰ s (keep from ss) → onward k s.key ≡ s.key
    is-from s i = above-onward k s.key (leb-true k s.key (keep-mem from ss i).1)

    is-under : (s : Spot) → Memᴰ s (keep under ss) → onward k s.key ≡ s.key + all_keys
    is-under s i = below-onward k s.key (ltb-true s.key k (keep-mem under ss i).1)

pub turned-small : (k : ℕ) (ss : List Spot) → Small ss → Small (from_on k ss)
turned-small k ss h s i = h s (from-on-mem k ss i)

-- spots that rise, turned to begin at x1, are in the order of a Report
pub turned-in-order : (x1 x2 y : ℤ) → Fits x1 → (ss : List Spot) → Small ss → rising_from 0 (keys ss) ≡ true
    → InOrder (report_before x1) (plain (from_on (from_of (query x1 x2 y)) ss))
turned-in-order x1 x2 y f1 ss h r =
    in_order (report_before x1) (Ahead-of (from_of (query x1 x2 y))) (ahead_before x1 x2 y f1) (from_on (from_of (query x1 x2 y)) ss) (turned-small _ ss h)
    (turned-ahead _ ss h (rises-ahead 0 ss r))
