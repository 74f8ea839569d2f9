-- What spots, by their keys, and bare keys have in common: a list in order cut at a key, one element put in, a range taken out.
-- Assumes nothing.
use mathlib.Core.Path.{◌≡◌, refl, sym, ap, ap₂, subst, ◌∙◌}
use mathlib.Core.Logic.{⊎_elim}
use mathlib.Core.Bool.{Bool, true, false, not, ◌&&◌, and-false}
use mathlib.Core.List.{List, [], ◌∷◌, ◌++◌, append_assoc}
use Prim.Native.Nat.{ℕ, zero, suc, ◌+◌, ◌-◌, ◌≤◌, ◌<◌}
use native.Mathlib.Omega.{arith}
use lib.ListN.{length, take, drop, get_or, length-append, length-drop, take-append-drop}
use lib.Seq.{take_at, drop_at, take_all, drop-drop, append_snoc, length-take-le, get_or-take}
use lib.Dec.{ltb, leb, eqb}
use borrow.Author.Tests.{lt-ltb, le-ltb, le-leb, lt-leb, eq-eqb, ne_eqb}
use Rattle.octets.specs.Lists.{has, rising_from}
use Rattle.octets.proofs.Order.{same_or_not, less-or-not}
use Rattle.octets.proofs.Tests.{keep_append, keep-keep, keep_same}
use Rattle.octets.proofs.Sets.{not-has-mem}
use Rattle.octets.proofs.Rising.{rising-first, rising-rest, rising-make, rising-left, rising-right, keep-rises}
use Rattle.spot.specs.Keys.{within}
use Rattle.spot.specs.Sorted.{but}
use Rattle.spot.proofs.Places.{within-yes, within_low, within-high}
use Rattle.buffer.specs.Buffer.{below}
pub use Rattle.buffer.specs.Keyed.{Keyed, spots, plain, having}

-- ---- the tests of a range

within-tests : (lo cut k : ℕ) → within lo cut k ≡ ltb k cut && leb lo k
within-tests lo cut k =
    ⊎_elim (λ (h : cut ≤ k). within-high lo cut k h ∙ rw (le-ltb k cut h))
    (λ (h : k < cut).
    rw (lt-ltb k cut h)
    (⊎_elim (λ (l : lo ≤ k). within-yes lo cut k l h ∙ sym (le-leb lo k l)) (λ (l : k < lo). within_low lo cut k l ∙ sym (lt-leb lo k l)) (less-or-not lo k)))
    (less-or-not cut k)

low-low : (lo cut k : ℕ) → lo ≤ cut → ltb k lo ≡ ltb k cut && ltb k lo
low-low lo cut k h =
    ⊎_elim (λ (l : lo ≤ k). rw (le-ltb k lo l) (sym (and-false (ltb k cut)))) (λ (l : k < lo). rw (lt-ltb k lo l, lt-ltb k cut (omega arith))) (less-or-not lo k)

low-apart : (lo cut k : ℕ) → lo ≤ cut → ltb k lo ≡ ltb k cut && not (within lo cut k)
low-apart lo cut k h =
    rw (within-tests lo cut k)
    (⊎_elim (λ (l : lo ≤ k). rw (le-ltb k lo l, le-leb lo k l) (sym (both_ways (ltb k cut))))
    (λ (l : k < lo). rw (lt-ltb k lo l, lt-leb lo k l, lt-ltb k cut (omega arith)))
    (less-or-not lo k))
  where
    both_ways : (b : Bool) → b && not (b && true) ≡ false
    both_ways true = refl
    both_ways false = refl

high-apart : (lo cut k : ℕ) → leb cut k ≡ leb cut k && not (within lo cut k)
high-apart lo cut k =
    rw (within-tests lo cut k)
    (⊎_elim (λ (l : cut ≤ k). rw (le-leb cut k l, le-ltb k cut l)) (λ (l : k < cut). rw (lt-leb cut k l)) (less-or-not cut k))

within-one : (k j : ℕ) → within k (suc k) j ≡ eqb j k
within-one k j =
    within-tests k (suc k) j ∙
    ⊎_elim (λ (e : j ≡ k). rw (eq-eqb j k e, lt-ltb j (suc k) (omega arith), le-leb k j (omega arith)))
    (λ (n : j ≡ k → ⊥). rw (ne_eqb j k n)
    (⊎_elim (λ (l : k ≤ j). rw (le-ltb j (suc k) (omega arith))) (λ (l : j < k). rw (lt-leb k j l) (and-false (ltb j (suc k)))) (less-or-not k j)))
    (same_or_not j k)

-- two lists that rise with a third between them rise without it
rising-skip : (a : ℕ) (xs ys zs : List ℕ) → rising_from a (xs ++ (ys ++ zs)) ≡ true → rising_from a (xs ++ zs) ≡ true
rising-skip a [] ys zs h = rising-right a ys zs h
rising-skip a (x ∷ xs) ys zs h =
    rising-make a x (xs ++ zs) (rising-first a x (xs ++ (ys ++ zs)) h) (rising-skip (suc x) xs ys zs (rising-rest a x (xs ++ (ys ++ zs)) h))

module _ {A : Type 0} (K : Keyed A) where
  -- in order, from a on
  abbrev pub Up : ℕ → List A → Type 0
  Up a l = rising_from a (K.named l) ≡ true

  -- the elements whose keys are below k, and those from k on
  abbrev pub lows : ℕ → List A → List A
  lows k l = having K (λ j. ltb j k) l

  abbrev pub highs : ℕ → List A → List A
  highs k l = having K (λ j. leb k j) l

  up_first : (a : ℕ) (x : A) (l : List A) → Up a (x ∷ l) → a ≤ K.key x
  up_first a x l h = rising-first a (K.key x) (K.named l) (rw (K.named-cons x l) at h)

  up_rest : (a : ℕ) (x : A) (l : List A) → Up a (x ∷ l) → Up (suc (K.key x)) l
  up_rest a x l h = rising-rest a (K.key x) (K.named l) (rw (K.named-cons x l) at h)

  pub named-at : (l : List A) (i : ℕ) (d : A) → i < length l → get_or (K.named l) i 0 ≡ K.key (get_or l i d)
  named-at [] i d h = absurd (let z : ⊥ = omega arith in z)
  named-at (x ∷ l) zero d h = ap (λ (ks : List ℕ). get_or ks 0 0) (K.named-cons x l)
  named-at (x ∷ l) (suc i) d h = ap (λ (ks : List ℕ). get_or ks (suc i) 0) (K.named-cons x l) ∙ named-at l i d (let z : i < length l = omega arith in z)

  -- a list in order is what is below k, and then what is not
  no-lows : (k a : ℕ) (l : List A) → k ≤ a → Up a l → lows k l ≡ []
  no-lows k a [] h u = refl
  no-lows k a (x ∷ l) h u =
      rw (le-ltb (K.key x) k (omega (arith, up_first a x l u))) (no-lows k (suc (K.key x)) l (omega (arith, up_first a x l u)) (up_rest a x l u))

  pub split : (k a : ℕ) (l : List A) → Up a l → l ≡ lows k l ++ highs k l
  split k a [] u = refl
  split k a (x ∷ l) u =
      let r = up_rest a x l u in
      let i : l ≡ lows k l ++ highs k l = split k (suc (K.key x)) l r in
      ⊎_elim
      (λ (h : k ≤ K.key x).
      let z : lows k l ≡ [] = no-lows k (suc (K.key x)) l (omega arith) r in
      rw (le-ltb (K.key x) k h, le-leb k (K.key x) h, z) (ap (λ (m : List A). x ∷ m) (i ∙ ap (λ (m : List A). m ++ highs k l) z)))
      (λ (h : K.key x < k). rw (lt-ltb (K.key x) k h, lt-leb k (K.key x) h) (ap (λ (m : List A). x ∷ m) i))
      (less-or-not k (K.key x))

  pub lows-length : (k : ℕ) (l : List A) → length (lows k l) ≡ below k (K.named l)
  lows-length k l = sym (K.named-length (lows k l)) ∙ ap length (K.named_keep (λ j. ltb j k) l)

  pub take_below : (k a : ℕ) (l : List A) → Up a l → take (below k (K.named l)) l ≡ lows k l
  take_below k a l u = ap (take (below k (K.named l))) (split k a l u) ∙ take_at (lows k l) (highs k l) (below k (K.named l)) (lows-length k l)

  pub drop-below : (k a : ℕ) (l : List A) → Up a l → drop (below k (K.named l)) l ≡ highs k l
  drop-below k a l u = ap (drop (below k (K.named l))) (split k a l u) ∙ drop_at (lows k l) (highs k l) (below k (K.named l)) (lows-length k l)

  -- an element put in stands between the two
  pub insert-is : (x : A) (a : ℕ) (l : List A) → Up a l → K.insert x l ≡ lows (K.key x) l ++ x ∷ highs (K.key x) l
  insert-is x a [] u = K.insert-nil x
  insert-is x a (y ∷ l) u =
      let r = up_rest a y l u in
      K.insert-cons x y l ∙
      ⊎_elim
      (λ (h : K.key x ≤ K.key y).
      let z : lows (K.key x) l ≡ [] = no-lows (K.key x) (suc (K.key y)) l (omega arith) r in
      rw (le-ltb (K.key y) (K.key x) h, le-leb (K.key x) (K.key y) h, z)
      (ap (λ (m : List A). x ∷ y ∷ m) (split (K.key x) (suc (K.key y)) l r ∙ ap (λ (m : List A). m ++ highs (K.key x) l) z)))
      (λ (h : K.key y < K.key x).
      rw (lt-ltb (K.key y) (K.key x) h, lt-leb (K.key x) (K.key y) h) (ap (λ (m : List A). y ∷ m) (insert-is x (suc (K.key y)) l r)))
      (less-or-not (K.key x) (K.key y))

  -- ---- a range: the elements from lo up to, and without, cut
  abbrev pub among : ℕ → ℕ → List A → List A
  among lo cut l = having K (within lo cut) l

  module _ (lo cut a : ℕ) (l : List A) (h : lo ≤ cut) (u : Up a l) where
    lows-cut : lows cut l ≡ lows lo l ++ among lo cut l
    lows-cut =
        split lo a (lows cut l) (rw (K.named_keep (λ j. ltb j cut) l) (keep-rises (λ j. ltb j cut) a (K.named l) u))
        ∙ ap (λ (m : List A). m ++ highs lo (lows cut l)) (sym (keep-keep (λ (x : A). ltb (K.key x) cut) (λ x. ltb (K.key x) lo) (λ x. ltb (K.key x) lo) (λ x. low-low lo cut (K.key x) h) l))
        ∙ ap (λ (m : List A). lows lo l ++ m) (sym (keep-keep (λ (x : A). ltb (K.key x) cut) (λ x. leb lo (K.key x)) (λ x. within lo cut (K.key x)) (λ x. within-tests lo cut (K.key x)) l))

    three : l ≡ lows lo l ++ (among lo cut l ++ highs cut l)
    three = split cut a l u ∙ ap (λ (m : List A). m ++ highs cut l) lows-cut ∙ append_assoc (lows lo l) (among lo cut l) (highs cut l)

    -- its first index and its end, by the numbers of keys below them
    module _ (f t : ℕ) (ef : f ≡ below lo (K.named l)) (et : t ≡ below cut (K.named l)) where
      pub range_length : t ≡ f + length (among lo cut l)
      range_length =
          let e : length (lows lo l ++ among lo cut l) ≡ t = sym (ap length lows-cut) ∙ lows-length cut l ∙ sym et in
          omega (arith, length-append (lows lo l) (among lo cut l), lows-length lo l)

      pub among-is : take (t - f) (drop f l) ≡ among lo cut l
      among-is =
          ap (λ (m : List A). take (t - f) (drop f m)) three
          ∙ ap (take (t - f)) (drop_at (lows lo l) (among lo cut l ++ highs cut l) f (lows-length lo l ∙ sym ef))
          ∙ take_at (among lo cut l) (highs cut l) (t - f) (let e = range_length in omega arith)

      pub apart-is : take f l ++ drop t l ≡ having K (λ j. not (within lo cut j)) l
      apart-is =
          ap₂ (λ (m n : List A). m ++ n)
          (ap (λ (z : ℕ). take z l) ef ∙ take_below lo a l u ∙ keep-keep (λ (x : A). ltb (K.key x) cut) (λ x. not (within lo cut (K.key x))) (λ x. ltb (K.key x) lo) (λ x. low-apart lo cut (K.key x) h) l)
          (ap (λ (z : ℕ). drop z l) et ∙ drop-below cut a l u ∙ keep-keep (λ (x : A). leb cut (K.key x)) (λ x. not (within lo cut (K.key x))) (λ x. leb cut (K.key x)) (λ x. high-apart lo cut (K.key x)) l)
          ∙ sym (keep_append (λ (x : A). not (within lo cut (K.key x))) (lows cut l) (highs cut l))
          ∙ sym (ap (having K (λ j. not (within lo cut j))) (split cut a l u))

  -- every key but one
  pub but-is : (k : ℕ) (l : List A) → having K (λ j. not (within k (suc k) j)) l ≡ having K (but k) l
  but-is k l = keep_same (λ (x : A). not (within k (suc k) (K.key x))) (λ x. but k (K.key x)) l (λ x i. ap not (within-one k (K.key x)))

  -- ---- a list in order, of which a part is taken or taken out
  pub up-keep : (g : ℕ → Bool) (l : List A) → Up 0 l → Up 0 (having K g l)
  up-keep g l u = rw (K.named_keep g l) (keep-rises g 0 (K.named l) u)

  named-two : (n : ℕ) (l : List A) → K.named (take n l) ++ K.named (drop n l) ≡ K.named l
  named-two n l = sym (K.named-append (take n l) (drop n l)) ∙ ap K.named (take-append-drop n l)

  pub up-take : (n : ℕ) (l : List A) → Up 0 l → Up 0 (take n l)
  up-take n l u = rising-left 0 (K.named (take n l)) (K.named (drop n l)) (rw (named-two n l) u)

  pub up-drop : (n : ℕ) (l : List A) → Up 0 l → Up 0 (drop n l)
  up-drop n l u = rising-right 0 (K.named (take n l)) (K.named (drop n l)) (rw (named-two n l) u)

  pub up_apart : (f t : ℕ) (l : List A) → f ≤ t → Up 0 l → Up 0 (take f l ++ drop t l)
  up_apart f t l h u =
      let e : f + (t - f) ≡ t = omega arith in
      let z : drop (t - f) (drop f l) ≡ drop t l = drop-drop (t - f) f l ∙ ap (λ (k : ℕ). drop k l) e in
      let w : K.named (drop f l) ≡ K.named (take (t - f) (drop f l)) ++ K.named (drop t l)
      = sym (named-two (t - f) (drop f l)) ∙ ap (λ (m : List A). K.named (take (t - f) (drop f l)) ++ K.named m) z in
      rw (K.named-append (take f l) (drop t l))
      (rising-skip 0 (K.named (take f l)) (K.named (take (t - f) (drop f l))) (K.named (drop t l)) (rw (← w, named-two f l) u))

  -- ---- what is put together from parts: what it is, and that it is in order
  abbrev Made : List A → List A → Type 0
  Made o t = (o ≡ t) × Up 0 o

  made : (o t : List A) → o ≡ t → Up 0 t → Made o t
  made o t e u = (e, subst (Up 0) (sym e) u)

  pub rest-is : (l : List A) (f n : ℕ) → length l ≤ n → take (n - f) (drop f l) ≡ drop f l
  rest-is l f n h = take_all (n - f) (drop f l) (rw (length-drop f l) (omega arith))

  module _ (l : List A) (u : Up 0 l) where
    pub part-built : (f m : ℕ) {h o : List A} → h ≡ [] → o ≡ h ++ take m (drop f l) → Made o (take m (drop f l))
    part-built f m {h} {o} a b = made o (take m (drop f l)) (b ∙ ap (λ (z : List A). z ++ take m (drop f l)) a) (up-take m (drop f l) (up-drop f l u))

    pub apart-built : (f t n : ℕ) {h o : List A} → f ≤ t → length l ≤ n → h ≡ take f l → o ≡ h ++ take (n - t) (drop t l) → Made o (take f l ++ drop t l)
    apart-built f t n {h} {o} d g a b = made o (take f l ++ drop t l) (b ∙ ap₂ (λ (y z : List A). y ++ z) a (rest-is l t n g)) (up_apart f t l d u)

    pub insert-built : (x : A) (p n : ℕ) {h m o : List A} → has (K.key x) (K.named l) ≡ false → p ≡ below (K.key x) (K.named l) → length l ≤ n
        → h ≡ take p l → m ≡ h ++ (x ∷ []) → o ≡ m ++ take (n - p) (drop p l) → Made o (K.insert x l)
    insert-built x p n {h} {m} {o} d e g a b c =
        let k : ℕ = K.key x in
        let w : (take p l ++ (x ∷ [])) ++ drop p l ≡ K.insert x l
        = append_snoc (take p l) x (drop p l)
        ∙ ap₂ (λ (y z : List A). y ++ x ∷ z) (ap (λ (z : ℕ). take z l) e ∙ take_below k 0 l u) (ap (λ (z : ℕ). drop z l) e ∙ drop-below k 0 l u)
        ∙ sym (insert-is x 0 l u) in
        made o (K.insert x l) (c ∙ ap₂ (λ (y z : List A). y ++ z) (b ∙ ap (λ (z : List A). z ++ (x ∷ [])) a) (rest-is l p n g) ∙ w)
        (K.insert-up x l u (not-has-mem k (K.named l) d))

    module _ (k p : ℕ) (e : p ≡ below k (K.named l)) where
      pub low-built : {o : List A} → o ≡ take p l → Made o (lows k l)
      low-built {o} a = made o (lows k l) (a ∙ ap (λ (z : ℕ). take z l) e ∙ take_below k 0 l u) (up-keep (λ j. ltb j k) l u)

      pub high_is : (n : ℕ) {o : List A} → length l ≤ n → o ≡ take (n - p) (drop p l) → o ≡ highs k l
      high_is n g a = a ∙ rest-is l p n g ∙ ap (λ (z : ℕ). drop z l) e ∙ drop-below k 0 l u

      pub without_is : (q : ℕ) {o : List A} → q ≡ below (suc k) (K.named l) → o ≡ take p l ++ drop q l → o ≡ having K (but k) l
      without_is q f a = a ∙ apart-is k (suc k) 0 l (omega arith) u p q e f ∙ but-is k l

  -- ---- the first n of an array
  module _ (arr : List A) (n : ℕ) (h : n ≤ length arr) where
    pub counted : length (K.named (take n arr)) ≡ n
    counted = K.named-length (take n arr) ∙ length-take-le n arr h

    pub name-at : (i : ℕ) (d : A) → i < n → get_or (K.named (take n arr)) i 0 ≡ K.key (get_or arr i d)
    name-at i d g = named-at (take n arr) i d (rw (length-take-le n arr h) g) ∙ ap K.key (get_or-take n arr i d g)
