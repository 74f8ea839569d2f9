-- Lists of spots that rise in place order: each is settled by what it finds. What is found once a spot is put in or taken out.
-- Assumes nothing.
use Rattle.std.proofs.Common.{◌≡◌, ℕ, suc, ◌<◌, ◌≤◌, Bool, true, false, cond, eqb, leb, List, [], ◌∷◌, length, sym, refl, ap, ◌∙◌, ap₂, ⊎_elim, arith, eq-eqb, ne_eqb, le-leb}
use mathlib.Core.Option.{Option, none, some, some-ne-none, some-injective}
use borrow.Author.Tests.{lt-leb}
use Rattle.octets.specs.Lists.{every, keep, rising_from}
use Rattle.octets.proofs.Order.{same_or_not, less-or-not}
use Rattle.octets.proofs.Tests.{and_left, cond-not, keep-length}
use Rattle.octets.proofs.Rising.{rising-first, rising-rest, rising-make, rising-lower, rising-from}
use Rattle.spot.specs.declared.Spot.{Spot}
use Rattle.spot.specs.Spots.{keys, find, put, without}
use Rattle.spot.specs.Sorted.{only, but}

pub find-here : (k : ℕ) (s : Spot) (ss : List Spot) → k ≡ s.key → find k (s ∷ ss) ≡ some s.track
find-here k s ss e = rw (eq-eqb k s.key e)

pub find_past : (k : ℕ) (s : Spot) (ss : List Spot) → (k ≡ s.key → ⊥) → find k (s ∷ ss) ≡ find k ss
find_past k s ss e = rw (ne_eqb k s.key e)

absent : (a k : ℕ) (ss : List Spot) → rising_from a (keys ss) ≡ true → k < a → find k ss ≡ none
absent a k [] h l = refl
absent a k (s ∷ ss) h l =
    find_past k s ss (λ e. omega (arith, rising-first a s.key (keys ss) h)) ∙ absent (suc s.key) k ss (rising-rest a s.key (keys ss) h) (omega (arith, rising-first a s.key (keys ss) h))

pub spot-eq : (x y : Spot) → x.key ≡ y.key → x.track ≡ y.track → x ≡ y
spot-eq x y p q = λ i. record { key = p i; track = q i }

-- two lists that rise from a and find the same are one
pub canon : (a : ℕ) (xs ys : List Spot) → rising_from a (keys xs) ≡ true → rising_from a (keys ys) ≡ true → ((k : ℕ) → find k xs ≡ find k ys) → xs ≡ ys
canon a [] [] hx hy f = refl
canon a [] (y ∷ ys) hx hy f = absurd (some-ne-none _ (sym (find-here y.key y ys refl) ∙ sym (f y.key)))
canon a (x ∷ xs) [] hx hy f = absurd (some-ne-none _ (sym (find-here x.key x xs refl) ∙ f x.key))
canon a (x ∷ xs) (y ∷ ys) hx hy f =
    ap₂ (λ (s : Spot) (l : List Spot). s ∷ l) (spot-eq x y same_key same-track) (canon (suc x.key) xs ys rest-x rest-y tails)
  where
    rest-x : rising_from (suc x.key) (keys xs) ≡ true
    rest-x = rising-rest a x.key (keys xs) hx

    not-less : (x.key < y.key) → ⊥
    not-less l =
        some-ne-none _
        (sym (find-here x.key x xs refl) ∙ f x.key ∙ find_past x.key y ys (λ e. omega arith) ∙
        absent (suc y.key) x.key ys (rising-rest a y.key (keys ys) hy) (omega arith))

    not_more : (y.key < x.key) → ⊥
    not_more l =
        some-ne-none _
        (sym (find-here y.key y ys refl) ∙ sym (f y.key) ∙ find_past y.key x xs (λ e. omega arith) ∙
        absent (suc x.key) y.key xs rest-x (omega arith))

    same_key : x.key ≡ y.key
    same_key =
        ⊎_elim (λ e. e) (λ n. absurd (⊎_elim (λ l. not-less (omega arith)) (λ l. not_more l) (less-or-not x.key y.key)))
        (same_or_not x.key y.key)

    same-track : x.track ≡ y.track
    same-track = some-injective _ _ (sym (find-here x.key x xs refl) ∙ f x.key ∙ find-here x.key y ys same_key)

    rest-y : rising_from (suc x.key) (keys ys) ≡ true
    rest-y = rising-lower (suc x.key) (suc y.key) (keys ys) (omega (arith, same_key)) (rising-rest a y.key (keys ys) hy)

    tails : (k : ℕ) → find k xs ≡ find k ys
    tails k =
        ⊎_elim (λ e. absent (suc x.key) k xs rest-x (omega arith) ∙ sym (absent (suc x.key) k ys rest-y (omega arith)))
        (λ n. sym (find_past k x xs n) ∙ f k ∙ find_past k y ys (λ e. n (e ∙ sym same_key)))
        (same_or_not k x.key)

-- ---- a spot put in

pub find-put : (j : ℕ) (s : Spot) (xs : List Spot) → find j (put s xs) ≡ cond (eqb j s.key) (some s.track) (find j xs)
find-put j s [] = refl
find-put j s (x ∷ xs) =
    ⊎_elim (λ l. rw (le-leb s.key x.key l)) (λ l. rw (lt-leb s.key x.key l) (past l (find-put j s xs))) (less-or-not s.key x.key)
  where
    past : x.key < s.key → find j (put s xs) ≡ cond (eqb j s.key) (some s.track) (find j xs)
        → find j (x ∷ put s xs) ≡ cond (eqb j s.key) (some s.track) (find j (x ∷ xs))
    past l ih =
        ⊎_elim (λ e. rw (eq-eqb j x.key e, ne_eqb j s.key (λ (g : j ≡ s.key). omega arith))) (λ n. rw (ne_eqb j x.key n) ih)
        (same_or_not j x.key)

pub put-rises : (a : ℕ) (s : Spot) (xs : List Spot) → a ≤ s.key → rising_from a (keys xs) ≡ true → find s.key xs ≡ none
    → rising_from a (keys (put s xs)) ≡ true
put-rises a s [] l h n = rising-make a s.key (keys []) l refl
put-rises a s (x ∷ xs) l h n =
    ⊎_elim (λ (g : s.key ≤ x.key). rw (le-leb s.key x.key g) (before g)) (λ (g : x.key < s.key). rw (lt-leb s.key x.key g) (later g (put-rises (suc x.key) s xs)))
    (less-or-not s.key x.key)
  where
    apart : s.key ≡ x.key → ⊥
    apart e = some-ne-none _ (sym (find-here s.key x xs e) ∙ n)

    before : s.key ≤ x.key → rising_from a (keys (s ∷ x ∷ xs)) ≡ true
    before g =
        ⊎_elim (λ e. absurd (apart e)) (λ (d : s.key ≡ x.key → ⊥). rising-make a s.key (keys (x ∷ xs)) l (rising-make (suc s.key) x.key (keys xs) (omega arith) (rising-rest a x.key (keys xs) h)))
        (same_or_not s.key x.key)

    later : x.key < s.key → (suc x.key ≤ s.key → rising_from (suc x.key) (keys xs) ≡ true → find s.key xs ≡ none → rising_from (suc x.key) (keys (put s xs)) ≡ true)
        → rising_from a (keys (x ∷ put s xs)) ≡ true
    later g ih = rising-make a x.key (keys (put s xs)) (rising-first a x.key (keys xs) h) (ih g (rising-rest a x.key (keys xs) h) (sym (find_past s.key x xs apart) ∙ n))

pub length-put : (s : Spot) (xs : List Spot) → length (put s xs) ≡ suc (length xs)
length-put s [] = refl
length-put s (x ∷ xs) =
    ⊎_elim (λ (g : s.key ≤ x.key). rw (le-leb s.key x.key g)) (λ (g : x.key < s.key). rw (lt-leb s.key x.key g) (ap suc (length-put s xs)))
    (less-or-not s.key x.key)

-- a spot above none stands first
pub put_first : (s : Spot) (xs : List Spot) → every (leb s.key) (keys xs) ≡ true → put s xs ≡ s ∷ xs
put_first s [] h = refl
put_first s (x ∷ xs) h = rw (and_left (leb s.key x.key) (every (leb s.key) (keys xs)) h)

pub put_front : (s : Spot) (xs : List Spot) → rising_from (suc s.key) (keys xs) ≡ true → put s xs ≡ s ∷ xs
put_front s xs h = put_first s xs (rising-from s.key (keys xs) (rising-lower s.key (suc s.key) (keys xs) (omega arith) h))

-- ---- what is kept

pub cond-none : (b : Bool) → cond {A = Option ℕ} b none none ≡ none
cond-none true = refl
cond-none false = refl

pub find-only : (g : ℕ → Bool) (k : ℕ) (ss : List Spot) → find k (only g ss) ≡ cond (g k) (find k ss) none
find-only g k [] = sym (cond-none (g k))
find-only g k (s ∷ ss) = go (g s.key) refl (find-only g k ss)
  where
    go : (b : Bool) → g s.key ≡ b → find k (only g ss) ≡ cond (g k) (find k ss) none → find k (cond b (s ∷ only g ss) (only g ss)) ≡ cond (g k) (find k (s ∷ ss)) none
    go true q ih =
        ⊎_elim (λ (e : k ≡ s.key). rw (ap g e ∙ q, eq-eqb k s.key e)) (λ (n : k ≡ s.key → ⊥). rw (ne_eqb k s.key n) ih) (same_or_not k s.key)
    go false q ih =
        ⊎_elim (λ (e : k ≡ s.key). ih ∙ rw (ap g e ∙ q)) (λ (n : k ≡ s.key → ⊥). rw (ne_eqb k s.key n) ih) (same_or_not k s.key)

pub keep-rises : (f : Spot → Bool) (a : ℕ) (ss : List Spot) → rising_from a (keys ss) ≡ true → rising_from a (keys (keep f ss)) ≡ true
keep-rises f a [] h = refl
keep-rises f a (s ∷ ss) h = go (f s) (keep-rises f (suc s.key) ss (rising-rest a s.key (keys ss) h))
  where
    go : (b : Bool) → rising_from (suc s.key) (keys (keep f ss)) ≡ true → rising_from a (keys (cond b (s ∷ keep f ss) (keep f ss))) ≡ true
    go true ih = rising-make a s.key (keys (keep f ss)) (rising-first a s.key (keys ss) h) ih
    go false ih = rising-lower a (suc s.key) (keys (keep f ss)) (omega (arith, rising-first a s.key (keys ss) h)) ih

-- ---- a key taken out

pub find-without : (j k : ℕ) (xs : List Spot) → find j (without k xs) ≡ cond (eqb j k) none (find j xs)
unfolding without
find-without j k xs = find-only (but k) j xs ∙ cond-not (eqb j k) (find j xs) none

pub without-rises : (a k : ℕ) (xs : List Spot) → rising_from a (keys xs) ≡ true → rising_from a (keys (without k xs)) ≡ true
unfolding without
without-rises a k xs h = keep-rises _ a xs h

pub length_without : (k : ℕ) (xs : List Spot) → length (without k xs) ≤ length xs
unfolding without
length_without k xs = keep-length _ xs
