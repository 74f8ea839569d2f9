-- Lists of spots: what is found, named and kept in order when spots are filtered, joined and put in.
-- Assumes nothing.
use Rattle.std.proofs.Common.{◌≡◌, ℕ, zero, suc, ◌+◌, ◌*◌, ◌<◌, ◌≤◌, Bool, true, false, cond, eqb, leb, ◌⊎◌, List, [], ◌∷◌, ◌++◌, length, sym, refl, ap, ◌∙◌, inl, inr, ⊎_elim, true≢false, arith, eq-eqb, ne_eqb}
use mathlib.Core.Bool.{or-true}
use mathlib.Core.List.Memᴰ
use mathlib.Core.List.{Memᴰ}
use mathlib.Core.Option.{Option, none, some, none-ne-some}
use Rattle.octets.specs.Lists.{every, keep, has, distinct, rising, rising_from, records}
use Rattle.octets.proofs.Order.{same_or_not}
use Rattle.octets.proofs.Records.{records-append, records-more}
use Rattle.octets.proofs.Lists.{mem-same}
use Rattle.octets.proofs.Tests.{cond-mem, every-mem, every-make, keep-mem, keep-in, keep-length}
use Rattle.octets.proofs.Sets.{distinct_head, distinct_tail, distinct_cons}
use Rattle.octets.proofs.Rising.{rising-rest, rising-least}
use Rattle.spot.specs.declared.Spot.{Spot}
use Rattle.spot.specs.Keys.{all_keys, within}
use Rattle.spot.specs.Spots.{key_at, spot_at, spots_from, spots_in, keys, find, put, put_all}
use Rattle.spot.specs.Sorted.{only}
use Rattle.spot.proofs.Card.{key_at-lt}
use Rattle.spot.proofs.Places.{within-yes}
use Rattle.spot.proofs.Canon.{find-here, find_past, find-put, put-rises, length-put, keep-rises}

-- ---- spots in bytes

-- n spots, and then m
pub spots-join : (s : List ℕ) (i n m : ℕ) → spots_from s i (n + m) ≡ spots_from s i n ++ spots_from s (i + n) m
spots-join s i n m =
    let e : 12 * i + 12 * n ≡ 12 * (i + n) = omega arith in
    records-append (spot_at s) 12 n m (12 * i) ∙ ap (λ (a : ℕ). spots_from s i n ++ records (spot_at s) 12 m a) e

-- one more
pub spots-more : (s : List ℕ) (i : ℕ) → spots_in s (i + 1) ≡ spots_in s i ++ (spot_at s (12 * i) ∷ [])
spots-more s i =
    let e : i + 1 ≡ suc i = omega arith in
    let g : 0 + 12 * i ≡ 12 * i = omega arith in
    ap (spots_in s) e ∙ records-more (spot_at s) 12 i 0 ∙ ap (λ (a : ℕ). spots_in s i ++ (spot_at s a ∷ [])) g

-- ---- names

pub keys_length : (ss : List Spot) → length (keys ss) ≡ length ss
keys_length [] = refl
keys_length (s ∷ ss) = ap suc (keys_length ss)

pub keys-append : (xs ys : List Spot) → keys (xs ++ ys) ≡ keys xs ++ keys ys
keys-append [] ys = refl
keys-append (x ∷ xs) ys = ap (λ (l : List ℕ). x.key ∷ l) (keys-append xs ys)

pub keys-mem : (ss : List Spot) {s : Spot} → Memᴰ s ss → Memᴰ s.key (keys ss)
keys-mem [] i = absurd (Memᴰ.not-nil i)
keys-mem (x ∷ xs) {s} i =
    ⊎_elim (λ (e : s ≡ x). Memᴰ.head (ap (λ (y : Spot). y.key) e)) (λ j. Memᴰ.tail (keys-mem xs j)) (Memᴰ.cases_cons i)

pub keys-records : (s : List ℕ) (w n at : ℕ) → keys (records (spot_at s) w n at) ≡ records (key_at s) w n at
unfolding spot_at
keys-records s w zero at = refl
keys-records s w (suc n) at = ap (λ (l : List ℕ). key_at s at ∷ l) (keys-records s w n (at + w))

-- a key of a list of spots is that of one of them
pub keys_from_lem : (ss : List Spot) {k : ℕ} → Memᴰ k (keys ss) → (s : Spot) × Memᴰ s ss × (k ≡ s.key)
keys_from_lem [] i = absurd (Memᴰ.not-nil i)
keys_from_lem (s ∷ ss) i =
    ⊎_elim (λ e. (s, Memᴰ.head refl, e)) (λ j. let r = keys_from_lem ss j in (r.0, Memᴰ.tail r.1, r.2)) (Memᴰ.cases_cons i)

-- read from bytes, every key has 64 bits
pub keys-small : (s : List ℕ) (w n at : ℕ) {k : ℕ} → Memᴰ k (records (key_at s) w n at) → k < all_keys
keys-small s w zero at i = absurd (Memᴰ.not-nil i)
keys-small s w (suc n) at {k} i =
    ⊎_elim (λ (e : k ≡ key_at s at). omega (arith, key_at-lt s at)) (λ j. keys-small s w n (at + w) j) (Memᴰ.cases_cons i)

pub spots-small : (s : List ℕ) (w n at : ℕ) {x : Spot} → Memᴰ x (records (spot_at s) w n at) → x.key < all_keys
spots-small s w n at i = keys-small s w n at (mem-same (keys-records s w n at) (keys-mem (records (spot_at s) w n at) i))

keys-within : (s : List ℕ) (w n at : ℕ) → every (within 0 all_keys) (records (key_at s) w n at) ≡ true
keys-within s w n at = every-make (within 0 all_keys) (records (key_at s) w n at) (λ k i. within-yes 0 all_keys k (omega arith) (keys-small s w n at i))

pub spots-within : (s : List ℕ) (w n at : ℕ) → every (within 0 all_keys) (keys (records (spot_at s) w n at)) ≡ true
spots-within s w n at = ap (every (within 0 all_keys)) (keys-records s w n at) ∙ keys-within s w n at

-- what is found is a key, and a key is found
pub find-mem : (k : ℕ) (ss : List Spot) {a : ℕ} → find k ss ≡ some a → Memᴰ k (keys ss)
find-mem k [] e = absurd (none-ne-some _ e)
find-mem k (s ∷ ss) {a} e =
    ⊎_elim (λ h. Memᴰ.head h) (λ (n : k ≡ s.key → ⊥). Memᴰ.tail (find-mem k ss (rw (ne_eqb k s.key n) at e))) (same_or_not k s.key)

pub find_none : (k : ℕ) (ss : List Spot) → (Memᴰ k (keys ss) → ⊥) → find k ss ≡ none
find_none k ss n = go (find k ss) refl
  where
    go : (o : Option ℕ) → find k ss ≡ o → find k ss ≡ none
    go none e = e
    go (some a) e = absurd (n (find-mem k ss e))

pub mem-find : (k : ℕ) (ss : List Spot) → Memᴰ k (keys ss) → (a : ℕ) × (find k ss ≡ some a)
mem-find k [] i = absurd (Memᴰ.not-nil i)
mem-find k (s ∷ ss) i =
    ⊎_elim (λ (e : k ≡ s.key). (s.track, rw (eq-eqb k s.key e)))
    (λ (n : k ≡ s.key → ⊥). let r = mem-find k ss (⊎_elim (λ e. absurd (n e)) (λ j. j) (Memᴰ.cases_cons i)) in (r.0, rw (ne_eqb k s.key n) r.1))
    (same_or_not k s.key)

-- a spot of a list that rises is found by its key
pub find-member : (a : ℕ) (ss : List Spot) {s : Spot} → rising_from a (keys ss) ≡ true → Memᴰ s ss → find s.key ss ≡ some s.track
find-member a [] h i = absurd (Memᴰ.not-nil i)
find-member a (x ∷ xs) {s} h i =
    ⊎_elim (λ (e : s ≡ x). find-here s.key x xs (ap (λ (y : Spot). y.key) e) ∙ ap (λ (y : Spot). some y.track) (sym e))
    (λ (j : Memᴰ s xs).
    find_past s.key x xs (λ e. let l = rising-least (suc x.key) (keys xs) (rising-rest a x.key (keys xs) h) (keys-mem xs j) in omega arith)
    ∙ find-member (suc x.key) xs (rising-rest a x.key (keys xs) h) j)
    (Memᴰ.cases_cons i)

-- a key that fails a test which every key of the list passes is not found
pub find-fails : (g : ℕ → Bool) (k : ℕ) (ss : List Spot) → every g (keys ss) ≡ true → g k ≡ false → find k ss ≡ none
find-fails g k ss h e = find_none k ss (λ i. true≢false (sym (every-mem g (keys ss) h i) ∙ e))

-- ---- the spots whose keys pass a test

pub keys-only : (g : ℕ → Bool) (ss : List Spot) → keys (only g ss) ≡ keep g (keys ss)
keys-only g [] = refl
keys-only g (s ∷ ss) = go (g s.key) (keys-only g ss)
  where
    go : (b : Bool) → keys (only g ss) ≡ keep g (keys ss) → keys (cond b (s ∷ only g ss) (only g ss)) ≡ cond b (s.key ∷ keep g (keys ss)) (keep g (keys ss))
    go true h = ap (λ (r : List ℕ). s.key ∷ r) h
    go false h = h

pub only-rises : (g : ℕ → Bool) (ss : List Spot) → rising (keys ss) ≡ true → rising (keys (only g ss)) ≡ true
only-rises g ss h = keep-rises _ 0 ss h

pub only-mem : (g : ℕ → Bool) (ss : List Spot) {k : ℕ} → Memᴰ k (keys (only g ss)) → Memᴰ k (keys ss) × (g k ≡ true)
only-mem g ss i = keep-mem g (keys ss) (rw (keys-only g ss) at i)

pub length-only : (g : ℕ → Bool) (ss : List Spot) → length (only g ss) ≤ length ss
length-only g ss = keep-length _ ss

pub keep-pass : (g : ℕ → Bool) (ss : List Spot) → every g (keys (only g ss)) ≡ true
keep-pass g ss = every-make g (keys (only g ss)) (λ k i. (only-mem g ss i).1)

-- ---- the spots that pass a test

kept-key : (f : Spot → Bool) (ss : List Spot) {k : ℕ} → Memᴰ k (keys (keep f ss)) → Memᴰ k (keys ss)
kept-key f ss i = let r = keys_from_lem (keep f ss) i in Memᴰ.cast r.2 (keys-mem ss (keep-in f ss r.1))

pub keep-every : (f : Spot → Bool) (g : ℕ → Bool) (ss : List Spot) → every g (keys ss) ≡ true → every g (keys (keep f ss)) ≡ true
keep-every f g ss h = every-make g (keys (keep f ss)) (λ k i. every-mem g (keys ss) h (kept-key f ss i))

pub keep-distinct : (f : Spot → Bool) (ss : List Spot) → distinct (keys ss) ≡ true → distinct (keys (keep f ss)) ≡ true
keep-distinct f [] h = refl
keep-distinct f (s ∷ ss) h = go (f s) (keep-distinct f ss (distinct_tail s.key (keys ss) h))
  where
    go : (b : Bool) → distinct (keys (keep f ss)) ≡ true → distinct (keys (cond b (s ∷ keep f ss) (keep f ss))) ≡ true
    go true ih = distinct_cons s.key (keys (keep f ss)) (λ i. distinct_head s.key (keys ss) h (kept-key f ss i)) ih
    go false ih = ih

-- ---- a spot put in, and several

-- what is put into a list is new, or was there
put-from : (s : Spot) (xs : List Spot) {x : Spot} → Memᴰ x (put s xs) → (x ≡ s) ⊎ Memᴰ x xs
put-from s [] k = Memᴰ.cases_cons k
put-from s (y ∷ ys) k =
    ⊎_elim (λ c. Memᴰ.cases_cons c.1)
    (λ j. ⊎_elim (λ e. inr (Memᴰ.head e)) (λ i. ⊎_elim inl (λ h. inr (Memᴰ.tail h)) (put-from s ys i)) (Memᴰ.cases_cons j))
    (cond-mem (leb s.key y.key) (s ∷ y ∷ ys) (y ∷ put s ys) k)

pub put-mem : (s : Spot) (ss : List Spot) {k : ℕ} → Memᴰ k (keys (put s ss)) → (k ≡ s.key) ⊎ Memᴰ k (keys ss)
put-mem s ss i =
    let r = keys_from_lem (put s ss) i in
    ⊎_elim (λ (e : r.0 ≡ s). inl (r.2 ∙ ap (λ (x : Spot). x.key) e)) (λ j. inr (Memᴰ.cast r.2 (keys-mem ss j))) (put-from s ss r.1)

-- a test that its key and all the others pass
pub put-every : (g : ℕ → Bool) (s : Spot) (ss : List Spot) → g s.key ≡ true → every g (keys ss) ≡ true → every g (keys (put s ss)) ≡ true
put-every g s ss p h =
    every-make g (keys (put s ss)) (λ k i. ⊎_elim (λ (e : k ≡ s.key). ap g e ∙ p) (λ j. every-mem g (keys ss) h j) (put-mem s ss i))

pub put_all-from : (own found : List Spot) {x : Spot} → Memᴰ x (put_all own found) → Memᴰ x own ⊎ Memᴰ x found
put_all-from [] found k = inr k
put_all-from (s ∷ ss) found k =
    ⊎_elim (λ e. inl (Memᴰ.head e)) (λ j. ⊎_elim (λ i. inl (Memᴰ.tail i)) inr (put_all-from ss found j)) (put-from s (put_all ss found) k)

pub put_up : (s : Spot) (ss : List Spot) → rising (keys ss) ≡ true → (Memᴰ s.key (keys ss) → ⊥) → rising (keys (put s ss)) ≡ true
put_up s ss h n = put-rises 0 s ss (omega arith) h (find_none s.key ss n)

pub find-put_all-own : (k : ℕ) (own acc : List Spot) → Memᴰ k (keys own) → find k (put_all own acc) ≡ find k own
find-put_all-own k [] acc i = absurd (Memᴰ.not-nil i)
find-put_all-own k (s ∷ ss) acc i =
    find-put k s (put_all ss acc) ∙
    ⊎_elim (λ (e : k ≡ s.key). rw (eq-eqb k s.key e))
    (λ (n : k ≡ s.key → ⊥). rw (ne_eqb k s.key n) (find-put_all-own k ss acc (⊎_elim (λ e. absurd (n e)) (λ j. j) (Memᴰ.cases_cons i))))
    (same_or_not k s.key)

pub find-put_all-other : (k : ℕ) (own acc : List Spot) → (Memᴰ k (keys own) → ⊥) → find k (put_all own acc) ≡ find k acc
find-put_all-other k [] acc n = refl
find-put_all-other k (s ∷ ss) acc n =
    find-put k s (put_all ss acc) ∙ rw (ne_eqb k s.key (λ e. n (Memᴰ.head e))) (find-put_all-other k ss acc (λ i. n (Memᴰ.tail i)))

-- new keys, each once, put in: the list still rises
pub put_all-rises : (own acc : List Spot) → rising (keys acc) ≡ true → distinct (keys own) ≡ true → ((k : ℕ) → has k (keys own) ≡ true → find k acc ≡ none)
    → rising (keys (put_all own acc)) ≡ true
put_all-rises [] acc u d h = u
put_all-rises (s ∷ ss) acc u d h =
    put-rises 0 s (put_all ss acc) (omega arith)
    (put_all-rises ss acc u (distinct_tail s.key (keys ss) d) (λ k j. h k (rw j (or-true (eqb k s.key)))))
    (find-put_all-other s.key ss acc (distinct_head s.key (keys ss) d) ∙ h s.key (rw (eq-eqb s.key s.key refl)))

pub length-put_all : (own acc : List Spot) → length (put_all own acc) ≡ length own + length acc
length-put_all [] acc = omega arith
length-put_all (s ∷ ss) acc = omega (arith, length-put s (put_all ss acc), length-put_all ss acc)
