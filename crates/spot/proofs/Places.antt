-- The places of a query: all that is known of `placed` and `meets`, which no other file opens. A query has two ends; a range that neither cuts lies
-- wholly in the query's places or holds none of them.
-- Assumes nothing.
use Rattle.std.proofs.Common.{◌≡◌, ℕ, suc, ◌+◌, ◌*◌, ◌%◌, ◌<◌, ◌≤◌, max, Bool, true, false, ◌&&◌, ◌||◌, ltb, leb, ◌⊎◌, ℤ, negsuc, sym, refl, ap, ◌∙◌, inl, inr, ⊎_elim, true≢false, arith, ltb-true, le-ltb, lt-ltb, le-leb, leb-true}
use mathlib.Core.Bool.{and-true, and-false, or-false}
use borrow.Author.Tests.{lt-leb}
use Rattle.octets.specs.Lists.{all}
use Rattle.octets.specs.Bitmap.{digit}
use Rattle.octets.proofs.Order.{less-or-not, leb-same}
use Rattle.octets.proofs.Tests.{all-at, all_cons, all_nil, and_left, and_right, and_both, or-either}
use Rattle.octets.proofs.Marks.{digit-small}
use Rattle.spot.specs.declared.Query.{Query}
use Rattle.spot.specs.Keys.{word, all_keys, biased, within, rank_of}
use Rattle.spot.specs.Query.{top_query, all_places, everything, from_of, last_of, least_of, lowest_of, highest_of, is_ring, ends, placed, meets, wants_key}
use Rattle.spot.proofs.Signed.{biased-unbiased}
use Rattle.spot.proofs.Halves.{rank-of-low}

-- ---- ranges

pub within-yes : (lo hi k : ℕ) → lo ≤ k → k < hi → within lo hi k ≡ true
unfolding within all
within-yes lo hi k a b = rw (le-leb lo k a, lt-ltb k hi b)

pub within_low : (lo hi k : ℕ) → k < lo → within lo hi k ≡ false
unfolding within all
within_low lo hi k a = rw (lt-leb lo k a)

pub within-high : (lo hi k : ℕ) → hi ≤ k → within lo hi k ≡ false
unfolding within all
within-high lo hi k a = rw (le-ltb k hi a) (and-false (leb lo k))

pub within-from : (lo hi k : ℕ) → within lo hi k ≡ true → lo ≤ k
unfolding within
within-from lo hi k h = leb-true lo k (all-at _ h 0)

pub within-to : (lo hi k : ℕ) → within lo hi k ≡ true → k < hi
unfolding within
within-to lo hi k h = ltb-true k hi (all-at _ h 1)

-- two ranges side by side
pub within-join : (lo mid hi k : ℕ) → lo ≤ mid → mid ≤ hi → within lo mid k || within mid hi k ≡ within lo hi k
within-join lo mid hi k a b =
    ⊎_elim
    (λ (h : mid ≤ k).
    rw (within-high lo mid k h)
    (⊎_elim (λ (g : hi ≤ k). within-high mid hi k g ∙ rw (within-high lo hi k g))
    (λ (g : k < hi). within-yes mid hi k h g ∙ rw (within-yes lo hi k (omega arith) g)) (less-or-not hi k)))
    (λ (h : k < mid).
    rw (within_low mid hi k h)
    (or-false (within lo mid k) ∙
    ⊎_elim (λ (g : lo ≤ k). within-yes lo mid k g h ∙ rw (within-yes lo hi k g (omega arith)))
    (λ (g : k < lo). within_low lo mid k g ∙ rw (within_low lo hi k g)) (less-or-not lo k)))
    (less-or-not mid k)

-- ---- the ends of a query

-- 1 where x lies inside the range, so that it cuts it
unfoldable pub cut_at : ℕ → ℕ → ℕ → ℕ
cut_at x lo hi = digit (ltb lo x && ltb x hi)

cut_in : (x lo hi : ℕ) → lo < x → x < hi → cut_at x lo hi ≡ 1
unfolding cut_at
cut_in x lo hi a b = rw (lt-ltb lo x a, lt-ltb x hi b)

cut_low : (x lo hi : ℕ) → x ≤ lo → cut_at x lo hi ≡ 0
unfolding cut_at
cut_low x lo hi a = rw (le-ltb lo x a)

cut_small : (x lo hi : ℕ) → cut_at x lo hi ≤ 1
unfolding cut_at
cut_small x lo hi = digit-small (ltb lo x && ltb x hi)

cut_high : (x lo hi : ℕ) → hi ≤ x → cut_at x lo hi ≡ 0
unfolding cut_at
cut_high x lo hi a = rw (le-ltb x hi a) (ap digit (and-false (ltb lo x)))

-- x cuts at most one of two ranges side by side, and then the whole of them
cut-join : (x lo mid hi : ℕ) → lo ≤ mid → mid ≤ hi → cut_at x lo mid + cut_at x mid hi ≤ cut_at x lo hi
cut-join x lo mid hi a b =
    ⊎_elim (λ (h : x ≤ lo). omega (arith, cut_low x lo mid h, cut_low x mid hi (omega arith)))
    (λ (h : lo < x).
    ⊎_elim (λ (i : hi ≤ x). omega (arith, cut_high x lo mid (omega arith), cut_high x mid hi i))
    (λ (i : x < hi).
    ⊎_elim (λ (j : x ≤ mid). omega (arith, cut_in x lo hi h i, cut_low x mid hi j, cut_small x lo mid))
    (λ (j : mid < x). omega (arith, cut_in x lo hi h i, cut_high x lo mid (omega arith), cut_small x mid hi))
    (less-or-not x mid))
    (less-or-not hi x))
    (less-or-not x lo)

-- the number of ends of the query that cut a range
unfoldable pub cuts : Query → ℕ → ℕ → ℕ
cuts q lo hi = cut_at (from_of q) lo hi + cut_at (suc (last_of q)) lo hi

pub cuts-join : (q : Query) (lo mid hi : ℕ) → lo ≤ mid → mid ≤ hi → cuts q lo mid + cuts q mid hi ≤ cuts q lo hi
unfolding cuts
cuts-join q lo mid hi a b = omega (arith, cut-join (from_of q) lo mid hi a b, cut-join (suc (last_of q)) lo mid hi a b)

pub cuts-small : (q : Query) (lo hi : ℕ) → cuts q lo hi ≤ 2
unfolding cuts
cuts-small q lo hi = omega (arith, cut_small (from_of q) lo hi, cut_small (suc (last_of q)) lo hi)

-- ---- the places

-- a range that ends where it begins or further on, and a ring
data Kind (q : Query) : Type 0 where
  flat : is_ring q ≡ false → from_of q ≤ last_of q → Kind q
  round : is_ring q ≡ true → last_of q < from_of q → Kind q

kind : (q : Query) → Kind q
unfolding is_ring
kind q =
    ⊎_elim (λ (h : from_of q ≤ last_of q). flat (le-ltb (last_of q) (from_of q) h) h) (λ (h : last_of q < from_of q). round (lt-ltb (last_of q) (from_of q) h) h)
    (less-or-not (from_of q) (last_of q))

ends-flat : (q : Query) → is_ring q ≡ false → (a b : Bool) → ends q a b ≡ a && b
unfolding ends
ends-flat q h a b = rw h

ends-round : (q : Query) → is_ring q ≡ true → (a b : Bool) → ends q a b ≡ a || b
unfolding ends
ends-round q h a b = rw h

or_right : (a : Bool) → a || true ≡ true
or_right true = refl
or_right false = refl

-- what two tests joined at the ends of a query come to
ends-both : (q : Query) (a b : Bool) → a ≡ true → b ≡ true → ends q a b ≡ true
ends-both q a b x y = go (kind q)
  where
    go : Kind q → ends q a b ≡ true
    go (flat r h) = ends-flat q r a b ∙ and_both a b x y
    go (round r h) = ends-round q r a b ∙ rw x

ends_some : (q : Query) → last_of q < from_of q → (a b : Bool) → (a ≡ true) ⊎ (b ≡ true) → ends q a b ≡ true
ends_some q l a b x = go (kind q)
  where
    go : Kind q → ends q a b ≡ true
    go (flat r h) = absurd (omega (arith, l, h))
    go (round r h) = ends-round q r a b ∙ ⊎_elim (λ (e : a ≡ true). rw e) (λ (e : b ≡ true). rw e (or_right a)) x

ends-are : (q : Query) (a b : Bool) → ends q a b ≡ true → ((from_of q ≤ last_of q) × (a ≡ true) × (b ≡ true)) ⊎ ((last_of q < from_of q) × ((a ≡ true) ⊎ (b ≡ true)))
ends-are q a b e = go (kind q)
  where
    go : Kind q → ((from_of q ≤ last_of q) × (a ≡ true) × (b ≡ true)) ⊎ ((last_of q < from_of q) × ((a ≡ true) ⊎ (b ≡ true)))
    go (flat r h) = let z = sym (ends-flat q r a b) ∙ e in inl (h, and_left a b z, and_right a b z)
    go (round r h) = inr (h, or-either a b (sym (ends-round q r a b) ∙ e))

pub placed-yes : (q : Query) (k : ℕ) → from_of q ≤ k → k ≤ last_of q → placed q k ≡ true
unfolding placed
placed-yes q k a b = ends-both q _ _ (le-leb (from_of q) k a) (le-leb k (last_of q) b)

placed-some : (q : Query) (k : ℕ) → last_of q < from_of q → (from_of q ≤ k) ⊎ (k ≤ last_of q) → placed q k ≡ true
unfolding placed
placed-some q k r h =
    ends_some q r _ _ (⊎_elim (λ (a : from_of q ≤ k). inl (le-leb (from_of q) k a)) (λ (b : k ≤ last_of q). inr (le-leb k (last_of q) b)) h)

placed-is : (q : Query) (k : ℕ) → placed q k ≡ true → ((from_of q ≤ k) × (k ≤ last_of q)) ⊎ ((last_of q < from_of q) × ((from_of q ≤ k) ⊎ (k ≤ last_of q)))
unfolding placed
placed-is q k e =
    ⊎_elim (λ z. inl (leb-true (from_of q) k z.1, leb-true k (last_of q) z.2))
    (λ z. inr (z.0, ⊎_elim (λ a. inl (leb-true (from_of q) k a)) (λ b. inr (leb-true k (last_of q) b)) z.1))
    (ends-are q _ _ e)

-- as the code asks it: both keys are counted from the first one on, past the last key of all on from 0
pub counted-on : (q : Query) (k r s : ℕ) → k < all_keys → from_of q < all_keys → last_of q < all_keys → r < all_keys → s < all_keys
    → (r + from_of q) % all_keys ≡ k → (s + from_of q) % all_keys ≡ last_of q → leb r s ≡ placed q k
unfolding placed
counted-on q k r s lk lf ll lr ls er es = go (kind q)
  where
    go : Kind q → leb r s ≡ ends q (leb (from_of q) k) (leb k (last_of q))
    go (flat e h) =
        ⊎_elim
        (λ (a : from_of q ≤ k).
        rw (ends-flat q e (leb (from_of q) k) (leb k (last_of q)), le-leb (from_of q) k a)
        (leb-same r s k (last_of q) (λ l. omega (arith, lk, lf, ll, lr, ls, er, es, a, h)) (λ l. omega (arith, lk, lf, ll, lr, ls, er, es, a, h))))
        (λ (a : k < from_of q). rw (ends-flat q e (leb (from_of q) k) (leb k (last_of q)), lt-leb (from_of q) k a) (lt-leb r s (omega (arith, lk, lf, ll, lr, ls, er, es, a, h))))
        (less-or-not (from_of q) k)
    go (round e h) =
        ⊎_elim
        (λ (a : from_of q ≤ k). rw (ends-round q e (leb (from_of q) k) (leb k (last_of q)), le-leb (from_of q) k a) (le-leb r s (omega (arith, lk, lf, ll, lr, ls, er, es, a, h))))
        (λ (a : k < from_of q).
        rw (ends-round q e (leb (from_of q) k) (leb k (last_of q)), lt-leb (from_of q) k a)
        (leb-same r s k (last_of q) (λ l. omega (arith, lk, lf, ll, lr, ls, er, es, a, h)) (λ l. omega (arith, lk, lf, ll, lr, ls, er, es, a, h))))
        (less-or-not (from_of q) k)

-- a ring has the keys from the first end on and those up to the last, and not those between
module _ (q : Query) (k : ℕ) (r : is_ring q ≡ true) where
  pub placed-up : from_of q ≤ k → placed q k ≡ true
  unfolding placed
  placed-up h = ends-round q r _ _ ∙ rw (le-leb (from_of q) k h)

  pub placed-down : k ≤ last_of q → placed q k ≡ true
  unfolding placed
  placed-down h = ends-round q r _ _ ∙ rw (le-leb k (last_of q) h) (or_right (leb (from_of q) k))

  pub placed-gap : last_of q < k → k < from_of q → placed q k ≡ false
  unfolding placed
  placed-gap h g = ends-round q r _ _ ∙ rw (lt-leb (from_of q) k g, lt-leb k (last_of q) h)

-- a query that is no ring begins with its lowest key
pub placed-from : (q : Query) (k : ℕ) → is_ring q ≡ false → placed q k ≡ true → from_of q ≤ k
unfolding is_ring
placed-from q k r h =
    ⊎_elim (λ z. z.0) (λ z. let e : ⊥ = true≢false (sym (lt-ltb (last_of q) (from_of q) z.0) ∙ r) in absurd e) (placed-is q k h)

-- what lies between two keys that pass the tests at the ends is of the places
pub covered : (q : Query) (lo hi : ℕ) → ends q (leb (from_of q) lo) (leb hi (last_of q)) ≡ true → (k : ℕ) → lo ≤ k → k ≤ hi → placed q k ≡ true
covered q lo hi e k a b =
    ⊎_elim (λ z. placed-yes q k (omega (arith, leb-true (from_of q) lo z.1, a)) (omega (arith, leb-true hi (last_of q) z.2, b)))
    (λ z.
    placed-some q k z.0
    (⊎_elim (λ x. inl (omega (arith, leb-true (from_of q) lo x, a))) (λ y. inr (omega (arith, leb-true hi (last_of q) y, b))) z.1))
    (ends-are q _ _ e)

-- the lowest and the highest key of a query that is no ring are its ends
pub lowest-flat : (q : Query) → is_ring q ≡ false → lowest_of q ≡ from_of q
unfolding lowest_of
lowest-flat q r = rw r

pub highest-flat : (q : Query) → is_ring q ≡ false → highest_of q ≡ last_of q
unfolding highest_of
highest-flat q r = rw r

-- no key of the places lies under the lowest, and none above the highest
pub unplaced-low : (q : Query) (k : ℕ) → k < lowest_of q → placed q k ≡ false
unfolding lowest_of placed
unplaced-low q k l = go (kind q)
  where
    go : Kind q → ends q (leb (from_of q) k) (leb k (last_of q)) ≡ false
    go (flat r h) = ends-flat q r _ _ ∙ rw (lt-leb (from_of q) k (rw r at l))
    go (round r h) = absurd (omega (arith, rw r at l))

pub unplaced-high : (q : Query) (k : ℕ) → k < all_keys → highest_of q < k → placed q k ≡ false
unfolding highest_of placed
unplaced-high q k s l = go (kind q)
  where
    go : Kind q → ends q (leb (from_of q) k) (leb k (last_of q)) ≡ false
    go (flat r h) = ends-flat q r _ _ ∙ rw (lt-leb k (last_of q) (rw r at l)) (and-false (leb (from_of q) k))
    go (round r h) = let e : ⊥ = omega (arith, s, rw r at l) in absurd e

pub meets_at : (q : Query) (lo hi k : ℕ) → within lo hi k ≡ true → placed q k ≡ true → meets q lo hi ≡ true
unfolding meets
meets_at q lo hi k w h =
    let a = within-from lo hi k w in
    let b = within-to lo hi k w in
    all_cons _ _ (lt-ltb lo hi (omega arith))
    (all_cons _ _
    (⊎_elim (λ z. ends-both q _ _ (lt-ltb (from_of q) hi (omega (arith, z.0, b))) (le-leb lo (last_of q) (omega (arith, z.1, a))))
    (λ z.
    ends_some q z.0 _ _
    (⊎_elim (λ (x : from_of q ≤ k). inl (lt-ltb (from_of q) hi (omega (arith, x, b)))) (λ (y : k ≤ last_of q). inr (le-leb lo (last_of q) (omega (arith, y, a)))) z.1))
    (placed-is q k h))
    all_nil)

pub meets-some : (q : Query) (lo hi : ℕ) → meets q lo hi ≡ true → (k : ℕ) × (within lo hi k ≡ true) × (placed q k ≡ true)
unfolding meets
meets-some q lo hi h =
    let a = ltb-true lo hi (all-at _ h 0) in
    let m = max lo (from_of q) in
    ⊎_elim
    (λ z.
    let x = ltb-true (from_of q) hi z.1 in
    let y = leb-true lo (last_of q) z.2 in
    (m, within-yes lo hi m (omega arith) (omega (arith, a, x)), placed-yes q m (omega arith) (omega (arith, y, z.0))))
    (λ z.
    ⊎_elim
    (λ u. let x = ltb-true (from_of q) hi u in (m, within-yes lo hi m (omega arith) (omega (arith, a, x)), placed-some q m z.0 (inl (omega arith))))
    (λ u. (lo, within-yes lo hi lo (omega arith) a, placed-some q lo z.0 (inr (leb-true lo (last_of q) u)))) z.1)
    (ends-are q _ _ (all-at _ h 1))

-- a range that the query meets and does not cut lies in it
pub uncut : (q : Query) (lo hi : ℕ) → cuts q lo hi ≡ 0 → meets q lo hi ≡ true → (k : ℕ) → within lo hi k ≡ true → placed q k ≡ true
unfolding cuts meets
uncut q lo hi z h k w =
    let a = within-from lo hi k w in
    let b = within-to lo hi k w in
    let above : from_of q < hi → from_of q ≤ k = λ y.
    ⊎_elim (λ (g : from_of q ≤ lo). omega (arith, g, a)) (λ (g : lo < from_of q). let e : ⊥ = omega (arith, z, cut_in (from_of q) lo hi g y) in absurd e)
    (less-or-not (from_of q) lo) in
    let under : lo ≤ last_of q → k ≤ last_of q = λ x.
    ⊎_elim (λ (g : hi ≤ suc (last_of q)). omega (arith, g, b))
    (λ (g : suc (last_of q) < hi). let e : ⊥ = omega (arith, z, cut_in (suc (last_of q)) lo hi (omega (arith, x)) g) in absurd e)
    (less-or-not hi (suc (last_of q))) in
    ⊎_elim (λ y. placed-yes q k (above (ltb-true (from_of q) hi y.1)) (under (leb-true lo (last_of q) y.2)))
    (λ y. placed-some q k y.0 (⊎_elim (λ u. inl (above (ltb-true (from_of q) hi u))) (λ u. inr (under (leb-true lo (last_of q) u))) y.1))
    (ends-are q _ _ (all-at _ h 1))

pub meets-same : (r q : Query) → from_of r ≡ from_of q → last_of r ≡ last_of q → (lo hi : ℕ) → meets r lo hi ≡ meets q lo hi
unfolding meets ends is_ring
meets-same r q a b lo hi = rw (a, b)

-- ---- the ends of queries

pub query-eq : (q r : Query) → q.x1 ≡ r.x1 → q.x2 ≡ r.x2 → q.y ≡ r.y → q ≡ r
query-eq q r a b c = λ i. record { x1 = a i; x2 = b i; y = c i }

module _ (x1 x2 : ℤ) (y : ℕ) where
  pub top_from : from_of (top_query x1 x2 y) ≡ biased x1 * word
  unfolding top_query from_of
  top_from = refl

  pub top-last : last_of (top_query x1 x2 y) ≡ biased x2 * word + 4294967295
  unfolding top_query last_of
  top-last = refl

  pub top_least : least_of (top_query x1 x2 y) ≡ y
  unfolding top_query least_of
  top_least = biased-unbiased y

module _ (y : ℤ) where
  all_from : from_of (all_places y) ≡ 0
  unfolding from_of
  all_from = refl

  all-last : last_of (all_places y) ≡ 18446744073709551615
  unfolding last_of
  all-last = refl

  pub all-flat : is_ring (all_places y) ≡ false
  unfolding is_ring
  all-flat = rw (all_from, all-last) refl

  pub all_placed : (k : ℕ) → k < all_keys → placed (all_places y) k ≡ true
  all_placed k l = placed-yes (all_places y) k (omega (arith, all_from)) (omega (arith, all-last, l))

pub all-least : least_of everything ≡ 0
unfolding least_of
all-least = refl

pub everything-placed : (k : ℕ) → within 0 all_keys k ≡ true → placed everything k ≡ true
everything-placed k w = all_placed (negsuc 2147483647) k (within-to 0 all_keys k w)

-- ---- the keys wanted

pub wants-placed : (q : Query) (k : ℕ) → wants_key q k ≡ true → placed q k ≡ true
unfolding wants_key
wants-placed q k h = all-at _ h 0

pub unwanted : (q : Query) (k : ℕ) → placed q k ≡ false → wants_key q k ≡ false
unfolding wants_key all
unwanted q k h = rw h

pub wants-rank : (q : Query) (k : ℕ) → wants_key q k ≡ true → least_of q ≤ rank_of k
unfolding wants_key
wants-rank q k h = leb-true (least_of q) (rank_of k) (all-at _ h 1)

pub wants-yes : (q : Query) (k : ℕ) → placed q k ≡ true → least_of q ≤ rank_of k → wants_key q k ≡ true
unfolding wants_key
wants-yes q k h l = all_cons _ _ h (all_cons _ _ (le-leb (least_of q) (rank_of k) l) all_nil)

-- of two queries with the same least rank both want a key of their places, or neither does
pub same_rank : (q r : Query) (k : ℕ) → placed q k ≡ true → placed r k ≡ true → least_of q ≡ least_of r → wants_key q k ≡ wants_key r k
unfolding wants_key all
same_rank q r k h g e = rw (h, g, e)

-- as the code tests it: of a key of 64 bits, the rank is the lower half
pub wants-low : (q : Query) (k : ℕ) → k < all_keys → wants_key q k ≡ placed q k && leb (least_of q) (k % word)
unfolding wants_key all
wants-low q k h = ap (λ (b : Bool). placed q k && b) (and-true (leb (least_of q) (rank_of k)) ∙ ap (leb (least_of q)) (rank-of-low k h))
