-- The order of keys is the order of places and ranks: for numbers of 32 bits, each test of keys is a test of whole numbers. Keys and identities are
-- each made from the other.
-- Assumes nothing.
use Rattle.std.proofs.Common.{◌≡◌, ℕ, ◌+◌, ◌*◌, ◌/◌, ◌%◌, ◌<◌, Bool, false, ◌&&◌, ◌||◌, T, eqb, ltb, leb, ◌⊎◌, ◌↔◌, List, get_or, ℤ, pos, negsuc, ◌<ℤ◌, sym, refl, ap, ◌∙◌, subst, ap₂, inl, inr, ⊎_elim, div-add-mod', arith, ltb→lt, lt→ltb, w32, to_z, of_z, le-leb}
use mathlib.Core.Bool.{and-true}
use lib.Arith.{digits_div, digits_mod}
use lib.Signed.{le_z, lt_z, lt_z_yes}
use mir.ValLaws.{to_z-of_z}
use Rattle.octets.specs.Lists.{all}
use Rattle.octets.specs.Bytes.{be}
use Rattle.octets.proofs.Bytes.{be-lt}
use Rattle.octets.proofs.Order.{leb-same, ltb-same}
use Rattle.spot.specs.declared.Query.{Query}
use Rattle.spot.specs.Keys.{word, all_keys, biased, unbiased, turned, key, place_of, rank_in, rank_key, rank_of}
use Rattle.spot.specs.Spots.{key_at}
use Rattle.spot.specs.Range.{of_range}
use Rattle.spot.specs.Query.{query, top_query, from_of, last_of, least_of, is_ring, ends, wants_key, placed, wanted}
use Rattle.spot.proofs.Signed.{Fits, biased-lt, biased-inj, unbiased-biased, biased-unbiased, unbiased-fits, turned_lt, to_z-turned, le_z-biased, lt_z-biased}
use Rattle.spot.proofs.Halves.{high, low, lex-to, lex-from, pair_lt, pair_eq, rank_is}

-- ---- keys and identities

module _ (p r : ℤ) (fr : Fits r) where
  pub key-place : key p r / word ≡ biased p
  key-place = digits_div (biased p) (biased-lt r fr)

  pub key-rank : key p r % word ≡ biased r
  key-rank = digits_mod (biased p) (biased-lt r fr)

  pub rank-first : rank_key (key p r) ≡ biased r * word + biased p
  rank-first = rank_is (key p r) ∙ ap₂ (λ (x y : ℕ). x * word + y) key-rank key-place

  pub rank-of : Fits p → rank_of (key p r) ≡ biased r
  rank-of fp = ap (λ (x : ℕ). x / word) rank-first ∙ digits_div (biased r) (biased-lt p fp)

  pub place-of-key : Fits p → place_of (key p r) ≡ p
  unfolding place_of
  place-of-key fp = ap unbiased key-place ∙ unbiased-biased p fp

  pub rank-in-key : rank_in (key p r) ≡ r
  unfolding rank_in
  rank-in-key = ap unbiased key-rank ∙ unbiased-biased r fr

pub place-fits : (k : ℕ) → k < all_keys → Fits (place_of k)
unfolding place_of
place-fits k h = unbiased-fits (k / word) (high k h)

pub rank-fits : (k : ℕ) → Fits (rank_in k)
unfolding rank_in
rank-fits k = unbiased-fits (k % word) (low k)

pub key-of-parts : (k : ℕ) → key (place_of k) (rank_in k) ≡ k
unfolding place_of rank_in
key-of-parts k = ap₂ (λ (x y : ℕ). x * word + y) (biased-unbiased (k / word)) (biased-unbiased (k % word)) ∙ div-add-mod' k word

-- the place and the rank of a key on the card, read as signed numbers
module _ (s : List ℕ) (i : ℕ) (bytes : (j : ℕ) → get_or s j 0 < 256) where
  pub place-word : to_z w32 (be 4 s i) ≡ place_of (key_at s i)
  unfolding place_of key_at
  place-word =
      to_z-turned (be 4 s i) (be-lt 4 s i bytes) ∙ ap unbiased (sym (digits_div (turned (be 4 s i)) (turned_lt (be 4 s (i + 4)))))

  pub rank-word : to_z w32 (be 4 s (i + 4)) ≡ rank_in (key_at s i)
  unfolding rank_in key_at
  rank-word =
      to_z-turned (be 4 s (i + 4)) (be-lt 4 s (i + 4) bytes) ∙ ap unbiased (sym (digits_mod (turned (be 4 s i)) (turned_lt (be 4 s (i + 4)))))

-- both ends
pub key-lowest : key (negsuc 2147483647) (negsuc 2147483647) ≡ 0
key-lowest = refl

pub key-highest : key (pos 2147483647) (pos 2147483647) ≡ 18446744073709551615
key-highest = refl

-- ---- the two orders

lt_of : (x y : ℤ) → Fits x → Fits y → biased x < biased y → x <ℤ y
lt_of x y f g h = lt_z_yes (subst T (sym (lt_z-biased x y f g)) (lt→ltb (biased x) (biased y) h))

lt-to : (x y : ℤ) → Fits x → Fits y → x <ℤ y → biased x < biased y
lt-to x y f g h = ltb→lt (biased x) (biased y) (subst T (lt_z-biased x y f g) h.lt)

-- pairs of signed numbers, the first above the second
lex : (p r q s : ℤ) → Fits p → Fits r → Fits q → Fits s → key p r < key q s ↔ (p <ℤ q) ⊎ ((p ≡ q) × (r <ℤ s))
lex p r q s fp fr fq fs = (
  λ h. ⊎_elim (λ l. inl (lt_of p q fp fq l)) (λ l. inr (biased-inj p q fp fq l.0, lt_of r s fr fs l.1))
      (lex-to (biased p) (biased r) (biased q) (biased s) (biased-lt r fr) (biased-lt s fs) h),
  λ h. lex-from (biased p) (biased r) (biased q) (biased s) (biased-lt r fr) (biased-lt s fs)
      (⊎_elim (λ l. inl (lt-to p q fp fq l)) (λ l. inr (ap biased l.0, lt-to r s fr fs l.1)) h),
)

module _ (p r q s : ℤ) (fp : Fits p) (fr : Fits r) (fq : Fits q) (fs : Fits s) where
  -- "The place order compares places, then ranks"
  pub key-order : key p r < key q s ↔ (p <ℤ q) ⊎ ((p ≡ q) × (r <ℤ s))
  key-order = lex p r q s fp fr fq fs

  -- "The rank order compares ranks, then places"
  pub rank-key-order : rank_key (key p r) < rank_key (key q s) ↔ (r <ℤ s) ⊎ ((r ≡ s) × (p <ℤ q))
  rank-key-order = rw (rank-first p r fr, rank-first q s fs) (lex r p s q fr fp fs fq)

  -- one identity, one key
  pub key-inj : key p r ≡ key q s → (p ≡ q) × (r ≡ s)
  key-inj e =
      (sym (place-of-key p r fr fp) ∙ ap place_of e ∙ place-of-key q s fs fq, sym (rank-in-key p r fr) ∙ ap rank_in e ∙ rank-in-key q s fs)

  -- the same as tests
  pub place-order : lt_z p q || (eqb (biased p) (biased q) && lt_z r s) ≡ ltb (key p r) (key q s)
  place-order =
      rw (lt_z-biased p q fp fq, lt_z-biased r s fr fs)
      (pair_lt (biased p) (biased r) (biased q) (biased s) (biased-lt r fr) (biased-lt s fs))

  pub same-identity : eqb (biased p) (biased q) && eqb (biased r) (biased s) ≡ eqb (key p r) (key q s)
  same-identity = pair_eq (biased p) (biased r) (biased q) (biased s) (biased-lt r fr) (biased-lt s fs)

-- ---- queries

-- a place against an end of a range, as numbers and as keys
module _ (x p r : ℤ) (fx : Fits x) (fp : Fits p) (fr : Fits r) where
  pub from-words : le_z x p ≡ leb (biased x * word) (key p r)
  from-words =
      let h = biased-lt r fr in
      le_z-biased x p fx fp ∙ leb-same (biased x) (biased p) (biased x * word) (key p r) (λ l. omega arith) (λ l. omega (arith, h))

  pub under-words : lt_z p x ≡ ltb (key p r) (biased x * word)
  under-words =
      let h = biased-lt r fr in
      lt_z-biased p x fp fx ∙ ltb-same (biased p) (biased x) (key p r) (biased x * word) (λ l. omega (arith, h)) (λ l. omega arith)

  to-words : le_z p x ≡ leb (key p r) (biased x * word + 4294967295)
  to-words =
      let h = biased-lt r fr in
      le_z-biased p x fp fx ∙ leb-same (biased p) (biased x) (key p r) (biased x * word + 4294967295) (λ l. omega (arith, h)) (λ l. omega arith)

module _ (x1 x2 : ℤ) (f1 : Fits x1) (f2 : Fits x2) where
  -- "A range whose first place is greater than its last"
  pub ring-words : lt_z x2 x1 ≡ ltb (biased x2 * word + 4294967295) (biased x1 * word)
  ring-words =
      lt_z-biased x2 x1 f2 f1 ∙ ltb-same (biased x2) (biased x1) (biased x2 * word + 4294967295) (biased x1 * word) (λ l. omega arith) (λ l. omega arith)

  module _ (p r : ℤ) (fp : Fits p) (fr : Fits r) where
    -- the places of a report, as numbers and as keys
    pub range-placed : (y : ℤ) → of_range x1 x2 p ≡ placed (query x1 x2 y) (key p r)
    unfolding of_range placed ends is_ring query from_of last_of
    range-placed y = rw (ring-words, from-words x1 p r f1 fp fr, to-words x2 p r f2 fp fr)

    -- "and rank ≥ y"
    pub report-wants : (y : ℤ) → Fits y → of_range x1 x2 p && le_z y r ≡ wants_key (query x1 x2 y) (key p r)
    unfolding wants_key query least_of all
    report-wants y fy =
        ap₂ (λ (a b : Bool). a && b) (range-placed y) (le_z-biased y r fy fr ∙ ap (leb (biased y)) (sym (rank-of p r fr fp)) ∙ sym (and-true _))

    pub top-wants : of_range x1 x2 p ≡ wants_key (top_query x1 x2 0) (key p r)
    unfolding wants_key top_query query least_of all
    top-wants =
        sym (and-true _) ∙
        ap₂ (λ (a b : Bool). a && b) (range-placed (unbiased 0))
        (sym (le-leb (biased (unbiased 0)) (rank_of (key p r)) (omega (arith, biased-unbiased 0))) ∙ sym (and-true _))

-- the code's test for a ring
pub ring-is : (q : Query) → Fits q.x1 → Fits q.x2 → lt_z q.x2 q.x1 ≡ is_ring q
unfolding is_ring from_of last_of
ring-is q f1 f2 = ring-words q.x1 q.x2 f1 f2

-- the code's test of a key by its place and its rank, for a query that is no ring: each number comes back from its bits
module _ (q : Query) (k : ℕ) (f1 : Fits q.x1) (f2 : Fits q.x2) (fy : Fits q.y) (plain : is_ring q ≡ false) (small : k < all_keys) where
  between : (p r : ℤ) → wanted p r q.x1 q.x2 q.y ≡ of_range q.x1 q.x2 p && le_z q.y r
  unfolding of_range
  between p r = rw (ring-is q f1 f2 ∙ plain) refl

  parts-wants : wanted (place_of k) (rank_in k) q.x1 q.x2 q.y ≡ wants_key q k
  unfolding query
  parts-wants =
      between (place_of k) (rank_in k)
      ∙ report-wants q.x1 q.x2 f1 f2 (place_of k) (rank_in k) (place-fits k small) (rank-fits k) q.y fy
      ∙ ap (wants_key q) (key-of-parts k)

  pub key-wants : {b : Bool} (p r : ℤ) → Fits p → Fits r → p ≡ place_of k → r ≡ rank_in k
      → b ≡ wanted (to_z w32 (of_z w32 p)) (to_z w32 (of_z w32 r)) (to_z w32 (of_z w32 q.x1)) (to_z w32 (of_z w32 q.x2)) (to_z w32 (of_z w32 q.y))
      → b ≡ wants_key q k
  key-wants p r fp fr d e g =
      g ∙ rw (to_z-of_z w32 p fp, to_z-of_z w32 r fr, to_z-of_z w32 q.x1 f1, to_z-of_z w32 q.x2 f2, to_z-of_z w32 q.y fy)
      (ap₂ (λ (x y : ℤ). wanted x y q.x1 q.x2 q.y) d e ∙ parts-wants)
