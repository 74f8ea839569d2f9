-- Two numbers below 2 ^ 32 in one, and rank keys: a key with its halves the other way round.
-- Assumes nothing.
use Rattle.std.proofs.Common.{◌≡◌, ℕ, ◌+◌, ◌*◌, ◌/◌, ◌%◌, ◌<◌, ◌≤◌, ◌&&◌, ◌||◌, eqb, ltb, ◌⊎◌, sym, refl, ap, ◌∙◌, ap₂, inl, inr, ⊎_elim, div-lt_iff_lt-mul, div-add-mod', arith, le-ltb, lt-ltb, eq-eqb, ne_eqb}
use lib.Arith.{digits_lt, digits_div, digits_mod}
use Rattle.octets.proofs.Order.{same_or_not, less-or-not, ltb-same, eqb_same}
use Rattle.spot.specs.Keys.{word, all_keys, rank_key, rank_of}

-- ---- pairs

pub pair_small : (a b : ℕ) → a < word → b < word → a * word + b < all_keys
pair_small a b h k = digits_lt h k

pub high : (k : ℕ) → k < all_keys → k / word < word
high k h = (div-lt_iff_lt-mul {k = word} {x = k} {y = word} (omega arith)).1 h

pub low : (k : ℕ) → k % word < word
low k = omega arith

-- their order, as facts and as tests
pub lex-to : (a b c d : ℕ) → b < word → d < word → a * word + b < c * word + d → (a < c) ⊎ ((a ≡ c) × (b < d))
lex-to a b c d h k l =
    ⊎_elim (λ (p : a ≤ c). ⊎_elim (λ (q : c ≤ a). inr (omega arith, omega arith)) (λ (q : a < c). inl q) (less-or-not c a))
    (λ (p : c < a). absurd (omega arith)) (less-or-not a c)

pub lex-from : (a b c d : ℕ) → b < word → d < word → (a < c) ⊎ ((a ≡ c) × (b < d)) → a * word + b < c * word + d
lex-from a b c d h k = ⊎_elim (λ p. omega arith) (λ p. omega arith)

pub pair_lt : (a b c d : ℕ) → b < word → d < word → ltb a c || (eqb a c && ltb b d) ≡ ltb (a * word + b) (c * word + d)
pair_lt a b c d h k =
    ⊎_elim
    (λ (l : c ≤ a).
    ⊎_elim
    (λ (e : a ≡ c).
    rw (le-ltb a c l, eq-eqb a c e) (ltb-same b d (a * word + b) (c * word + d) (λ m. omega arith) (λ m. omega arith)))
    (λ (n : a ≡ c → ⊥).
    let m : c < a = ⊎_elim (λ (g : a ≤ c). absurd (n (omega arith))) (λ g. g) (less-or-not a c) in
    rw (le-ltb a c l, ne_eqb a c n) (sym (le-ltb (a * word + b) (c * word + d) (omega arith))))
    (same_or_not a c))
    (λ (l : a < c). rw (lt-ltb a c l) (sym (lt-ltb (a * word + b) (c * word + d) (omega arith))))
    (less-or-not c a)

pub pair_eq : (a b c d : ℕ) → b < word → d < word → eqb a c && eqb b d ≡ eqb (a * word + b) (c * word + d)
pair_eq a b c d h k =
    ⊎_elim
    (λ (e : a ≡ c). rw (eq-eqb a c e) (eqb_same b d (a * word + b) (c * word + d) (λ m. omega arith) (λ m. omega arith)))
    (λ (n : a ≡ c → ⊥). rw (ne_eqb a c n) (sym (ne_eqb (a * word + b) (c * word + d) (λ m. n (omega arith)))))
    (same_or_not a c)

-- ---- rank keys

pub rank_is : (k : ℕ) → rank_key k ≡ k % word * word + k / word
unfolding rank_key
rank_is k = refl

pub rank-small : (k : ℕ) → k < all_keys → rank_key k < all_keys
unfolding rank_key
rank-small k h = pair_small (k % word) (k / word) (low k) (high k h)

-- the halves of a rank key
rank-high : (k : ℕ) → k < all_keys → rank_key k / word ≡ k % word
unfolding rank_key
rank-high k h = digits_div (k % word) (high k h)

rank-low : (k : ℕ) → k < all_keys → rank_key k % word ≡ k / word
unfolding rank_key
rank-low k h = digits_mod (k % word) (high k h)

-- a key's rank, biased, is its lower half
pub rank-of-low : (k : ℕ) → k < all_keys → rank_of k ≡ k % word
rank-of-low k h = rank-high k h

-- the rank key of a rank key is the key
pub rank-back : (k : ℕ) → k < all_keys → rank_key (rank_key k) ≡ k
rank-back k h = rank_is (rank_key k) ∙ ap₂ (λ (x y : ℕ). x * word + y) (rank-low k h) (rank-high k h) ∙ div-add-mod' k word

pub rank-inj : (a b : ℕ) → a < all_keys → b < all_keys → rank_key a ≡ rank_key b → a ≡ b
rank-inj a b g h e = sym (rank-back a g) ∙ ap rank_key e ∙ rank-back b h

-- a higher rank key has no lower rank
pub rank_up : (a b : ℕ) → rank_key a < rank_key b → rank_of a ≤ rank_of b
rank_up a b h = omega arith

-- of two keys of 64 bits one is above the other
pub rank-strict : (a b : ℕ) → a < all_keys → b < all_keys → (a ≡ b → ⊥) → rank_key a ≤ rank_key b → rank_key a < rank_key b
rank-strict a b g h n l = ⊎_elim (λ (e : rank_key a ≡ rank_key b). absurd (n (rank-inj a b g h e))) (λ (d : rank_key a ≡ rank_key b → ⊥). omega arith) (same_or_not (rank_key a) (rank_key b))
