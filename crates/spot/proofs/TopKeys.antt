-- The order of Top's answers: a top key has the rank in its upper half and the place, the other way up, in its lower one.
-- Assumes nothing.
use Rattle.std.proofs.Common.{◌≡◌, ℕ, ◌+◌, ◌-◌, ◌*◌, ◌/◌, ◌<◌, ◌&&◌, ◌||◌, eqb, ltb, ℤ, sym, ap, ◌∙◌, arith}
use lib.Signed.{lt_z}
use Rattle.octets.proofs.Order.{ltb-same}
use Rattle.spot.specs.Keys.{word, all_keys, biased, key, rank_key, rank_of, turn_low, top_key, key_of_top}
use Rattle.spot.proofs.Signed.{Fits, biased-lt, lt_z-biased}
use Rattle.spot.proofs.Halves.{pair_lt, rank-small, rank-back}
use Rattle.spot.proofs.Orders.{rank-first}

-- ---- a number with its lower half the other way up

turn-rank : (r : ℕ) → turn_low r / word ≡ r / word
unfolding turn_low
turn-rank r = omega arith

turn_small : (r : ℕ) → r < all_keys → turn_low r < all_keys
unfolding turn_low
turn_small r h = omega arith

turn-back : (r : ℕ) → turn_low (turn_low r) ≡ r
unfolding turn_low
turn-back r = omega arith

-- ---- top keys

-- a higher rank comes first, whatever the place
pub top-rank : (k : ℕ) → top_key k / word ≡ rank_of k
unfolding top_key
top-rank k = turn-rank (rank_key k)

pub top_small : (k : ℕ) → k < all_keys → top_key k < all_keys
unfolding top_key
top_small k h = turn_small (rank_key k) (rank-small k h)

pub top_back : (k : ℕ) → k < all_keys → key_of_top (top_key k) ≡ k
unfolding top_key key_of_top
top_back k h = ap rank_key (turn-back (rank_key k)) ∙ rank-back k h

pub top-inj : (a b : ℕ) → a < all_keys → b < all_keys → top_key a ≡ top_key b → a ≡ b
top-inj a b g h e = sym (top_back a g) ∙ ap key_of_top e ∙ top_back b h

-- of one rank, the lower place comes first
module _ (p r q s : ℤ) (fp : Fits p) (fr : Fits r) (fq : Fits q) (fs : Fits s) where
  top-first : (x y : ℤ) → Fits x → Fits y → top_key (key x y) ≡ biased y * word + (4294967295 - biased x)
  unfolding top_key turn_low
  top-first x y f g = let e = rank-first x y g in omega (arith, e, biased-lt x f, biased-lt y g)

  pub top-order : lt_z r s || (eqb (biased r) (biased s) && lt_z q p) ≡ ltb (top_key (key p r)) (top_key (key q s))
  top-order =
      rw (lt_z-biased r s fr fs, lt_z-biased q p fq fp, top-first p r fp fr, top-first q s fq fs)
      (ap (λ b. ltb (biased r) (biased s) || (eqb (biased r) (biased s) && b))
      (ltb-same (biased q) (biased p) (4294967295 - biased p) (4294967295 - biased q) (λ l. omega (arith, biased-lt p fp, biased-lt q fq)) (λ l. omega (arith, biased-lt p fp, biased-lt q fq))) ∙
      pair_lt (biased r) (4294967295 - biased p) (biased s) (4294967295 - biased q) (omega arith) (omega arith))
