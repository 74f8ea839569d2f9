-- Keys and spots stored in a longer list are read back, also a whole list of spots; and the bytes of what was read are those that stand there.
-- Assumes nothing.
use Rattle.std.proofs.Common.{◌≡◌, ℕ, ◌+◌, ◌*◌, ◌<◌, ◌≤◌, Bool, true, ◌&&◌, List, ◌++◌, length, get_or, take, drop, sym, refl, ap, ◌∙◌, ap₂, add-zero, arith, drop-drop, take-add, leb-true}
use lib.Arith.{digits_div, digits_mod}
use Rattle.octets.specs.Lists.{every, records}
use Rattle.octets.specs.Bytes.{be, bytes_of}
use Rattle.octets.proofs.Order.{stride}
use Rattle.octets.proofs.Tests.{and_left, and_right}
use Rattle.octets.proofs.Bytes.{be-lt, bytes_of-be}
use Rattle.octets.proofs.Codec.{coded-append, length-coded, coded-back, coded-bytes}
use Rattle.spot.specs.declared.Spot.{Spot}
use Rattle.spot.specs.Keys.{word, all_keys, turned, within, unsigned32}
use Rattle.spot.specs.Spots.{key_at, spot_at, key_bytes, spot_bytes, spots_bytes}
use Rattle.spot.proofs.Signed.{turned_lt, turned-turned}
use Rattle.spot.proofs.Card.{key_at-left, key_at-right, spot_at-left, spot_at-right, length-key_bytes, length-spot_bytes, key_at-key_bytes, spot_at-spot_bytes}
use Rattle.spot.proofs.Places.{within-to}

-- a spot of a key of 64 bits and a track of 32
abbrev pub good_spot : Spot → Bool
good_spot x = within 0 all_keys x.key && unsigned32 x.track

good-key : (x : Spot) → good_spot x ≡ true → x.key < all_keys
good-key x h = within-to 0 all_keys x.key (and_left (within 0 all_keys x.key) (unsigned32 x.track) h)

good-track : (x : Spot) → good_spot x ≡ true → x.track < word
unfolding unsigned32
good-track x h = let l = leb-true x.track 4294967295 (and_right (within 0 all_keys x.key) (unsigned32 x.track) h) in omega arith

-- ---- read back

pub key_back : (k : ℕ) → k < all_keys → (a b : List ℕ) → key_at (a ++ (key_bytes k ++ b)) (length a) ≡ k
key_back k h a b =
    ap (key_at (a ++ (key_bytes k ++ b))) (sym (add-zero (length a))) ∙ key_at-right a (key_bytes k ++ b) 0
    ∙ key_at-left (key_bytes k) b 0 (omega (arith, length-key_bytes k)) ∙ key_at-key_bytes k h

pub spot_back : (x : Spot) → good_spot x ≡ true → (a b : List ℕ) → spot_at (a ++ (spot_bytes x ++ b)) (length a) ≡ x
spot_back x h a b =
    ap (spot_at (a ++ (spot_bytes x ++ b))) (sym (add-zero (length a))) ∙ spot_at-right a (spot_bytes x ++ b) 0
    ∙ spot_at-left (spot_bytes x) b 0 (omega (arith, length-spot_bytes x)) ∙ spot_at-spot_bytes x (good-key x h) (good-track x h)

-- ---- lists of spots

pub spots_bytes-append : (xs ys : List Spot) → spots_bytes (xs ++ ys) ≡ spots_bytes xs ++ spots_bytes ys
spots_bytes-append = coded-append spots_bytes spot_bytes 12 refl (λ x xs. refl)

pub length-spots_bytes : (xs : List Spot) → length (spots_bytes xs) ≡ 12 * length xs
length-spots_bytes = length-coded spots_bytes spot_bytes 12 refl (λ x xs. refl) length-spot_bytes

pub spots-back : (xs : List Spot) → every good_spot xs ≡ true → (a b : List ℕ) → records (spot_at (a ++ (spots_bytes xs ++ b))) 12 (length xs) (length a) ≡ xs
spots-back = coded-back spots_bytes spot_bytes 12 refl (λ x xs. refl) spot_at good_spot length-spot_bytes spot_back

-- ---- the bytes of what was read

module _ (s : List ℕ) (bytes : (k : ℕ) → get_or s k 0 < 256) where
  four : (i : ℕ) → i + 4 ≤ length s → bytes_of 4 (turned (turned (be 4 s i))) ≡ take 4 (drop i s)
  four i h = ap (bytes_of 4) (turned-turned (be 4 s i) (be-lt 4 s i bytes)) ∙ bytes_of-be 4 s i bytes h

  pub key_bytes-key_at : (i : ℕ) → i + 8 ≤ length s → key_bytes (key_at s i) ≡ take 8 (drop i s)
  unfolding key_bytes key_at
  key_bytes-key_at i h =
      let a : ℕ = turned (be 4 s i) in
      let b : ℕ = turned (be 4 s (i + 4)) in
      ap₂ (λ (x y : List ℕ). x ++ y)
      (ap (λ (x : ℕ). bytes_of 4 (turned x)) (digits_div a (turned_lt (be 4 s (i + 4)))) ∙ four i (omega arith))
      (ap (λ (x : ℕ). bytes_of 4 (turned x)) (digits_mod a (turned_lt (be 4 s (i + 4)))) ∙ four (i + 4) (omega arith) ∙ ap (take 4) (sym (drop-drop 4 i s)))
      ∙ sym (take-add 4 4 (drop i s))

  pub spot_bytes-spot_at : (i : ℕ) → i + 12 ≤ length s → spot_bytes (spot_at s i) ≡ take 12 (drop i s)
  unfolding spot_bytes spot_at
  spot_bytes-spot_at i h =
      ap₂ (λ (x y : List ℕ). x ++ y) (key_bytes-key_at i (omega arith))
      (bytes_of-be 4 s (i + 8) bytes (omega arith) ∙ ap (take 4) (sym (drop-drop 8 i s)))
      ∙ sym (take-add 8 4 (drop i s))

  pub spots_bytes-records : (n at : ℕ) → at + 12 * n ≤ length s → spots_bytes (records (spot_at s) 12 n at) ≡ take (12 * n) (drop at s)
  spots_bytes-records n at h =
      coded-bytes spots_bytes spot_bytes 12 refl (λ x xs. refl) spot_at s n at (λ i l. spot_bytes-spot_at (at + 12 * i) (omega (arith, stride 12 l)))
