-- Keys with a place inside the limits: a range of keys, so that of keys that rise the first and the last decide.
-- Assumes nothing.
use Rattle.std.proofs.Common.{◌≡◌, ℕ, zero, suc, ◌+◌, ◌-◌, ◌*◌, ◌/◌, ◌<◌, ◌≤◌, Bool, true, ◌&&◌, ltb, leb, List, ℤ, pos, negsuc, ◌-ℤ◌, sym, ap, ◌∙◌, ⊎_elim, arith, w32, SFits, le-ltb, lt-ltb, le-leb, leb-true}
use mathlib.Core.Bool.{and-true}
use lib.IntN.{sub_ℕ}
use lib.Signed.{mag}
use Rattle.octets.specs.Lists.{all, every, records}
use Rattle.octets.proofs.Order.{less-or-not, leb-same}
use Rattle.octets.proofs.Records.{every-records, tests-at, tests-make}
use Rattle.octets.proofs.Tests.{and_left}
use Rattle.spot.specs.Keys.{word, half, all_keys, key, place_of, within, in_limits, limited, start_key, end_key}
use Rattle.spot.specs.Spots.{key_at, spot_at, keys, limited_from}
use Rattle.spot.proofs.Signed.{Fits, unbiased-high, unbiased-low}
use Rattle.spot.proofs.Orders.{place-of-key}
use Rattle.spot.proofs.Buffers.{keys-records}
use Rattle.spot.proofs.Places.{within-yes, within-from, within-to}

-- ---- a key

pub limited-within : (k : ℕ) → limited k ≡ within start_key end_key k
unfolding limited place_of in_limits within all start_key end_key
limited-within k =
    ⊎_elim
    (λ (h : half ≤ k / word).
    rw (unbiased-high (k / word) h, le-leb start_key k (omega arith))
    (leb-same (k / word - half) 1000000 (suc k) end_key (λ l. omega arith) (λ l. omega arith) ∙ sym (and-true (ltb k end_key))))
    (λ (h : k / word < half).
    rw (unbiased-low (k / word) h, lt-ltb k end_key (omega arith))
    (ap (λ (b : Bool). b && true) (leb-same (half - suc (k / word)) 999999 start_key k (λ l. omega arith) (λ l. omega arith))))
    (less-or-not half (k / word))

pub limited-from : (k : ℕ) → limited k ≡ true → start_key ≤ k
limited-from k h = within-from start_key end_key k (sym (limited-within k) ∙ h)

pub limited-to : (k : ℕ) → limited k ≡ true → k < end_key
limited-to k h = within-to start_key end_key k (sym (limited-within k) ∙ h)

pub limited-yes : (k : ℕ) → start_key ≤ k → k < end_key → limited k ≡ true
limited-yes k a b = limited-within k ∙ within-yes start_key end_key k a b

pub end-small : end_key ≤ all_keys
unfolding end_key
end-small = omega arith

pub first-end : start_key ≤ end_key
unfolding start_key end_key
first-end = omega arith

pub limited-small : (k : ℕ) → limited k ≡ true → k < all_keys
limited-small k h = omega (arith, limited-to k h, end-small)

pub limited-key : (place rank : ℤ) → Fits place → Fits rank → limited (key place rank) ≡ in_limits place
unfolding limited
limited-key place rank f g = ap in_limits (place-of-key place rank g f)

-- ---- the difference of two places

place-small : (a : ℤ) → in_limits a ≡ true → mag a ≤ 1000000
unfolding in_limits
place-small (pos n) h = leb-true n 1000000 h
place-small (negsuc n) h = let l = leb-true n 999999 (and_left (leb n 999999) true h) in omega arith

sub_small : (a b : ℕ) → a ≤ 1000001 → b ≤ 1000001 → mag (sub_ℕ a b) < 2147483648
sub_small a b h k =
    ⊎_elim (λ (l : b ≤ a). rw (le-ltb a b l) (omega arith)) (λ (l : a < b). rw (lt-ltb a b l) (omega arith)) (less-or-not b a)

gap-small : (a b : ℤ) → mag a ≤ 1000000 → mag b ≤ 1000000 → mag (a -ℤ b) < 2147483648
gap-small (pos a) (pos zero) h k = omega arith
gap-small (pos a) (pos (suc b)) h k = sub_small a (suc b) (omega arith) (omega arith)
gap-small (pos a) (negsuc b) h k = omega arith
gap-small (negsuc a) (pos zero) h k = sub_small 0 (suc a) (omega arith) (omega arith)
gap-small (negsuc a) (pos (suc b)) h k = omega arith
gap-small (negsuc a) (negsuc b) h k = sub_small (suc b) (suc a) (omega arith) (omega arith)

-- the difference of two places fits 32 bits
pub gap-fits : (a b : ℤ) → in_limits a ≡ true → in_limits b ≡ true → SFits w32 (a -ℤ b)
gap-fits a b h k = record { sfits = gap-small a b (place-small a h) (place-small b k) }

-- ---- keys side by side

pub limited-each : (s : List ℕ) (w n at : ℕ) → limited_from s w n at ≡ true → (i : ℕ) → i < n → limited (key_at s (at + w * i)) ≡ true
unfolding limited_from
limited-each s w n at h i l = tests-at (λ (j : ℕ). limited (key_at s j)) w n at i (sym (every-records limited (key_at s) w n at) ∙ h) l

-- those of spots from the front on
pub limits-at : (s : List ℕ) (n : ℕ) → limited_from s 12 n 0 ≡ true → (p : ℕ) → p < n → limited (key_at s (12 * p)) ≡ true
limits-at s n h p l = let e : 12 * p ≡ 0 + 12 * p = omega arith in ap (λ (k : ℕ). limited (key_at s k)) e ∙ limited-each s 12 n 0 h p l

pub limited-all : (s : List ℕ) (w n at : ℕ) → ((i : ℕ) → i < n → limited (key_at s (at + w * i)) ≡ true) → limited_from s w n at ≡ true
unfolding limited_from
limited-all s w n at f = every-records limited (key_at s) w n at ∙ tests-make (λ (j : ℕ). limited (key_at s j)) w n at f

pub limited-spots : (s : List ℕ) (n at : ℕ) → limited_from s 12 n at ≡ every limited (keys (records (spot_at s) 12 n at))
unfolding limited_from
limited-spots s n at = ap (every limited) (sym (keys-records s 12 n at))
