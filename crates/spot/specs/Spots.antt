-- Spots on the card, and lists of spots.
-- Assumes nothing.
use Rattle.std.specs.Prelude.{ℕ, ◌+◌, ◌*◌, ◌/◌, ◌%◌, Bool, cond, not, leb, List, [], ◌∷◌, ◌++◌, ◌==◌, nat_le, nat_lt}
use Rattle.std.proofs.Math.Option.{Option, none, some}
use Rattle.octets.specs.Lists.{every, keep, records}
use Rattle.octets.specs.Bytes.{be, bytes_of, put_be}
use Rattle.spot.specs.Keys.{word, turned, top_key, limited}
use Rattle.spot.specs.declared.Spot.{Spot}

-- the key in the 8 bytes from index i: "signed ones two's complement"
unfoldable pub key_at : List ℕ → ℕ → ℕ
key_at s i = turned (be 4 s i) * word + turned (be 4 s (i + 4))

-- the keys of n records of w bytes from index at on
abbrev pub keys_from : List ℕ → ℕ → ℕ → ℕ → List ℕ
keys_from s w n at = records (key_at s) w n at

-- request 2026-07: their places are inside the limits
unfoldable pub limited_from : List ℕ → ℕ → ℕ → ℕ → Bool
limited_from s w n at = every limited (keys_from s w n at)

-- "spots of 12 bytes: place, rank, track"
unfoldable pub spot_at : List ℕ → ℕ → Spot
spot_at s i = record { key = key_at s i; track = be 4 s (i + 8) }

-- n spots side by side, from the one at i on, and from the first on
abbrev pub spots_from : List ℕ → ℕ → ℕ → List Spot
spots_from s i n = records (spot_at s) 12 n (12 * i)

abbrev pub spots_in : List ℕ → ℕ → List Spot
spots_in s n = records (spot_at s) 12 n 0

-- a key's 8 bytes, and a spot's 12
unfoldable pub key_bytes : ℕ → List ℕ
key_bytes k = bytes_of 4 (turned (k / word)) ++ bytes_of 4 (turned (k % word))

unfoldable pub spot_bytes : Spot → List ℕ
spot_bytes s = key_bytes s.key ++ bytes_of 4 s.track

-- s with a key's 8 bytes at index i, and with a spot's 12
unfoldable pub put_key : List ℕ → ℕ → ℕ → List ℕ
put_key s i k = put_be 4 (put_be 4 s i (turned (k / word))) (i + 4) (turned (k % word))

unfoldable pub put_spot : List ℕ → ℕ → Spot → List ℕ
put_spot s i x = put_be 4 (put_key s i x.key) (i + 8) x.track

-- "the spots, 12 bytes each as on the card"
abbrev pub spots_bytes : List Spot → List ℕ
spots_bytes [] = []
spots_bytes (s ∷ ss) = spot_bytes s ++ spots_bytes ss

abbrev pub keys : List Spot → List ℕ
keys [] = []
keys (s ∷ ss) = s.key ∷ keys ss

-- the track of the spot with this key
abbrev pub find : ℕ → List Spot → Option ℕ
find k [] = none
find k (s ∷ ss) = cond (k == s.key) (some s.track) (find k ss)

-- a spot put in place order
abbrev pub put : Spot → List Spot → List Spot
put s [] = s ∷ []
put s (x ∷ xs) = cond (nat_le s.key x.key) (s ∷ x ∷ xs) (x ∷ put s xs)

abbrev pub put_all : List Spot → List Spot → List Spot
put_all [] acc = acc
put_all (s ∷ ss) acc = put s (put_all ss acc)

-- a spot put in the order of Top's answers
abbrev pub put_top : Spot → List Spot → List Spot
put_top s [] = s ∷ []
put_top s (x ∷ xs) = cond (nat_le (top_key x.key) (top_key s.key)) (s ∷ x ∷ xs) (x ∷ put_top s xs)

abbrev pub by_top : List Spot → List Spot
by_top [] = []
by_top (s ∷ ss) = put_top s (by_top ss)

-- "Report's order is from x1 onward": the spots from the key k on, followed by the others
unfoldable pub from_on : ℕ → List Spot → List Spot
from_on k ss = keep (λ s. leb k s.key) ss ++ keep (λ s. nat_lt s.key k) ss

-- the spots but the one with this key
unfoldable pub without : ℕ → List Spot → List Spot
without k ss = keep (λ s. not (s.key == k)) ss
