-- A key or a spot written is its bytes put in the place of others.
-- Assumes nothing.
use Rattle.std.proofs.Common.{◌≡◌, ℕ, ◌+◌, ◌≤◌, List, ◌++◌, length, take, drop, sym, ap, ◌∙◌}
use Rattle.octets.specs.Bytes.{put_bytes}
use Rattle.spot.specs.declared.Spot.{Spot}
use Rattle.spot.specs.Spots.{key_bytes, spot_bytes, put_key, put_spot}
use Rattle.spot.proofs.Card.{put_key-eq, put_spot-eq, length-key_bytes, length-spot_bytes}

pub key-bytes : (s : List ℕ) (i k : ℕ) → i + 8 ≤ length s → put_key s i k ≡ put_bytes s i (key_bytes k)
unfolding put_bytes
key-bytes s i k h = put_key-eq s i k h ∙ ap (λ (m : ℕ). take i s ++ key_bytes k ++ drop (i + m) s) (sym (length-key_bytes k))

pub spot-bytes : (s : List ℕ) (i : ℕ) (x : Spot) → i + 12 ≤ length s → put_spot s i x ≡ put_bytes s i (spot_bytes x)
unfolding put_bytes
spot-bytes s i x h = put_spot-eq s i x h ∙ ap (λ (m : ℕ). take i s ++ spot_bytes x ++ drop (i + m) s) (sym (length-spot_bytes x))
