-- What a buffer's list says of the buffer: how many there are, and what stands at an index. For the callers of this crate, with `Keyed` on ranges
-- (`range_length`, `among-is`, `apart-is`, at `spots` and `plain`), `Merged` on two buffers as one, and `Lists.length-image` for the arrays' lengths.
-- Assumes nothing.
use mathlib.Core.Path.{◌≡◌}
use mathlib.Core.List.{Memᴰ}
use Prim.Native.Nat.{ℕ, ◌≤◌, ◌<◌}
use native.Mathlib.Omega.{arith}
use lib.ListN.{length, get_or}
use lib.Seq.{length-take-le}
use Rattle.spot.specs.Spots.{keys}
use Rattle.spot.proofs.Buffers.{keys-mem}
use Rattle.buffer.specs.declared.SpotBuffer.{SpotBuffer}
use Rattle.buffer.specs.declared.KeyBuffer.{KeyBuffer}
use Rattle.buffer.specs.Buffer.{held, named, blank}
use Rattle.octets.proofs.Lists.{at_mem}
use Rattle.buffer.proofs.Keyed.{spots, counted}

module _ (b : SpotBuffer) (long : length b.spots ≡ 80) (fits : b.n ≤ 80) where
  pub held-length : length (held b) ≡ b.n
  held-length = length-take-le b.n b.spots (omega arith)

  pub held-keys : length (keys (held b)) ≡ b.n
  held-keys = counted spots b.spots b.n (omega arith)

  pub spot_in : (i : ℕ) → i < b.n → Memᴰ (get_or (held b) i blank) (held b)
  spot_in i h = at_mem (held b) i blank (omega (arith, held-length))

  pub key_in : (i : ℕ) → i < b.n → Memᴰ (get_or (held b) i blank).key (keys (held b))
  key_in i h = keys-mem (held b) (spot_in i h)

module _ (b : KeyBuffer) (long : length b.keys ≡ 32) (fits : b.n ≤ 32) where
  pub named-length : length (named b) ≡ b.n
  named-length = length-take-le b.n b.keys (omega arith)
