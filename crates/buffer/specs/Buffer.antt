-- Buffers in memory: what they hold, and what it means that one is in order.
-- Assumes nothing.
use Rattle.std.specs.Prelude.{◌≡◌, ℕ, ◌≤◌, not, take, Option, Some, None}
use mathlib.Core.List.{List, Memᴰ}
use Rattle.std.proofs.Math.Option.{Option as Maybe, none, some}
use Rattle.octets.specs.Lists.{has}
use Rattle.spot.specs.Keys.{rank_key}
use Rattle.spot.specs.Spots.{keys, find, put_all}
use Rattle.spot.specs.Sorted.{only}
use Rattle.spot.specs.declared.Spot.{Spot}
use Rattle.buffer.specs.declared.SpotBuffer.{SpotBuffer}
use Rattle.buffer.specs.declared.KeyBuffer.{KeyBuffer}
pub use Rattle.buffer.specs.Keyed.{InOrder, below, blank}

-- the spots of a buffer, and the keys of one of deletes
abbrev pub held : SpotBuffer → List Spot
held b = take b.n b.spots

abbrev pub named : KeyBuffer → List ℕ
named b = take b.n b.keys

-- within the room, and rising in place order
abbrev pub Ordered : SpotBuffer → Type 0
Ordered b = InOrder 80 b.n (keys (held b))

abbrev pub OrderedKeys : KeyBuffer → Type 0
OrderedKeys b = InOrder 32 b.n (named b)

-- s is in the list, and no key there is lower, or higher, in rank order
pub record LowestIn (ss : List Spot) (s : Spot) : Type 0 where
  pub there : find s.key ss ≡ some s.track
  pub least : (k : ℕ) → Memᴰ k (keys ss) → rank_key s.key ≤ rank_key k

pub record Highest (ss : List Spot) (s : Spot) : Type 0 where
  pub there : find s.key ss ≡ some s.track
  pub most : (k : ℕ) → Memᴰ k (keys ss) → rank_key k ≤ rank_key s.key

-- two waiting buffers as one: where both have a key, the later one's spot stays
abbrev pub merged : List Spot → List Spot → List Spot
merged later earlier = put_all later (only (λ k. not (has k (keys later))) earlier)

-- what a search gives back
abbrev pub found : Option ℕ → Maybe ℕ
found (Some a) = some a
found None = none
