-- A node cut in two: the separating key of a leaf, and the entries of one that has none.
-- Assumes nothing.
use mathlib.Core.Path.{◌≡◌}
use mathlib.Core.Logic.{◌⊎◌, ⊎_elim}
use mathlib.Core.List.{List, Memᴰ}
use Prim.Native.Nat.{ℕ, ◌/◌, ◌≤◌, ◌<◌}
use native.Mathlib.Omega.{arith}
use lib.ListN.{length, take, drop, get_or}
use Rattle.octets.proofs.Order.{less-or-not}
use Rattle.spot.specs.Spots.{keys}
use Rattle.block.specs.declared.Entry.{Entry}
use Rattle.block.specs.Node.{first_open}
use Rattle.buffer.specs.declared.SpotBuffer.{SpotBuffer}
use Rattle.buffer.specs.Buffer.{held, Ordered, blank, below}
use Rattle.buffer.proofs.Laws.{held-length, held-keys, key_in}
use Rattle.buffer.proofs.Counts.{below_at}
use Rattle.buffer.proofs.Keyed.{spots, named-at}
use Rattle.choose.proofs.Shares.{below_up}

-- a node that can be cut in two: without entries it has two points, and else it has eight entries
module _ (k p : ℕ) (cuts : ((k ≡ 0) × (2 ≤ p)) ⊎ (k ≡ 8)) where
  pub leaf-points : k ≡ 0 → 2 ≤ p
  leaf-points z = ⊎_elim (λ (h : (k ≡ 0) × (2 ≤ p)). h.1) (λ (h : k ≡ 8). absurd (omega arith)) cuts

  pub inner-eight : (k ≡ 0 → ⊥) → k ≡ 8
  inner-eight z = ⊎_elim (λ (h : (k ≡ 0) × (2 ≤ p)). absurd (z h.0)) (λ (h : k ≡ 8). h) cuts

  pub cut-few : k ≤ 8
  cut-few = ⊎_elim (λ (h : (k ≡ 0) × (2 ≤ p)). let z = h.0 in omega arith) (λ (h : k ≡ 8). omega arith) cuts

-- where there are no entries there are none on the right
module _ (l : List Entry) (m : ℕ) (e : m ≡ 0) where
  pub right-bare : take m l ≡ first_open (drop 0 (take m l))
  right-bare = rw e

  pub right-count : m ≡ length (first_open (drop 0 (take m l)))
  right-count = rw e

-- the key in the middle is a key, and there is one below it
module _ (b : SpotBuffer) (long : length b.spots ≡ 80) (o : Ordered b) (two : 2 ≤ b.n) (m : ℕ) (half : m ≡ b.n / 2) where
  abbrev key-at : ℕ → ℕ
  key-at i = (get_or (held b) i blank).key

  index : (i : ℕ) → i < b.n → i ≡ below (key-at i) (keys (held b))
  index i h =
      let w : i < length (keys (held b)) = omega (arith, held-keys b long o.fits) in
      let v : i < length (held b) = omega (arith, held-length b long o.fits) in
      below_at (keys (held b)) o.up i w (key-at i) (named-at spots (held b) i blank v)

  pub middle-key : Memᴰ (key-at m) (keys (held b)) × ((k : ℕ) × Memᴰ k (keys (held b)) × (k < key-at m))
  middle-key =
      let h : m < b.n = omega arith in
      let g : 0 < m = omega arith in
      let z : key-at 0 < key-at m = ⊎_elim
      (λ (w : key-at m ≤ key-at 0). absurd (omega (arith, index m h, index 0 (omega arith), below_up (key-at m) (key-at 0) (keys (held b)) w)))
      (λ (w : key-at 0 < key-at m). w) (less-or-not (key-at m) (key-at 0)) in
      (key_in b long o.fits m h, (key-at 0, key_in b long o.fits 0 (omega arith), z))
