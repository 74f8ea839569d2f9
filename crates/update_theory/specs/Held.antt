-- The buffers of a node in memory, and what a batch of changes makes of them (source section 4, steps i to v).
-- Assumes nothing.
use Rattle.std.specs.Prelude.{ℕ, cond, List, [], ◌∷◌, leb}
use Rattle.octets.specs.Lists.{keep}
use Rattle.spot.specs.Keys.{rank_key}
use Rattle.spot.specs.Spots.{put}
use Rattle.spot.specs.Sorted.{only, but, insert_key}
use Rattle.spot.specs.declared.Spot.{Spot}

pub record Held : Type 0 where
  pub points : List Spot
  pub inserts : List Spot
  pub deletes : List ℕ

-- One insert and one delete, where r is the lowest rank key of P that was noted before: at or above it a spot belongs to P, and nothing deeper has its key;
-- under it the change waits.
abbrev pub insert_one : ℕ → Spot → Held → Held
insert_one r s b =
    cond (leb r (rank_key s.key))
    (record { points = put s (only (but s.key) b.points); inserts = only (but s.key) b.inserts; deletes = keep (but s.key) b.deletes })
    (record { points = only (but s.key) b.points; inserts = put s (only (but s.key) b.inserts); deletes = keep (but s.key) b.deletes })

abbrev pub delete_one : ℕ → ℕ → Held → Held
delete_one r k b =
    cond (leb r (rank_key k))
    (record { points = only (but k) b.points; inserts = only (but k) b.inserts; deletes = keep (but k) b.deletes })
    (record { points = only (but k) b.points; inserts = only (but k) b.inserts; deletes = insert_key k (keep (but k) b.deletes) })

-- a batch of them, the last first
abbrev pub insert_all : ℕ → List Spot → Held → Held
insert_all r [] b = b
insert_all r (s ∷ ss) b = insert_one r s (insert_all r ss b)

abbrev pub delete_all : ℕ → List ℕ → Held → Held
delete_all r [] b = b
delete_all r (k ∷ ks) b = delete_one r k (delete_all r ks b)
