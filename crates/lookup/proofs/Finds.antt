-- What a search by key says of the spots of a run, and what the runs of a node say of the key together.
-- Assumes nothing.
use mathlib.Core.Path.{◌≡◌, sym, ap, subst, ◌∙◌}
use mathlib.Core.Bool.{Bool, true, false, cond, ◌&&◌}
use mathlib.Core.List.{List, Memᴰ}
use mathlib.Core.Option.{Option, none, some}
use Prim.Native.Nat.{ℕ, zero, suc, ◌+◌, ◌*◌, ◌≤◌, ◌<◌}
use native.Mathlib.Nat.{mul-zero, mul-suc}
use native.Mathlib.Omega.{arith}
use lib.Dec.{eqb, leb, ltb}
use Rattle.octets.specs.Lists.{has, records, rising}
use Rattle.octets.proofs.Sets.{not-has-mem}
use Rattle.spot.specs.declared.Spot.{Spot}
use Rattle.spot.specs.Keys.{within}
use Rattle.spot.specs.Spots.{keys, key_at, spot_at, find}
use Rattle.spot.proofs.Buffers.{find-member, find_none, keys-records}
use Rattle.block.specs.declared.Front.{Front}
use Rattle.block.specs.Table.{version1}
use Rattle.block.specs.Node.{Node, store_of, points_from, inserts_from, deletes_from}
use Rattle.block.proofs.Shut.{all2}
use Rattle.tree.specs.Lookup.{or_else, node_word}
use Rattle.visit.specs.declared.Span.{Span}
use Rattle.visit.specs.Visit.{keys_from, below_in, end_of}
use Rattle.visit.proofs.Counts.{spot-key}
use Rattle.visit.proofs.Runs.{Runs}
use Rattle.visit.proofs.Search.{run-has-none, run-has}

-- ---- a range

pub holds-is : (s : Span) (k : ℕ) {r : Bool} → r ≡ ltb k (end_of s) → leb s.lo k && r ≡ within s.lo (end_of s) k
unfolding within
holds-is s k h = ap (λ (b : Bool). leb s.lo k && b) h ∙ sym (all2 (leb s.lo k) (ltb k (end_of s)))

-- ---- a run of spots

record-in : {A : Type 0} (f : ℕ → A) (w n at i : ℕ) → i < n → Memᴰ (f (at + w * i)) (records f w n at)
record-in f w zero at i h = let z : ⊥ = omega arith in absurd z
record-in f w (suc n) at zero h =
    let e : at + w * 0 ≡ at = omega (arith, mul-zero w) in
    Memᴰ.head (ap f e)
record-in f w (suc n) at (suc i) h =
    let e : at + w + w * i ≡ at + w * suc i = omega (arith, mul-suc w i) in
    Memᴰ.tail (subst (λ (j : ℕ). Memᴰ (f j) (records f w n (at + w))) e (record-in f w n (at + w) i (omega arith)))

module _ (t : List ℕ) (n at k : ℕ) (up : rising (keys_from t 12 n at) ≡ true) where
  abbrev spots : List Spot
  spots = records (spot_at t) 12 n at

  absent : has k (keys_from t 12 n at) ≡ false → none ≡ find k spots
  absent h = sym (find_none k spots (not-has-mem k (keys spots) (ap (has k) (keys-records t 12 n at) ∙ h)))

  -- all keys are below k
  pub found-past : {i : ℕ} → i ≡ below_in k (keys_from t 12 n at) → n ≤ i → none ≡ find k spots
  found-past e h = absent (sym (run-has-none t 12 n at up k e h))

  -- the first that is not below decides
  module _ {i : ℕ} {s : Spot} (e : i ≡ below_in k (keys_from t 12 n at)) (h : i < n) (q : s ≡ spot_at t (at + 12 * i)) where
    key : s.key ≡ key_at t (at + 12 * i)
    key = ap (λ (x : Spot). x.key) q ∙ spot-key t (at + 12 * i)

    pub found_at : s.key ≡ k → some s.track ≡ find k spots
    found_at g =
        sym (subst (λ (z : ℕ). find z spots ≡ some s.track) g
        (find-member 0 spots (ap rising (keys-records t 12 n at) ∙ up) (subst (λ (x : Spot). Memᴰ x spots) (sym q) (record-in (spot_at t) 12 n at i h))))

    pub found-other : eqb s.key k ≡ false → none ≡ find k spots
    found-other g = absent (sym (run-has t 12 n at up k e h key) ∙ g)

-- ---- a node

-- what is found in a run is what the node has
module _ (t : List ℕ) (b : ℕ) (h : Front) (r : Runs t b h) (k : ℕ) where
  pub points-find : {x : ℕ} {o : Option ℕ} → x ≡ points_from version1 h.c → o ≡ find k (records (spot_at t) 12 h.p (b * 2048 + x)) → o ≡ find k (store_of t b).points
  points-find e g = g ∙ ap (λ (x : ℕ). find k (records (spot_at t) 12 h.p (b * 2048 + x))) e ∙ ap (find k) r.points

  pub inserts-find : {x : ℕ} {o : Option ℕ} → x ≡ inserts_from version1 h.c h.p → o ≡ find k (records (spot_at t) 12 h.i (b * 2048 + x)) → o ≡ find k (store_of t b).inserts
  inserts-find e g = g ∙ ap (λ (x : ℕ). find k (records (spot_at t) 12 h.i (b * 2048 + x))) e ∙ ap (find k) r.inserts

  pub deletes-has : {x : ℕ} {d : Bool} → x ≡ deletes_from version1 h.c h.p h.i → d ≡ has k (keys_from t 8 h.d (b * 2048 + x)) → d ≡ has k (store_of t b).deletes
  deletes-has e g = g ∙ ap (λ (x : ℕ). has k (keys_from t 8 h.d (b * 2048 + x))) e ∙ ap (has k) r.deletes

module _ (n : Node) (k : ℕ) (below : Option ℕ) where
  pub word-point : {a : ℕ} → some a ≡ find k n.points → node_word n k below ≡ some a
  word-point e = ap (λ (o : Option ℕ). or_else o (or_else (find k n.inserts) (cond (has k n.deletes) none below))) (sym e)

  -- what I and D say
  module _ (e : none ≡ find k n.points) where
    changes : node_word n k below ≡ or_else (find k n.inserts) (cond (has k n.deletes) none below)
    changes = ap (λ (o : Option ℕ). or_else o (or_else (find k n.inserts) (cond (has k n.deletes) none below))) (sym e)

    pub word-insert : {a : ℕ} → some a ≡ find k n.inserts → node_word n k below ≡ some a
    word-insert f = changes ∙ ap (λ (o : Option ℕ). or_else o (cond (has k n.deletes) none below)) (sym f)

    pub word-change : {d : Bool} → none ≡ find k n.inserts → d ≡ has k n.deletes → node_word n k below ≡ cond d none below
    word-change f g = changes ∙ ap (λ (o : Option ℕ). or_else o (cond (has k n.deletes) none below)) (sym f) ∙ ap (λ (z : Bool). cond z none below) (sym g)
