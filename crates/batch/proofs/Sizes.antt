-- How many points and inserts a node has once it took in a batch, and that no key is in both.
-- Assumes nothing.
use mathlib.Core.Path.{◌≡◌, refl, ap}
use mathlib.Core.Logic.{⊎_elim}
use mathlib.Core.Bool.{true}
use mathlib.Core.List.{List, [], ◌∷◌, Memᴰ}
use Prim.Native.Nat.{ℕ, suc, ◌+◌, ◌≤◌, ◌<◌}
use native.Mathlib.Omega.{arith}
use lib.Dec.{leb}
use lib.ListN.{length}
use borrow.Author.Tests.{le-leb, lt-leb}
use Rattle.octets.specs.Lists.{keep, rising}
use Rattle.octets.specs.Sets.{Apart}
use Rattle.octets.proofs.Order.{less-or-not}
use Rattle.octets.proofs.Sets.{in-or-not}
use Rattle.octets.proofs.Tests.{keep_all, every-make}
use Rattle.spot.specs.declared.Spot.{Spot}
use Rattle.spot.specs.Keys.{rank_key}
use Rattle.spot.specs.Spots.{keys, put}
use Rattle.spot.specs.Sorted.{only, but, insert_key}
use Rattle.spot.proofs.Canon.{length-put}
use Rattle.spot.proofs.Buffers.{keys-mem, only-mem, only-rises, put-mem, put_up, length-only}
use Rattle.spot.proofs.Sorted.{but-not, but-yes, length-but}
use Rattle.update_theory.specs.Held.{Held, insert_one, delete_one, insert_all, delete_all}

-- what b has become, after at most `more` inserts and `gone` changes
pub record Sized (b c : Held) (more gone : ℕ) : Type 0 where
  pub up : rising (keys c.points) ≡ true
  pub apart : Apart (keys c.points) (keys c.inserts)
  pub most : length c.points + length c.inserts ≤ length b.points + length b.inserts + more
  pub least : length b.points ≤ length c.points + gone

pub sized-start : (b : Held) → rising (keys b.points) ≡ true → Apart (keys b.points) (keys b.inserts) → Sized b b 0 0
sized-start b u a = record { up = u; apart = a; most = omega arith; least = omega arith }

-- a key taken out makes at most one less
but-least : (k : ℕ) (ss : List Spot) → rising (keys ss) ≡ true → length ss ≤ suc (length (only (but k) ss))
but-least k ss u =
    ⊎_elim (λ i. let e = length-but 0 k ss u i in omega arith)
    (λ (n : Memᴰ k (keys ss) → ⊥).
    let e : only (but k) ss ≡ ss = keep_all _ ss (every-make _ ss (λ s i. but-yes k s.key (λ (g : s.key ≡ k). n (rw g at (keys-mem ss i))))) in
    let z : length (only (but k) ss) ≡ length ss = ap length e in
    omega arith)
    (in-or-not k (keys ss))

module _ (b c : Held) (more gone k : ℕ) (h : Sized b c more gone) where
  -- a key taken out of both
  sized-but : (d : List ℕ) → Sized b (record { points = only (but k) c.points; inserts = only (but k) c.inserts; deletes = d }) more (suc gone)
  sized-but d =
      record {
        up = only-rises (but k) c.points h.up;
        apart = λ j u v. h.apart j (only-mem (but k) c.points u).0 (only-mem (but k) c.inserts v).0;
        most = omega (arith, h.most, length-only (but k) c.points, length-only (but k) c.inserts);
        least = omega (arith, h.least, but-least k c.points h.up);
      }

  pub sized-deleted : (r : ℕ) → Sized b (delete_one r k c) more (suc gone)
  sized-deleted r =
      ⊎_elim (λ (g : r ≤ rank_key k). rw (le-leb r (rank_key k) g) (sized-but (keep (but k) c.deletes)))
      (λ (g : rank_key k < r). rw (lt-leb r (rank_key k) g) (sized-but (insert_key k (keep (but k) c.deletes))))
      (less-or-not r (rank_key k))

-- a spot put in where its key was taken out
module _ (b c : Held) (more gone : ℕ) (s : Spot) (h : Sized b c more gone) (d : List ℕ) where
  abbrev k : ℕ
  k = s.key

  abbrev P : List Spot
  P = only (but k) c.points

  abbrev I : List Spot
  I = only (but k) c.inserts

  bare : Sized b (record { points = P; inserts = I; deletes = d }) more (suc gone)
  bare = sized-but b c more gone k h d

  into-P : Sized b (record { points = put s P; inserts = I; deletes = d }) (suc more) (suc gone)
  into-P =
      record {
        up = put_up s P bare.up (λ i. but-not k k (only-mem (but k) c.points i).1 refl);
        apart = λ j u v. ⊎_elim (λ (e : j ≡ k). but-not k j (only-mem (but k) c.inserts v).1 e) (λ w. bare.apart j w v) (put-mem s P u);
        most = omega (arith, bare.most, length-put s P);
        least = omega (arith, bare.least, length-put s P);
      }

  into-I : Sized b (record { points = P; inserts = put s I; deletes = d }) (suc more) (suc gone)
  into-I =
      record {
        up = bare.up;
        apart = λ j u v. ⊎_elim (λ (e : j ≡ k). but-not k j (only-mem (but k) c.points u).1 e) (λ w. bare.apart j u w) (put-mem s I v);
        most = omega (arith, bare.most, length-put s I);
        least = bare.least;
      }

pub sized-inserted : (b c : Held) (more gone : ℕ) (s : Spot) (r : ℕ) → Sized b c more gone → Sized b (insert_one r s c) (suc more) (suc gone)
sized-inserted b c more gone s r h =
    let d = keep (but s.key) c.deletes in
    ⊎_elim (λ (g : r ≤ rank_key s.key). rw (le-leb r (rank_key s.key) g) (into-P b c more gone s h d))
    (λ (g : rank_key s.key < r). rw (lt-leb r (rank_key s.key) g) (into-I b c more gone s h d))
    (less-or-not r (rank_key s.key))

-- a batch
pub sized-inserts : (b : Held) (r : ℕ) (ss : List Spot) → Sized b b 0 0 → Sized b (insert_all r ss b) (length ss) (length ss)
sized-inserts b r [] h = h
sized-inserts b r (s ∷ ss) h = sized-inserted b (insert_all r ss b) (length ss) (length ss) s r (sized-inserts b r ss h)

-- more may be gone
sized-most : (b c : Held) (more gone gone' : ℕ) → gone ≤ gone' → Sized b c more gone → Sized b c more gone'
sized-most b c more gone gone' g h = record { up = h.up; apart = h.apart; most = h.most; least = omega (arith, h.least) }

pub sized-deletes : (b c : Held) (r more gone : ℕ) (ks : List ℕ) → Sized b c more gone → Sized b (delete_all r ks c) more (length ks + gone)
sized-deletes b c r more gone [] h = sized-most b c more gone (length {A = ℕ} [] + gone) (omega arith) h
sized-deletes b c r more gone (k ∷ ks) h =
    sized-most b (delete_all r (k ∷ ks) c) more (suc (length ks + gone)) (length (k ∷ ks) + gone) (omega arith)
    (sized-deleted b (delete_all r ks c) more (length ks + gone) k (sized-deletes b c r more gone ks h) r)

-- ---- with the threshold 0 nothing waits

waits-none : (r k : ℕ) → r ≡ 0 → leb r (rank_key k) ≡ true
waits-none r k e = le-leb r (rank_key k) (omega arith)

pub inserts-bare : (r : ℕ) (ss : List Spot) (b : Held) → r ≡ 0 → (b.inserts ≡ [] → (insert_all r ss b).inserts ≡ []) × (b.deletes ≡ [] → (insert_all r ss b).deletes ≡ [])
inserts-bare r [] b e = (λ h. h, λ h. h)
inserts-bare r (s ∷ ss) b e =
    let i = inserts-bare r ss b e in
    rw (waits-none r s.key e) (λ h. ap (only (but s.key)) (i.0 h), λ h. ap (keep (but s.key)) (i.1 h))

pub deletes-bare : (r : ℕ) (ks : List ℕ) (b : Held) → r ≡ 0 → (b.inserts ≡ [] → (delete_all r ks b).inserts ≡ []) × (b.deletes ≡ [] → (delete_all r ks b).deletes ≡ [])
deletes-bare r [] b e = (λ h. h, λ h. h)
deletes-bare r (k ∷ ks) b e =
    let i = deletes-bare r ks b e in
    rw (waits-none r k e) (λ h. ap (only (but k)) (i.0 h), λ h. ap (keep (but k)) (i.1 h))
