-- Spots read one after another: those with a rank key of at least a floor are counted, and the least of their rank keys is found.
-- Assumes nothing.
use mathlib.Core.Path.{◌≡◌, refl, sym, ◌∙◌}
use mathlib.Core.Logic.{inl, inr, ⊎_elim}
use mathlib.Core.Bool.{Bool, true, false, cond}
use mathlib.Core.List.{List, ◌∷◌}
use Prim.Native.Nat.{ℕ, suc, ◌+◌, ◌-◌, ◌*◌, ◌≤◌, ◌<◌, min}
use native.Mathlib.Nat.{min-le_left, min-le_right, min-eq_left, min-eq_right}
use native.Mathlib.Omega.{arith}
use lib.Dec.{leb}
use lib.ListN.{length}
use mir.Val.{bool_byte}
use Rattle.octets.proofs.Order.{same_or_not, less-or-not}
use Rattle.octets.proofs.Tests.{keep-length}
use Rattle.octets.proofs.Records.{length-records}
use Rattle.spot.specs.Keys.{rank_key, limited}
use Rattle.spot.specs.Spots.{key_at, spot_at, spots_from}
use Rattle.spot.specs.Sorted.{only}
use Rattle.spot.specs.declared.Spot.{Spot}
use Rattle.spot.proofs.Limits.{limited-each}
use Rattle.plan.specs.Plans.{over, piece_left, SpotsReadable, Nearer, NextRank}
use Rattle.plan.specs.declared.Piece.{Piece}

-- the key of the i-th may be read
pub readable-at : (s : List ℕ) (n i : ℕ) → SpotsReadable s n → i < n → (12 * i + 8 ≤ length s) × (limited (key_at s (12 * i)) ≡ true)
readable-at s n i r h =
    let e : 0 + 12 * i ≡ 12 * i = omega arith in
    (omega (arith, r.inside), rw e at (limited-each s 12 n 0 r.limits i h))

-- ---- counted

-- how many of the spots from the i-th on, before the e-th
abbrev pub counted : List ℕ → ℕ → ℕ → ℕ → ℕ
counted s floor e i = length (only (over floor) (spots_from s i (e - i)))

pub counted-le : (s : List ℕ) (floor e i : ℕ) → counted s floor e i ≤ e
counted-le s floor e i =
    let k = keep-length (λ (x : Spot). over floor x.key) (spots_from s i (e - i)) in
    omega (arith, k, length-records (spot_at s) 12 (e - i) (12 * i))

pub bit-small : (b : Bool) → bool_byte b ≤ 1
bit-small true = omega arith
bit-small false = omega arith

pub counted_none : (s : List ℕ) (floor e i : ℕ) → e ≤ i → counted s floor e i ≡ 0
counted_none s floor e i h = let z : e - i ≡ 0 = omega arith in rw z

pub counted-turn : (s : List ℕ) (floor e i : ℕ) → i < e → counted s floor e i ≡ bool_byte (leb floor (rank_key (key_at s (12 * i)))) + counted s floor e (i + 1)
unfolding spot_at
counted-turn s floor e i h =
    let z : e - i ≡ suc (e - (i + 1)) = omega arith in
    let w : 12 * i + 12 ≡ 12 * (i + 1) = omega arith in
    rw (z, w) (go (leb floor (rank_key (key_at s (12 * i)))))
  where
    go : (b : Bool) → length (cond b (spot_at s (12 * i) ∷ only (over floor) (spots_from s (i + 1) (e - (i + 1)))) (only (over floor) (spots_from s (i + 1) (e - (i + 1)))))
        ≡ bool_byte b + counted s floor e (i + 1)
    go true = omega arith
    go false = omega arith

pub counted_is : (s : List ℕ) (p : Piece) (floor : ℕ) → piece_left s p floor ≡ counted s floor p.to p.from
unfolding piece_left
counted_is s p floor = refl

-- ---- the least

pub nearer-least : (best r floor : ℕ) → floor ≤ r → Nearer best r floor (min best r)
nearer-least best r floor h =
    let a = min-le_left best r in
    let b = min-le_right best r in
    record {
      small = a;
      least = λ k. b;
      found =
          ⊎_elim (λ (k : best ≤ r). inl (min-eq_left {n = best} {m = r} k))
          (λ (k : r < best). inr (min-eq_right {n = r} {m = best} (omega arith), h))
          (less-or-not best r);
    }

pub rank-turn : (s : List ℕ) (floor limit i best x : ℕ) → NextRank s i floor limit best → Nearer best (rank_key (key_at s (12 * i))) floor x → NextRank s (i + 1) floor limit x
rank-turn s floor limit i best x p q =
    record {
      small = omega (arith, p.small, q.small);
      least = λ j h f.
          ⊎_elim (λ (e : j ≡ i). rw e (q.least (rw e at f))) (λ (d : j ≡ i → ⊥). omega (arith, p.least j (omega arith) f, q.small)) (same_or_not j i);
      found = λ h. ⊎_elim (λ (e : x ≡ best). old e h) (λ c. (i, omega arith, new c.0 c.1, sym c.0)) q.found;
    }
  where
    old : x ≡ best → x < limit → (j : ℕ) × (j < i + 1) × (floor ≤ x) × (rank_key (key_at s (12 * j)) ≡ x)
    old e h = let r = p.found (rw e at h) in (r.0, omega (arith, r.1), rw e r.2, r.3 ∙ sym e)

    new : x ≡ rank_key (key_at s (12 * i)) → floor ≤ rank_key (key_at s (12 * i)) → floor ≤ x
    new e f = rw e f
