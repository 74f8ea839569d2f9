-- Parts of a segment, and what a tree's shape says of its children.
-- Assumes nothing.
use mathlib.Core.Path.{◌≡◌, refl, ap, sym, subst, ◌∙◌}
use mathlib.Core.Bool.{true, ◌&&◌}
use mathlib.Core.List.{List, [], ◌∷◌, ◌++◌}
use Prim.Native.Nat.{ℕ, zero, suc, ◌+◌, ◌-◌, ◌*◌, ◌≤◌, ◌<◌, max}
use native.Mathlib.Nat.{mul_comm, mul_assoc, mul-le-mul}
use native.Mathlib.Omega.{arith}
use lib.ListN.{length}
use lib.Dec.{leb}
use borrow.Author.Tests.{leb-true, le-leb}
use Rattle.octets.specs.Lists.{rising}
use Rattle.octets.proofs.Rising.{rising-left, rising-right}
use Rattle.octets.proofs.Tests.{and_left, and_right, and_both}
use Rattle.spot.specs.Keys.{limited}
use Rattle.spot.specs.Spots.{keys, key_at, spots_from}
use Rattle.spot.proofs.Buffers.{keys-append, spots-join}
use Rattle.spot.proofs.Limits.{limited-each, limited-all}
use Rattle.rebuild_theory.specs.Build.{leaves, nodes, fans_ok, shape_of}
use Rattle.rebuild_theory.proofs.Shape.{leaves-some}
use Rattle.build.specs.Building.{Segment}

-- ---- a spot of a segment

pub segment-limited : (list : List ℕ) (from n i : ℕ) → Segment list from n → i < n → limited (key_at list (12 * (from + i))) ≡ true
segment-limited list from n i s h =
    let e : 12 * (from + i) ≡ 12 * from + 12 * i = omega arith in
    ap (λ (k : ℕ). limited (key_at list k)) e ∙ limited-each list 12 n (12 * from) s.limits i h

pub first-limited : (list : List ℕ) (from n : ℕ) → Segment list from n → (n ≡ 0 → ⊥) → limited (key_at list (12 * from)) ≡ true
first-limited list from n s d =
    let e : 12 * from ≡ 12 * (from + 0) = omega arith in
    ap (λ (k : ℕ). limited (key_at list k)) e ∙ segment-limited list from n 0 s (omega (arith, d))

-- ---- a part of a segment

pub segment-part : (list : List ℕ) (from n k m : ℕ) → Segment list from n → k + m ≤ n → Segment list (from + k) m
segment-part list from n k m s h =
    let i = s.inside in
    let f = s.few in
    let e : n ≡ k + (m + (n - (k + m))) = omega arith in
    record {
      inside = omega arith;
      few = omega arith;
      rises = go (n - (k + m)) (subst (λ (x : ℕ). rising (keys (spots_from list from x)) ≡ true) e s.rises);
      limits = limited-all list 12 m (12 * (from + k)) kept;
    }
  where
    kept : (i : ℕ) → i < m → limited (key_at list (12 * (from + k) + 12 * i)) ≡ true
    kept i l =
        let e : 12 * (from + k) + 12 * i ≡ 12 * (from + (k + i)) = omega arith in
        ap (λ (j : ℕ). limited (key_at list j)) e ∙ segment-limited list from n (k + i) s (omega arith)

    go : (r : ℕ) → rising (keys (spots_from list from (k + (m + r)))) ≡ true → rising (keys (spots_from list (from + k) m)) ≡ true
    go r u =
        let a = spots_from list from k in
        let b = spots_from list (from + k) m in
        let c = spots_from list (from + k + m) r in
        let split : keys (spots_from list from (k + (m + r))) ≡ keys a ++ (keys b ++ keys c) =
        ap keys (spots-join list from k (m + r)) ∙ keys-append a (spots_from list (from + k) (m + r))
        ∙ ap (λ (x : List ℕ). keys a ++ x) (ap keys (spots-join list (from + k) m r) ∙ keys-append b c) in
        rising-left 0 (keys b) (keys c) (rising-right 0 (keys a) (keys b ++ keys c) (ap rising (sym split) ∙ u))

-- ---- a shape and the shape of a child

pub shape-step : (f g h : ℕ) → (h ≡ 0 → ⊥) → shape_of f g h ≡ f ∷ shape_of g 6 (h - 1)
shape-step f g zero d = absurd (d refl)
shape-step f g (suc h) d = let e : suc h - 1 ≡ h = omega arith in ap (λ (k : ℕ). f ∷ shape_of g 6 k) (sym e)

pub shape-leaf : (f g h : ℕ) → h ≡ 0 → shape_of f g h ≡ []
shape-leaf f g zero e = refl
shape-leaf f g (suc h) e = let z : ⊥ = omega arith in absurd z

pub shape-length : (f g h : ℕ) → length (shape_of f g h) ≡ h
shape-length f g zero = refl
shape-length f g (suc h) = ap suc (shape-length g 6 h)

-- a child's fan-outs will do for a root
pub fans-root : (fs : List ℕ) → fans_ok 4 fs ≡ true → fans_ok 2 fs ≡ true
fans-root [] h = refl
fans-root (f ∷ fs) h =
    let a = leb-true 4 f (and_left (leb 4 f) (leb f 8 && fans_ok 4 fs) h) in
    and_both (leb 2 f) (leb f 8 && fans_ok 4 fs) (le-leb 2 f (omega arith)) (and_right (leb 4 f) (leb f 8 && fans_ok 4 fs) h)

-- n spots in block b and those after it, for `fan` children of a shape
pub record Under (fan : ℕ) (fs : List ℕ) (n b room : ℕ) : Type 0 where
  pub two : 2 ≤ fan
  pub eight : fan ≤ 8
  pub fans : fans_ok 4 fs ≡ true
  pub some : 1 ≤ leaves fs
  pub least : leaves fs * fan ≤ n
  pub most : n ≤ 32 * leaves fs * fan
  pub first : 1 ≤ b
  pub last : b + suc (fan * nodes fs) ≤ room
  pub blocks : room ≤ 4096

pub under : (fan : ℕ) (fs : List ℕ) (n b room : ℕ) → fans_ok 2 (fan ∷ fs) ≡ true → leaves (fan ∷ fs) ≤ max 1 n → n ≤ 32 * leaves (fan ∷ fs) → 1 ≤ b
    → b + nodes (fan ∷ fs) ≤ room
    → room ≤ 4096
    → Under fan fs n b room
under fan fs n b room ok enough space first last blocks =
    let two = leb-true 2 fan (and_left (leb 2 fan) (leb fan 8 && fans_ok 4 fs) ok) in
    let later = and_right (leb 2 fan) (leb fan 8 && fans_ok 4 fs) ok in
    let fans = and_right (leb fan 8) (fans_ok 4 fs) later in
    let some = leaves-some fs 4 (omega arith) fans in
    let many : 2 * 1 ≤ fan * leaves fs = mul-le-mul {n₁ = 2} {m₁ = 1} {n₂ = fan} {m₂ = leaves fs} two some in
    let cm : fan * leaves fs ≡ leaves fs * fan = mul_comm fan (leaves fs) in
    let scaled : 32 * leaves fs * fan ≡ 32 * (fan * leaves fs) = mul_assoc 32 (leaves fs) fan ∙ ap (λ (i : ℕ). 32 * i) (sym cm) in
    record {
      two = two;
      eight = leb-true fan 8 (and_left (leb fan 8) (fans_ok 4 fs) later);
      fans = fans;
      some = some;
      least = omega (arith, enough, many, cm);
      most = omega (arith, space, scaled);
      first = first;
      last = last;
      blocks = blocks;
    }
