-- The shape of a rebuild: fan-outs, levels, and that it fits.
-- Assumes nothing.
use mathlib.Core.Path.{◌≡◌, refl}
use mathlib.Core.Logic.{⊎_elim}
use mathlib.Core.Bool.{Bool, true, ◌&&◌}
use mathlib.Core.List.{List, [], ◌∷◌}
use Prim.Native.Nat.{ℕ, suc, ◌+◌, ◌*◌, ◌/◌, ◌≤◌, ◌<◌, max}
use native.Mathlib.Omega.{arith}
use native.Mathlib.Nat.{one-le-mul}
use lib.ListN.{length}
use lib.Dec.{leb}
use borrow.Author.Tests.{leb-true, le-leb, lt-leb}
use Rattle.octets.specs.Lists.{all}
use Rattle.octets.proofs.Tests.{all-at, and_left, and_right}
use Rattle.octets.proofs.Order.{less-or-not}
use Rattle.rebuild_theory.specs.Build.{leaves, nodes, fans_ok, shapes, first_for, shape}

-- a list of shapes serves every n from low on: each shape fits wherever the one before it does not serve, and the last serves all
unfoldable serve : ℕ → List (List ℕ) → Bool
serve low [] = leb 65521 low
serve low (fs ∷ more) =
    all (
    leb (5 * nodes fs) (4 * max 8 ((low + 15) / 16)) ∷
    leb (leaves fs) (max 1 low) ∷
    fans_ok 2 fs ∷
    leb (length fs) 6 ∷
    serve (suc (32 * leaves fs)) more ∷
    [])

shapes-serve : serve 0 shapes ≡ true
unfolding serve all
shapes-serve = refl

-- a shape for n spots in B blocks
pub record Fits (n B : ℕ) (fs : List ℕ) : Type 0 where
  pub fits : nodes fs ≤ B
  -- a fifth of the blocks stays free
  pub spare : 5 * nodes fs ≤ 4 * B
  pub fans : fans_ok 2 fs ≡ true
  pub levels : suc (length fs) ≤ 7
  pub most : n ≤ 32 * leaves fs
  pub least : leaves fs ≤ max 1 n

module _ (n B : ℕ) (few : n ≤ 16 * B) (small : 8 ≤ B) (large : B ≤ 4095) where
  first_fits : (low : ℕ) (rows : List (List ℕ)) → serve low rows ≡ true → low ≤ n → Fits n B (first_for n rows)
  unfolding serve
  first_fits low [] h l = let e = leb-true 65521 low h in let z : ⊥ = omega arith in absurd z
  first_fits low (fs ∷ more) h l =
      ⊎_elim (λ (g : n ≤ 32 * leaves fs). rw (le-leb n (32 * leaves fs) g) (here g))
      (λ (g : 32 * leaves fs < n). rw (lt-leb n (32 * leaves fs) g) (first_fits (suc (32 * leaves fs)) more (all-at _ h 4) g))
      (less-or-not n (32 * leaves fs))
    where
      here : n ≤ 32 * leaves fs → Fits n B fs
      here g =
          let a = leb-true (5 * nodes fs) (4 * max 8 ((low + 15) / 16)) (all-at _ h 0) in
          let b = leb-true (leaves fs) (max 1 low) (all-at _ h 1) in
          let c = leb-true (length fs) 6 (all-at _ h 3) in
          record { fits = omega arith; spare = omega arith; fans = all-at _ h 2; levels = omega arith; most = g; least = omega arith }

  -- the shape chosen fits
  pub shape-fits : Fits n B (shape n)
  unfolding shape
  shape-fits = first_fits 0 shapes shapes-serve (omega arith)

-- a shape has a leaf
pub leaves-some : (fs : List ℕ) (least : ℕ) → 1 ≤ least → fans_ok least fs ≡ true → 1 ≤ leaves fs
leaves-some [] least h g = omega arith
leaves-some (f ∷ fs) least h g =
    let a = leb-true least f (and_left (leb least f) (leb f 8 && fans_ok 4 fs) g) in
    one-le-mul {a = f} {b = leaves fs} (omega arith) (leaves-some fs 4 (omega arith) (and_right (leb f 8) (fans_ok 4 fs) (and_right (leb least f) (leb f 8 && fans_ok 4 fs) g)))
