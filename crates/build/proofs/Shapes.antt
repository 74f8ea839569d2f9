-- The number of nodes of a shape, level by level; and the table of shapes by one test of all rows.
-- Assumes nothing.
use mathlib.Core.Path.{◌≡◌, refl, ap, sym, ◌∙◌}
use mathlib.Core.Logic.{⊎_elim}
use mathlib.Core.Bool.{Bool, true, cond}
use mathlib.Core.List.{List, [], ◌∷◌, map}
use Prim.Native.Nat.{ℕ, zero, suc, ◌+◌, ◌-◌, ◌*◌, ◌^◌, ◌≤◌, ◌<◌}
use native.Mathlib.Nat.{pow-suc, mul-le-mul}
use native.Mathlib.Omega.{arith}
use lib.ListN.{length, get_or, drop, get_or-map}
use lib.Dec.{leb, eqb}
use borrow.Author.Tests.{eqb-true, leb-true, le-leb, lt-leb}
use Rattle.octets.specs.Lists.{all, every}
use Rattle.octets.proofs.Tests.{every-at, all-at}
use Rattle.octets.proofs.Order.{same_or_not}
use Rattle.octets.proofs.Lists.{drop-next}
use Rattle.rebuild_theory.specs.Build.{leaves, nodes, shape_of, shapes, first_for, shape}
use Rattle.build.specs.Building.{ShapeIs}

pub nodes-none : (f g h : ℕ) → h ≡ 0 → 1 ≡ nodes (shape_of f g h)
nodes-none f g zero e = refl
nodes-none f g (suc h) e = let z : ⊥ = omega arith in absurd z

pub nodes-step : (f g h : ℕ) → (h ≡ 0 → ⊥) → 1 + f * nodes (shape_of g 6 (h - 1)) ≡ nodes (shape_of f g h)
nodes-step f g zero d = absurd (d refl)
nodes-step f g (suc h) d = let e : suc h - 1 ≡ h = omega arith in rw e (omega arith)

pub power-some : (h : ℕ) → 1 ≤ 9 ^ h
power-some zero = omega arith
power-some (suc h) = let p = power-some h in rw pow-suc (omega arith)

pub nodes-few : (f h r : ℕ) → (h ≡ 0 → ⊥) → f ≤ 8 → r ≤ 9 ^ (h - 1) → 1 + f * r ≤ 9 ^ h
nodes-few f zero r d a b = absurd (d refl)
nodes-few f (suc h) r d a b =
    let e : suc h - 1 ≡ h = omega arith in
    let b' : r ≤ 9 ^ h = rw e at b in
    let p : 1 ≤ 9 ^ h = power-some h in
    let m : f * r ≤ 8 * 9 ^ h = mul-le-mul {n₁ = f} {m₁ = r} {n₂ = 8} {m₂ = 9 ^ h} a b' in
    rw pow-suc (omega arith)

-- it is a number of 32 bits
pub nodes-room : (f h r : ℕ) → (h ≡ 0 → ⊥) → (f ≤ 8) × (h ≤ 6) → r ≤ 9 ^ (h - 1) → 1 + f * r ≤ 531441
nodes-room f h r d p b = omega (arith, nodes-few f h r d p.0 b, small h p.1)
  where
    small : (h : ℕ) → h ≤ 6 → 9 ^ h ≤ 531441
    small zero l = omega arith
    small (suc zero) l = omega arith
    small (suc (suc zero)) l = omega arith
    small (suc (suc (suc zero))) l = omega arith
    small (suc (suc (suc (suc zero)))) l = omega arith
    small (suc (suc (suc (suc (suc zero))))) l = omega arith
    small (suc (suc (suc (suc (suc (suc zero)))))) l = omega arith
    small (suc (suc (suc (suc (suc (suc (suc h))))))) l = let z : ⊥ = omega arith in absurd z

-- ---- the table

-- a row: leaves, the fan-out of the root, that of its children, levels below the root
abbrev pub Row : Type 0
Row = ℕ × ℕ × ℕ × ℕ

unfoldable pub rows : List Row
rows =
    (1, 0, 0, 0) ∷ (2, 2, 6, 1) ∷ (3, 3, 6, 1) ∷ (4, 4, 6, 1) ∷ (6, 6, 6, 1) ∷ (8, 8, 6, 1) ∷ (10, 2, 5, 2) ∷ (12, 2, 6, 2) ∷ (15, 3, 5, 2) ∷ (18, 3, 6, 2) ∷ (24, 4, 6, 2) ∷ (30, 5, 6, 2) ∷ (36, 6, 6, 2) ∷ (48, 8, 6, 2) ∷ (60, 2, 5, 3) ∷ (72, 2, 6, 3) ∷ (90, 3, 5, 3) ∷ (108, 3, 6, 3) ∷ (144, 4, 6, 3) ∷ (180, 5, 6, 3) ∷ (216, 6, 6, 3) ∷ (288, 8, 6, 3) ∷ (360, 2, 5, 4) ∷ (432, 2, 6, 4) ∷ (540, 3, 5, 4) ∷ (648, 3, 6, 4) ∷ (864, 4, 6, 4) ∷ (1080, 5, 6, 4) ∷ (1296, 6, 6, 4) ∷ (1728, 8, 6, 4) ∷ (2160, 2, 5, 5) ∷ []

abbrev no_row : Row
no_row = (0, 0, 0, 0)

-- the shape of a row
unfoldable shape_in : Row → List ℕ
shape_in r = shape_of r.1 r.2 r.3

table_is : map shape_in rows ≡ shapes
unfolding shape_in rows
table_is = refl

-- the rule of a row
unfoldable right : Row → Bool
right r = all (eqb (leaves (shape_in r)) r.0 ∷ leb r.1 8 ∷ leb r.2 8 ∷ leb r.3 5 ∷ leb r.0 2160 ∷ [])

rows_right : every right rows ≡ true
unfolding right rows shape_in all
rows_right = refl

long : (length rows ≡ 31) × (length shapes ≡ 31)
unfolding rows
long = (refl, refl)

right-at : (i : ℕ) → i < 31 → right (get_or rows i no_row) ≡ true
right-at i h = every-at right rows no_row rows_right i (omega (arith, long.0))

row_is : (i : ℕ) → get_or shapes i [] ≡ shape_in (get_or rows i no_row)
unfolding shape_in
row_is i = ap (λ (l : List (List ℕ)). get_or l i []) (sym table_is) ∙ get_or-map shape_in rows i no_row

pub count_small : (i : ℕ) → i ≤ 30 → (get_or rows i (0, 0, 0, 0)).0 ≤ 2160
unfolding right
count_small i h = leb-true _ _ (all-at _ (right-at i (omega arith)) 4)

last-count : (get_or rows 30 no_row).0 ≡ 2160
unfolding rows
last-count = refl

-- ---- the search of the table

pub record Sought (n i : ℕ) : Type 0 where
  pub inside : i ≤ 30
  pub same : shape n ≡ first_for n (drop i shapes)

pub sought-first : (n : ℕ) → Sought n 0
unfolding shape
sought-first n = record { inside = omega arith; same = refl }

module _ (n i : ℕ) (few : n ≤ 65520) (s : Sought n i) where
  here : i < 31
  here = omega (arith, s.inside)

  pub sought-inside : 32 * ((get_or rows i (0, 0, 0, 0)).0) < n → i < 30
  sought-inside h =
      let m = s.inside in
      ⊎_elim (λ (e : i ≡ 30). let g = ap (λ (k : ℕ). (get_or rows k (0, 0, 0, 0)).0) e ∙ last-count in let z : ⊥ = omega arith in absurd z) (λ (d : i ≡ 30 → ⊥). omega (arith, d))
      (same_or_not i 30)

  row_count : leaves (get_or shapes i []) ≡ (get_or rows i (0, 0, 0, 0)).0
  unfolding right
  row_count = ap leaves (row_is i) ∙ eqb-true _ _ (all-at _ (right-at i here) 0)

  picks : shape n ≡ cond (leb n (32 * ((get_or rows i (0, 0, 0, 0)).0))) (get_or shapes i []) (first_for n (drop (i + 1) shapes))
  picks =
      let cut : drop i shapes ≡ get_or shapes i [] ∷ drop (i + 1) shapes = drop-next shapes i [] (omega (arith, long.1, here)) in
      s.same ∙ ap (first_for n) cut
      ∙ ap (λ (k : ℕ). cond (leb n (32 * k)) (get_or shapes i []) (first_for n (drop (i + 1) shapes))) row_count

  pub sought-next : 32 * ((get_or rows i (0, 0, 0, 0)).0) < n → Sought n (i + 1)
  sought-next h = record { inside = omega (arith, sought-inside h); same = picks ∙ rw (lt-leb n (32 * ((get_or rows i (0, 0, 0, 0)).0)) h) }

  pub sought-found : n ≤ 32 * ((get_or rows i (0, 0, 0, 0)).0)
      → ShapeIs n (record { fan = (get_or rows i (0, 0, 0, 0)).1; next = (get_or rows i (0, 0, 0, 0)).2; height = (get_or rows i (0, 0, 0, 0)).3 })
  unfolding right shape_in
  sought-found h =
      record {
        is = rw (picks, le-leb n (32 * ((get_or rows i (0, 0, 0, 0)).0)) h) (sym (row_is i));
        fan = leb-true _ _ (all-at _ (right-at i here) 1);
        next = leb-true _ _ (all-at _ (right-at i here) 2);
        high = leb-true _ _ (all-at _ (right-at i here) 3);
      }
