-- A batch is loaded range by range, and has the ranges of the list that it was loaded from.
-- Assumes nothing.
use mathlib.Core.Path.{◌≡◌, refl, sym, ◌∙◌, ap, ap₂, subst}
use Prim.Native.Nat.{ℕ, zero, suc, ◌+◌, ◌≤◌, ◌<◌, min}
use mathlib.Core.Bool.{Bool, true, false, cond}
use mathlib.Core.List.{List}
use native.Mathlib.Decide.{ℕ_discrete}
use native.Mathlib.Omega.{arith}
use borrow.Author.Tests.{ltb-true, ltb-false}
use lib.Dec.{ltb}
use lib.ListN.{length, set, take, length-set, length-replicate, length-take}
use lib.Seq.{get_or-set_same, get_or-set_other, get_or-take, ext_get_or}
use Rattle.ranges.specs.declared.Range.{Range}
use Rattle.ranges.specs.Ranges.{no_range, range_at, loaded, few_of, batch_of, Handed}

-- one more range is there
pub loaded-more : (rs : List Range) (i : ℕ) (a : List Range) (r : Range) → a ≡ loaded rs i → r ≡ range_at rs i → set a i r ≡ loaded rs (i + 1)
loaded-more rs i a r e-a e-r =
    let e : i + 1 ≡ suc i = omega arith in
    ap₂ (λ (l : List Range) (x : Range). set l i x) e-a e-r ∙ sym (ap (loaded rs) e)

-- all are there
pub loaded-all : (rs : List Range) (n i : ℕ) (a : List Range) → length rs ≡ n → i ≡ few_of n → a ≡ loaded rs i → record { n = n; all = a } ≡ batch_of rs
loaded-all rs n i a e-n e-i e-a = rw (e-a, e-i, sym e-n)

loaded-length : (rs : List Range) (n : ℕ) → length (loaded rs n) ≡ 64
loaded-length rs zero = length-replicate 64 no_range
loaded-length rs (suc n) = length-set (loaded rs n) n (range_at rs n) ∙ loaded-length rs n

loaded_at : (rs : List Range) (n i : ℕ) → n ≤ 64 → i < n → range_at (loaded rs n) i ≡ range_at rs i
loaded_at rs zero i few h = absurd (omega (arith, h))
loaded_at rs (suc n) i few h = by (ℕ_discrete i n) (λ g. loaded_at rs n i (omega (arith, few)) g)
  where
    by : Dec (i ≡ n) → (i < n → range_at (loaded rs n) i ≡ range_at rs i) → range_at (loaded rs (suc n)) i ≡ range_at rs i
    by (yes q) before = rw q (get_or-set_same (loaded rs n) n (range_at rs n) no_range (let l = loaded-length rs n in omega (arith, l, few)))
    by (no q) before = get_or-set_other (loaded rs n) n i (range_at rs n) no_range q ∙ before (omega (arith, h, q))

-- the lesser of a number and 64 is this
pub few_min : (n : ℕ) → min n 64 ≡ few_of n
unfolding few_of
few_min n = by (ltb n 64) refl
  where
    by : (t : Bool) → ltb n 64 ≡ t → min n 64 ≡ cond t n 64
    by true e = let g : n < 64 = ltb-true n 64 e in omega (arith, g)
    by false e = let g : 64 ≤ n = ltb-false n 64 e in omega (arith, g)

few-all : (n : ℕ) → n ≤ 64 → few_of n ≡ n
unfolding few_of
few-all n h = by (ltb n 64) refl
  where
    by : (t : Bool) → ltb n 64 ≡ t → cond t n 64 ≡ n
    by true e = refl
    by false e = let g : 64 ≤ n = ltb-false n 64 e in omega (arith, g, h)

-- what `load` hands over has the ranges
pub batch-has : (rs : List Range) → Handed (batch_of rs) rs
batch-has rs = record { count = refl; all = λ few. ext_get_or no_range (take (length rs) (loaded rs (few_of (length rs)))) rs (long few) (λ i h. at few i (omega (arith, h, long few))) }
  where
    long : length rs ≤ 64 → length (take (length rs) (loaded rs (few_of (length rs)))) ≡ length rs
    long few = let e = length-take (length rs) (loaded rs (few_of (length rs))) in let l = loaded-length rs (few_of (length rs)) in omega (arith, few, e, l)

    at : length rs ≤ 64 → (i : ℕ) → i < length rs → range_at (take (length rs) (loaded rs (few_of (length rs)))) i ≡ range_at rs i
    at few i h =
        get_or-take (length rs) (loaded rs (few_of (length rs))) i no_range h ∙
        subst (λ (k : ℕ). range_at (loaded rs k) i ≡ range_at rs i) (sym (few-all (length rs) few)) (loaded_at rs (length rs) i few h)
