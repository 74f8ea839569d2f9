-- What the lists of a node are, as records of its bytes.
-- Assumes nothing.
use mathlib.Core.Path.{◌≡◌, refl, sym, ap, subst⁻¹, ◌∙◌}
use mathlib.Core.Logic.{⊎_elim}
use mathlib.Core.Bool.{Bool, true, false, cond, ◌&&◌, ◌||◌, and_assoc}
use mathlib.Core.List.Memᴰ
use mathlib.Core.List.{List, [], ◌∷◌, ◌++◌, Memᴰ}
use Prim.Native.Nat.{ℕ, zero, suc, ◌+◌, ◌-◌, ◌*◌}
use native.Mathlib.Omega.{arith}
use lib.Dec.{eqb}
use lib.ListN.{length}
use Rattle.octets.specs.Lists.{all, every, records, is_empty, rest}
use Rattle.spot.specs.Spots.{key_at, keys_from}
use Rattle.block.specs.declared.Entry.{Entry}
use Rattle.block.specs.Node.{entry_at, open_below, first_open}
use Rattle.block.specs.NodeRules.{lows, zero_first, tops, extremes}
use Rattle.octets.proofs.Records.{every-records, tests-at, tests-make}

-- ---- tests at every record

module _ (f : ℕ → Bool) (w : ℕ) (g : ℕ → Bool) where
  pub tests-mono : ((a : ℕ) → f a ≡ true → g a ≡ true) → (n at : ℕ) → all (records f w n at) ≡ true → all (records g w n at) ≡ true
  tests-mono h n at p = tests-make g w n at (λ i l. h (at + w * i) (tests-at f w n at i p l))

-- ---- entries

pub length-open : (es : List Entry) → length (first_open es) ≡ length es
length-open [] = refl
length-open (e ∷ es) = refl

pub empty-open : (es : List Entry) → is_empty (first_open es) ≡ is_empty es
empty-open [] = refl
empty-open (e ∷ es) = refl

pub open-zero : (es : List Entry) → zero_first (lows (first_open es)) ≡ true
open-zero [] = refl
open-zero (e ∷ es) = refl

-- what holds of entries, whatever their low is, holds of them with the first low put to 0
pub open-all : (P : Entry → Type 0) → ((e : Entry) → P e → P (open_below e)) → (es : List Entry) → ((e : Entry) → Memᴰ e es → P e)
    → (e : Entry) → Memᴰ e (first_open es) → P e
open-all P o [] h e i = h e i
open-all P o (x ∷ es) h e i =
    ⊎_elim (λ (q : e ≡ open_below x). subst⁻¹ P q (o x (h x (Memᴰ.head refl)))) (λ j. h e (Memᴰ.tail j)) (Memᴰ.cases_cons i)

-- a test of entries that doesn't look at the range field
module _ (g : Entry → Bool) (blind : (e : Entry) → g (open_below e) ≡ g e) where
  every-open : (es : List Entry) → every g (first_open es) ≡ every g es
  every-open [] = refl
  every-open (e ∷ es) = ap (λ (b : Bool). b && every g es) (blind e)

  pub every-entry : (s : List ℕ) (n : ℕ) → every g (first_open (records (entry_at s) 28 n 8)) ≡ all (records (λ a. g (entry_at s a)) 28 n 8)
  every-entry s n = every-open (records (entry_at s) 28 n 8) ∙ every-records g (entry_at s) 28 n 8

-- a test of the tops is one of the entries
pub every-top : (u : ℕ → Bool) (es : List Entry) → every u (tops es) ≡ every (λ e. eqb e.size 0 || u e.top) es
every-top u [] = refl
every-top u (e ∷ es) =
    pick (eqb e.size 0) ∙ ap (λ (b : Bool). (eqb e.size 0 || u e.top) && b) (every-top u es)
  where
    pick : (b : Bool) → every u (cond b (tops es) (e.top ∷ tops es)) ≡ (b || u e.top) && every u (tops es)
    pick true = refl
    pick false = refl

-- and so is one of the highest and the lowest
pub every-extremes : (u : ℕ → Bool) (es : List Entry) → every u (extremes es) ≡ every (λ e. eqb e.size 0 || (u e.top && u e.bottom)) es
every-extremes u [] = refl
every-extremes u (e ∷ es) =
    pick (eqb e.size 0) ∙ ap (λ (b : Bool). (eqb e.size 0 || (u e.top && u e.bottom)) && b) (every-extremes u es)
  where
    pick : (b : Bool) → every u (cond b (extremes es) (e.top ∷ e.bottom ∷ extremes es)) ≡ (b || (u e.top && u e.bottom)) && every u (extremes es)
    pick true = refl
    pick false = sym (and_assoc (u e.top) (u e.bottom) (every u (extremes es)))

-- the lows of entries
pub length-lows : (es : List Entry) → length (lows es) ≡ length es
length-lows [] = refl
length-lows (e ∷ es) = ap suc (length-lows es)

pub lows-append : (us vs : List Entry) → lows (us ++ vs) ≡ lows us ++ lows vs
lows-append [] vs = refl
lows-append (u ∷ us) vs = ap (λ (r : List ℕ). u.low ∷ r) (lows-append us vs)

-- the lows from the second entry on
lows-records : (s : List ℕ) (n at : ℕ) → lows (records (entry_at s) 28 n at) ≡ keys_from s 28 n (at + 4)
unfolding entry_at
lows-records s zero at = refl
lows-records s (suc n) at =
    let e : at + 28 + 4 ≡ at + 4 + 28 = omega arith in
    ap (λ (l : List ℕ). key_at s (at + 4) ∷ l) (lows-records s n (at + 28) ∙ ap (λ (k : ℕ). keys_from s 28 n k) e)

pub rest-lows : (s : List ℕ) (c : ℕ) → rest (lows (first_open (records (entry_at s) 28 c 8))) ≡ keys_from s 28 (c - 1) 40
rest-lows s zero = refl
rest-lows s (suc c) =
    let e : suc c - 1 ≡ c = omega arith in
    lows-records s c 36 ∙ ap (λ (k : ℕ). keys_from s 28 k 40) (sym e)
