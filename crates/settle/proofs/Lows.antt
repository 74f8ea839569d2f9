-- The lows of a node's entries, where it is cut in two and where one entry became one or two.
-- Assumes nothing.
use mathlib.Core.Path.{◌≡◌, refl, ap, ◌∙◌, subst, subst⁻¹}
use mathlib.Core.Bool.{true, ◌&&◌}
use mathlib.Core.List.{List, [], ◌∷◌, ◌++◌}
use Prim.Native.Nat.{ℕ, suc, ◌<◌}
use native.Mathlib.Omega.{arith}
use lib.Dec.{ltb}
use borrow.Author.Tests.{ltb-true}
use Rattle.octets.specs.Lists.{every, rest, rising, rising_from}
use Rattle.octets.proofs.Tests.{every-mem, every-make, every-left, every-right, every-join, and_left, and_right, and_both}
use Rattle.octets.proofs.Rising.{rising-least, rising-left, rising-lower, rising-before, rises-after}
use Rattle.spot.specs.Keys.{within}
use Rattle.spot.proofs.Places.{within-from, within-to, within-yes}
use Rattle.block.specs.declared.Entry.{Entry}
use Rattle.block.specs.Node.{open_below}
use Rattle.block.specs.NodeRules.{zero_first, lows}
use Rattle.block.proofs.Views.{lows-append}
use Rattle.tree.specs.Part.{next_low}
use Rattle.update_theory.proofs.Spread.{start}
use Rattle.update_theory.proofs.Spare.{lows-first, lows-two}
use Rattle.settle.specs.Settling.{LowsFit}

-- the rules are of the lows alone
pub lows-as : (lo hi : ℕ) (es es' : List Entry) → lows es' ≡ lows es → LowsFit lo hi es → LowsFit lo hi es'
lows-as lo hi es es' e h =
    record {
      zero = ap zero_first e ∙ h.zero;
      rise = ap (λ (xs : List ℕ). rising (rest xs)) e ∙ h.rise;
      inside = ap (λ (xs : List ℕ). every (within lo hi) (rest xs)) e ∙ h.inside;
    }

-- the lows of each half rise, where those of all do
module _ (u : Entry) (us : List Entry) (v : Entry) (vs : List Entry) (h : rising (rest (lows ((u ∷ us) ++ (v ∷ vs)))) ≡ true) where
  up : rising_from 0 (lows us ++ (v.low ∷ lows vs)) ≡ true
  up = subst (λ (xs : List ℕ). rising_from 0 xs ≡ true) (lows-append us (v ∷ vs)) h

  pub rise-left : rising (rest (lows (u ∷ us))) ≡ true
  rise-left = rising-left 0 (lows us) (v.low ∷ lows vs) up

  past : rising_from (suc v.low) (lows vs) ≡ true
  past = rises-after 0 (lows us) v.low (lows vs) up

  pub rise-right : rising (rest (lows (open_below v ∷ vs))) ≡ true
  rise-right = rising-lower 0 (suc v.low) (lows vs) (omega arith) past

-- a node cut at the low of v
module _ (lo hi : ℕ) (u : Entry) (us : List Entry) (v : Entry) (vs : List Entry) (h : LowsFit lo hi ((u ∷ us) ++ (v ∷ vs))) where
  ins : every (within lo hi) (lows us ++ (v.low ∷ lows vs)) ≡ true
  ins = subst (λ (xs : List ℕ). every (within lo hi) xs ≡ true) (lows-append us (v ∷ vs)) h.inside

  sep-in : within lo hi v.low ≡ true
  sep-in = and_left (within lo hi v.low) (every (within lo hi) (lows vs)) (every-right (within lo hi) (lows us) (v.low ∷ lows vs) ins)

  pub lows-left : LowsFit lo v.low (u ∷ us)
  lows-left =
      record {
        zero = h.zero;
        rise = rise-left u us v vs h.rise;
        inside = every-make (within lo v.low) (lows us) (λ k i.
            within-yes lo v.low k (within-from lo hi k (every-mem (within lo hi) (lows us) (every-left (within lo hi) (lows us) (v.low ∷ lows vs) ins) i))
            (ltb-true k v.low (every-mem (λ j. ltb j v.low) (lows us) (rising-before 0 v.low (lows us) (lows vs) (up u us v vs h.rise)) i)));
      }

  pub lows-right : LowsFit v.low hi (open_below v ∷ vs)
  lows-right =
      let i = and_right (within lo hi v.low) (every (within lo hi) (lows vs)) (every-right (within lo hi) (lows us) (v.low ∷ lows vs) ins) in
      record {
        zero = refl;
        rise = rise-right u us v vs h.rise;
        inside = every-make (within v.low hi) (lows vs) (λ k j.
            within-yes v.low hi k (let z = rising-least (suc v.low) (lows vs) (past u us v vs h.rise) j in omega arith) (within-to lo hi k (every-mem (within lo hi) (lows vs) i j)));
      }

  -- the cut lies in the range
  pub cut_high : v.low < hi
  cut_high = within-to lo hi v.low sep-in

-- strictly, where v is not the second entry
pub cut_low : (lo hi : ℕ) (u w : Entry) (us : List Entry) (v : Entry) (vs : List Entry) → LowsFit lo hi ((u ∷ w ∷ us) ++ (v ∷ vs)) → lo < v.low
cut_low lo hi u w us v vs h =
    let a = (lows-left lo hi u (w ∷ us) v vs h).inside in
    let b = and_left (within lo v.low w.low) (every (within lo v.low) (lows us)) a in
    let c = within-from lo v.low w.low b in
    let d = within-to lo v.low w.low b in
    omega arith

-- an entry became others, the first with its low: the first low of all is still 0
pub zero-put : (us vs fs : List Entry) (e f : Entry) → f.low ≡ e.low → zero_first (lows (us ++ (e ∷ vs))) ≡ true → zero_first (lows (us ++ ((f ∷ fs) ++ vs))) ≡ true
zero-put [] vs fs e f h z = rw h z
zero-put (u ∷ us) vs fs e f h z = z

-- it became two, apart at the low of the second
pub lows-both : (lo hi : ℕ) (us : List Entry) (e f g : Entry) (vs : List Entry) → f.low ≡ e.low → start lo us e.low < g.low → g.low < next_low vs hi → within lo hi g.low ≡ true
    → LowsFit lo hi (us ++ (e ∷ vs)) → LowsFit lo hi (us ++ ((f ∷ g ∷ []) ++ vs))
lows-both lo hi [] e f g vs h a b w z =
    record {
      zero = zero-put [] vs (g ∷ []) e f h z.zero;
      rise = lows-first hi e f g vs b z.rise;
      inside = and_both (within lo hi g.low) (every (within lo hi) (lows vs)) w z.inside;
    }
lows-both lo hi (u ∷ us) e f g vs h a b w z =
    record {
      zero = z.zero;
      rise = lows-two hi u us e f g vs h a b z.rise;
      inside = subst⁻¹ (λ (xs : List ℕ). every (within lo hi) xs ≡ true) (lows-append us ((f ∷ g ∷ []) ++ vs) ∙ ap (λ (y : ℕ). lows us ++ (y ∷ g.low ∷ lows vs)) h)
          (every-join (within lo hi) (lows us) (e.low ∷ g.low ∷ lows vs) (every-left (within lo hi) (lows us) (e.low ∷ lows vs) i)
          (and_both (within lo hi e.low) (within lo hi g.low && every (within lo hi) (lows vs)) (and_left (within lo hi e.low) (every (within lo hi) (lows vs)) r)
          (and_both (within lo hi g.low) (every (within lo hi) (lows vs)) w (and_right (within lo hi e.low) (every (within lo hi) (lows vs)) r))));
    }
  where
    i : every (within lo hi) (lows us ++ (e.low ∷ lows vs)) ≡ true
    i = subst (λ (xs : List ℕ). every (within lo hi) xs ≡ true) (lows-append us (e ∷ vs)) z.inside

    r : every (within lo hi) (e.low ∷ lows vs) ≡ true
    r = every-right (within lo hi) (lows us) (e.low ∷ lows vs) i
