-- What a call hands in: some of the ranges that stand in bytes, or some of the bytes.
-- Assumes nothing.
use mathlib.Core.Path.{◌≡◌, refl, sym, ap, subst, ◌∙◌}
use mathlib.Core.Bool.{Bool, true, ◌&&◌}
use mathlib.Core.List.{List, [], ◌∷◌, ◌++◌}
use Prim.Native.Nat.{ℕ, suc, ◌+◌, ◌-◌, ◌*◌, ◌/◌, ◌≤◌, ◌<◌, min}
use native.Mathlib.Nat.{zero-add, min-le_right}
use native.Mathlib.Omega.{arith}
use lib.ListN.{length, get_or, take, drop, length-drop, take-append-drop}
use lib.Dec.{ltb}
use lib.Seq.{take_at, drop_at}
use borrow.Author.Tests.{lt-ltb}
use mir.Syntax.{w32}
use mir.Val.{to_z}
use mir.ValLaws.{to_z-Fits}
use Rattle.octets.specs.Bytes.{be}
use Rattle.octets.specs.Lists.{every, records}
use Rattle.octets.proofs.Bytes.{be-lt}
use Rattle.octets.proofs.Records.{length-records, records-append, every-records, tests-make}
use Rattle.octets.proofs.Tests.{and_both, every-left, every-right}
use Rattle.spot.specs.Keys.{signed32}
use Rattle.spot.proofs.Signed.{fits_signed}
use Rattle.block.specs.declared.Answer.{Answer}
use Rattle.ranges.specs.Ranges.{range_in}
use Rattle.table.specs.Calls.{apply, range_fits, arguments_fit}
use Rattle.table.specs.Updates.{ApplyPost}
use Rattle.script.specs.Script.{all_ranges}
use Rattle.script.proofs.Fronts.{take_min, drop_min}

-- ---- the first of some records, and those behind them, are records too

module _ {A : Type 0} (f : ℕ → A) (w m at n k : ℕ) (e : k ≡ min n m) where
  split : records f w m at ≡ records f w k at ++ records f w (m - k) (at + w * k)
  split =
      let whole : m ≡ k + (m - k) = omega (arith, min-le_right n m) in
      ap (λ (j : ℕ). records f w j at) whole ∙ records-append f w k (m - k) at

  reach : min n (length (records f w m at)) ≡ k
  reach = ap (min n) (length-records f w m at) ∙ sym e

  pub records-take : take n (records f w m at) ≡ records f w k at
  records-take =
      sym (take_min n (records f w m at)) ∙ ap (λ (j : ℕ). take j (records f w m at)) reach
      ∙ ap (take k) split
      ∙ take_at (records f w k at) (records f w (m - k) (at + w * k)) k (length-records f w k at)

  pub records-drop : drop n (records f w m at) ≡ records f w (m - k) (at + w * k)
  records-drop =
      sym (drop_min n (records f w m at)) ∙ ap (λ (j : ℕ). drop j (records f w m at)) reach
      ∙ ap (drop k) split
      ∙ drop_at (records f w k at) (records f w (m - k) (at + w * k)) k (length-records f w k at)

-- ---- n ranges from one on, or those that there are: k from the i-th on

module _ (g : List ℕ) (from n i k : ℕ) (ei : i ≡ min from (length g / 12)) (ek : k ≡ min n (length g / 12 - i)) where
  pub ranges-part : records (range_in g) 12 k (12 * i) ≡ take n (drop from (all_ranges g))
  ranges-part =
      sym (ap (take n) (records-drop (range_in g) 12 (length g / 12) 0 from i ei
      ∙ ap (records (range_in g) 12 (length g / 12 - i)) (zero-add (12 * i)))
      ∙ records-take (range_in g) 12 (length g / 12 - i) (12 * i) n k ek)

  pub part-inside : 12 * i + 12 * k ≤ length g
  part-inside = omega (arith, min-le_right from (length g / 12), min-le_right n (length g / 12 - i))

-- ---- n bytes from one on, or those that there are: k from the i-th on

module _ (g : List ℕ) (from n i k : ℕ) (ei : i ≡ min from (length g)) (ek : k ≡ min n (length g - i)) where
  bytes-part : take k (drop i g) ≡ take n (drop from g)
  bytes-part =
      let rest : drop i g ≡ drop from g = ap (λ (j : ℕ). drop j g) ei ∙ drop_min from g in
      ap (λ (j : ℕ). take j (drop i g)) (ek ∙ ap (min n) (sym (length-drop i g))) ∙ take_min n (drop i g) ∙ ap (take n) rest

  -- cut out as far as the place i + k, and applied
  pub part-applied : (t w : List ℕ) (r : Answer) (t' w' : List ℕ) → ApplyPost (take (i + k - i) (drop i g)) t w r t' w'
      → ApplyPost (take n (drop from g)) t w r t' w'
  part-applied t w r t' w' p =
      let size : i + k - i ≡ k = omega arith in
      subst (λ (m : List ℕ). ApplyPost m t w r t' w') (ap (λ (j : ℕ). take j (drop i g)) size ∙ bytes-part) p

-- ---- their numbers fit

-- a test that all pass is passed by a part of them
every-part : {A : Type 0} (f : A → Bool) (a b : ℕ) (l : List A) → every f l ≡ true → every f (take b (drop a l)) ≡ true
every-part f a b l h =
    let behind : every f (drop a l) ≡ true = every-right f (take a l) (drop a l) (rw take-append-drop h) in
    every-left f (take b (drop a l)) (drop b (drop a l)) (rw take-append-drop behind)

-- bytes
all-bytes : (g : List ℕ) → ((i : ℕ) → get_or g i 0 < 256) → every (λ b. ltb b 256) g ≡ true
all-bytes [] h = refl
all-bytes (x ∷ g) h = and_both (ltb x 256) (every (λ b. ltb b 256) g) (lt-ltb x 256 (h 0)) (all-bytes g (λ i. h (suc i)))

-- a number of four bytes is within its 32 bits
pub signed-fits-word : (v : ℕ) → v < 4294967296 → signed32 (to_z w32 v) ≡ true
signed-fits-word v h = fits_signed (to_z w32 v) (to_z-Fits w32 v (record { fits = h }))

module _ (g : List ℕ) (bytes : (i : ℕ) → get_or g i 0 < 256) where
  range-fits : (at : ℕ) → range_fits (range_in g at) ≡ true
  unfolding range_in range_fits
  range-fits at =
      let fits : (i : ℕ) → signed32 (to_z w32 (be 4 g i)) ≡ true = λ i. signed-fits-word (be 4 g i) (be-lt 4 g i bytes) in
      and_both (signed32 (to_z w32 (be 4 g at)) && signed32 (to_z w32 (be 4 g (at + 4)))) (signed32 (to_z w32 (be 4 g (at + 8))))
      (and_both (signed32 (to_z w32 (be 4 g at))) (signed32 (to_z w32 (be 4 g (at + 4)))) (fits at) (fits (at + 4)))
      (fits (at + 8))

  all_fit : every range_fits (all_ranges g) ≡ true
  all_fit =
      every-records range_fits (range_in g) 12 (length g / 12) 0
      ∙ tests-make (λ i. range_fits (range_in g i)) 12 (length g / 12) 0 (λ i h. range-fits (0 + 12 * i))

  pub ranges-fit : (a b : ℕ) → every range_fits (take b (drop a (all_ranges g))) ≡ true
  ranges-fit a b = every-part range_fits a b (all_ranges g) all_fit

  pub message-fits : (a b : ℕ) → arguments_fit (apply (take b (drop a g))) ≡ true
  unfolding arguments_fit
  message-fits a b = every-part (λ (x : ℕ). ltb x 256) a b g (all-bytes g bytes)
