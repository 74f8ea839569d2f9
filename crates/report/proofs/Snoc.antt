-- Reports one behind the other: the ranges of a list in two parts, and up to one of them.
-- Assumes nothing.
use mathlib.Core.Path.{◌≡◌, refl, ap, sym, ◌∙◌}
use mathlib.Core.Bool.{true, false}
use mathlib.Core.List.{List, [], ◌∷◌, ◌++◌}
use Prim.Native.Nat.{ℕ, zero, suc, ◌+◌, ◌-◌, ◌≤◌, ◌<◌}
use native.Mathlib.Numerals.{add-one}
use native.Mathlib.Omega.{arith}
use lib.ListN.{length, take, drop, get_or, length-append}
use lib.Seq.{take-suc, take-add}
use Rattle.block.specs.Header.{head_of}
use Rattle.block.specs.HeaderRules.{header_ok}
use Rattle.tree.specs.Walk.{Walk, walked, is_broken, spots}
use Rattle.ranges.specs.Ranges.{range_at, no_range}
use Rattle.ranges.specs.declared.Range.{Range}
use Rattle.report.specs.Joined.{both, report_of, joined, counts_of}
use Rattle.report.proofs.Both.{both-assoc, none_both, both-none, both-broken, first-whole, both-spots, head-whole}
use Rattle.report.proofs.Joined.{count-each-long}

-- ---- the counts

pub counts-append : (t : List ℕ) (xs ys : List Range) → counts_of t (xs ++ ys) ≡ counts_of t xs ++ counts_of t ys
counts-append t [] ys = refl
counts-append t (x ∷ xs) ys = ap (λ (l : List ℕ). length (spots (report_of t x)) ∷ l) (counts-append t xs ys)

pub counts-length : (t : List ℕ) (rs : List Range) → length (counts_of t rs) ≡ length rs
counts-length t rs = count-each-long (λ r. spots (report_of t r)) rs

pub counts-at : (t : List ℕ) (rs : List Range) (i : ℕ) → i < length rs → get_or (counts_of t rs) i 0 ≡ length (spots (report_of t (range_at rs i)))
counts-at t [] i h = let z : ⊥ = omega arith in absurd z
counts-at t (r ∷ rs) zero h = refl
counts-at t (r ∷ rs) (suc i) h = counts-at t rs i (omega arith)

-- ---- reports of which none is broken, or only the last ones

module _ (t : List ℕ) (ok : header_ok (length t) (head_of t) ≡ true) where
  pub joined-none : joined t [] ≡ walked [] []
  joined-none = head-whole t ok

  pub joined-append : (xs ys : List Range) → joined t (xs ++ ys) ≡ both (joined t xs) (joined t ys)
  joined-append [] ys = sym (ap (λ (w : Walk). both w (joined t ys)) joined-none ∙ none_both (joined t ys))
  joined-append (x ∷ xs) ys = ap (both (report_of t x)) (joined-append xs ys) ∙ sym (both-assoc (report_of t x) (joined t xs) (joined t ys))

  joined-one : (r : Range) → joined t (r ∷ []) ≡ report_of t r
  joined-one r = ap (both (report_of t r)) joined-none ∙ both-none (report_of t r)

  module _ (rs : List Range) where
    -- one more of them
    pub joined-more : (i : ℕ) → i < length rs → joined t (take (i + 1) rs) ≡ both (joined t (take i rs)) (report_of t (range_at rs i))
    joined-more i h =
        ap (joined t) (ap (λ (k : ℕ). take k rs) (add-one i) ∙ take-suc rs i no_range h) ∙ joined-append (take i rs) (range_at rs i ∷ []) ∙
        ap (both (joined t (take i rs))) (joined-one (range_at rs i))

    -- up to i, and on to n
    parted : (i n : ℕ) → i ≤ n → joined t (take n rs) ≡ both (joined t (take i rs)) (joined t (take (n - i) (drop i rs)))
    parted i n h =
        let e : n ≡ i + (n - i) = omega arith in
        ap (λ (k : ℕ). joined t (take k rs)) e ∙ ap (joined t) (take-add i (n - i) rs) ∙ joined-append (take i rs) (take (n - i) (drop i rs))

    pub broken-later : (i n : ℕ) → i ≤ n → is_broken (joined t (take i rs)) ≡ true → is_broken (joined t (take n rs)) ≡ true
    broken-later i n h b = ap is_broken (parted i n h) ∙ both-broken (joined t (take i rs)) (joined t (take (n - i) (drop i rs))) ∙ rw b

    module _ (i n : ℕ) (h : i ≤ n) (whole : is_broken (joined t (take n rs)) ≡ false) where
      pub whole-sooner : is_broken (joined t (take i rs)) ≡ false
      whole-sooner = first-whole (joined t (take i rs)) (joined t (take (n - i) (drop i rs))) (sym (ap is_broken (parted i n h)) ∙ whole)

      pub fewer-sooner : length (spots (joined t (take i rs))) ≤ length (spots (joined t (take n rs)))
      fewer-sooner =
          let u : Walk = joined t (take i rs) in
          let v : Walk = joined t (take (n - i) (drop i rs)) in
          let e : length (spots (joined t (take n rs))) ≡ length (spots u ++ spots v)
          = ap (λ (w : Walk). length (spots w)) (parted i n h) ∙ ap length (both-spots u v (sym (ap is_broken (parted i n h)) ∙ whole)) in
          omega (arith, length-append (spots u) (spots v))

pub counts-more : (t : List ℕ) (rs : List Range) (i : ℕ) → i < length rs
    → counts_of t (take (i + 1) rs) ≡ counts_of t (take i rs) ++ (length (spots (report_of t (range_at rs i))) ∷ [])
counts-more t rs i h =
    ap (counts_of t) (ap (λ (k : ℕ). take k rs) (add-one i) ∙ take-suc rs i no_range h) ∙ counts-append t (take i rs) (range_at rs i ∷ [])
