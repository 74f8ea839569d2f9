-- The first n of a list, all of them where it has fewer: lent, left, and put back.
-- Assumes nothing.
use mathlib.Core.Path.{◌≡◌, refl, sym, ap, ◌∙◌}
use mathlib.Core.List.{List, [], ◌∷◌, ◌++◌}
use Prim.Native.Nat.{ℕ, zero, suc, min}
use native.Mathlib.Nat.{zero-min, min-zero, suc-min-suc, min-le_right}
use native.Mathlib.Omega.{arith}
use lib.ListN.{length, take, drop, length-append, length-take, length-drop, take-append-drop}
use lib.Seq.{length-take-le, take_at, drop_at}

module _ {A : Type 0} where
  pub take_min : (n : ℕ) (s : List A) → take (min n (length s)) s ≡ take n s
  take_min zero s = ap (λ (k : ℕ). take k s) (zero-min (length s))
  take_min (suc n) [] = ap (λ (k : ℕ). take {A = A} k []) (min-zero (suc n))
  take_min (suc n) (x ∷ s) = ap (λ (k : ℕ). take k (x ∷ s)) (suc-min-suc n (length s)) ∙ ap (λ (l : List A). x ∷ l) (take_min n s)

  pub drop_min : (n : ℕ) (s : List A) → drop (min n (length s)) s ≡ drop n s
  drop_min zero s = ap (λ (k : ℕ). drop k s) (zero-min (length s))
  drop_min (suc n) [] = ap (λ (k : ℕ). drop {A = A} k []) (min-zero (suc n))
  drop_min (suc n) (x ∷ s) = ap (λ (k : ℕ). drop k (x ∷ s)) (suc-min-suc n (length s)) ∙ drop_min n s

-- what lies behind them
pub drop-lent : (n : ℕ) (s : List ℕ) → drop (length (take n s)) s ≡ drop n s
drop-lent n s = ap (λ (k : ℕ). drop k s) (length-take n s) ∙ drop_min n s

-- those of s', with what lies behind those of s, where s' has the same there
pub put_back : (n : ℕ) (s s' : List ℕ) → drop n s' ≡ drop n s → s' ≡ take n s' ++ drop (length (take n s)) s
put_back n s s' e = sym (ap (λ (l : List ℕ). take n s' ++ l) (drop-lent n s ∙ sym e) ∙ take-append-drop n s')

-- their number
pub front_long : (n k : ℕ) (s : List ℕ) → k ≡ min n (length s) → k ≡ length (take k s)
front_long n k s e = sym (length-take-le k s (omega (arith, min-le_right n (length s))))

-- a front of k bytes, lent and left as p
module _ (n k : ℕ) (s p : List ℕ) (e : k ≡ min n (length s)) (same : length p ≡ length (take k s)) where
  pub front-lent : take k s ≡ take n s
  front-lent = ap (λ (j : ℕ). take j s) e ∙ take_min n s

  long : length p ≡ min n (length s)
  long = same ∙ ap length front-lent ∙ length-take n s

  -- so many bytes of the whole are the front
  reach : min n (length (p ++ drop k s)) ≡ length p
  reach =
      let whole : length (p ++ drop k s) ≡ length s =
      omega (arith, length-append p (drop k s), length-drop k s, long, min-le_right n (length s))
      in
      ap (min n) whole ∙ sym long

  pub front-left : take n (p ++ drop k s) ≡ p
  front-left = sym (take_min n (p ++ drop k s)) ∙ ap (λ (j : ℕ). take j (p ++ drop k s)) reach ∙ take_at p (drop k s) (length p) refl

  pub rest-left : drop n (p ++ drop k s) ≡ drop n s
  rest-left =
      sym (drop_min n (p ++ drop k s)) ∙ ap (λ (j : ℕ). drop j (p ++ drop k s)) reach ∙ drop_at p (drop k s) (length p) refl
      ∙ ap (λ (j : ℕ). drop j s) e
      ∙ drop_min n s
