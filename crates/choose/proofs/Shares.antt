-- Where the lows rise, every key lies in the range of one child: the shares of all children together are the keys, and so the fullest child has no less than
-- the mean.
-- Assumes nothing.
use mathlib.Core.Path.{◌≡◌, refl}
use mathlib.Core.Logic.{⊎_elim}
use mathlib.Core.Bool.{true}
use mathlib.Core.List.{List, [], ◌∷◌}
use Prim.Native.Nat.{ℕ, zero, suc, ◌+◌, ◌*◌, ◌/◌, ◌≤◌, ◌<◌}
use native.Mathlib.Nat.{le_of_suc-le-suc, not-suc-le-zero, suc-mul, div-le_of_le-mul}
use native.Mathlib.Omega.{arith}
use lib.Dec.{ltb}
use lib.ListN.{length, drop, get_or}
use borrow.Author.Tests.{ltb-true, lt-ltb}
use Rattle.octets.specs.Lists.{rest, rising, rising_from}
use Rattle.octets.proofs.Order.{less-or-not}
use Rattle.octets.proofs.Rising.{rising-first, rising-rest}
use Rattle.octets.proofs.Tests.{length-keep-imp}
use Rattle.block.specs.declared.Entry.{Entry}
use Rattle.block.specs.NodeRules.{lows}
use Rattle.tree.specs.Part.{next_low}
use Rattle.buffer.specs.Buffer.{below}
use Rattle.buffer.proofs.Counts.{below-le, below_at, past-at}
use Rattle.choose.specs.Choices.{ChildFor, Fullest, start_at, end_at, share}
use Rattle.choose.proofs.Chosen.{end-in, end-out, start-later}

-- f 0 + f 1 + .. of the first m
abbrev pub sum_to : (ℕ → ℕ) → ℕ → ℕ
sum_to f zero = 0
sum_to f (suc m) = sum_to f m + f m

sum-le : (f : ℕ → ℕ) (top m : ℕ) → ((j : ℕ) → j < m → f j ≤ top) → sum_to f m ≤ m * top
sum-le f top zero h = omega arith
sum-le f top (suc m) h =
    let r = sum-le f top m (λ j g. h j (omega arith)) in
    let e : suc m * top ≡ m * top + top = suc-mul m top in
    omega (arith, h m (omega arith))

-- fewer are below a lower key
pub below_up : (a b : ℕ) (ks : List ℕ) → a ≤ b → below a ks ≤ below b ks
below_up a b ks h = length-keep-imp (λ j. ltb j a) (λ j. ltb j b) (λ x e. let g = ltb-true x a e in lt-ltb x b (omega arith)) ks

-- each low is at most the next
up_step : (es : List Entry) (a i : ℕ) → rising_from a (lows es) ≡ true → suc i < length es → next_low (drop i es) 0 ≤ next_low (drop (suc i) es) 0
up_step [] a i r h = absurd (not-suc-le-zero h)
up_step (e ∷ []) a i r h = absurd (not-suc-le-zero (le_of_suc-le-suc h))
up_step (e ∷ f ∷ es) a zero r h = let g = rising-first (suc e.low) f.low (lows es) (rising-rest a e.low (f.low ∷ lows es) r) in omega arith
up_step (e ∷ f ∷ es) a (suc i) r h = up_step (f ∷ es) (suc e.low) i (rising-rest a e.low (f.low ∷ lows es) r) (le_of_suc-le-suc h)

later-step : (es : List Entry) (i : ℕ) → rising (rest (lows es)) ≡ true → suc (suc i) < length es → next_low (drop (suc i) es) 0 ≤ next_low (drop (suc (suc i)) es) 0
later-step [] i r h = absurd (not-suc-le-zero h)
later-step (e ∷ es) i r h = up_step es 0 i r (le_of_suc-le-suc h)

module _ (es : List Entry) (ks : List ℕ) (n : ℕ) (up : rising (rest (lows es)) ≡ true) (e : n ≡ length ks) where
  pub start-le : (i : ℕ) → start_at es ks i ≤ n
  start-le zero = omega arith
  start-le (suc i) = omega (arith, below-le (next_low (drop (suc i) es) 0) ks)

  start_up : (i : ℕ) → suc i < length es → start_at es ks i ≤ start_at es ks (suc i)
  start_up zero h = omega arith
  start_up (suc i) h = below_up (next_low (drop (suc i) es) 0) (next_low (drop (suc (suc i)) es) 0) ks (later-step es i up h)

  pub end-le : (i : ℕ) → end_at es ks n i ≤ n
  end-le i =
      ⊎_elim
      (λ (h : length es ≤ i). let q = end-out es ks n i h in omega arith)
      (λ (h : i < length es). let q = end-in es ks n i h in omega (arith, below-le (next_low (drop i es) 0) ks))
      (less-or-not (length es) i)

  -- a child's keys begin no later than they end
  pub start-end : (i : ℕ) → start_at es ks i ≤ end_at es ks n (suc i)
  start-end i =
      ⊎_elim
      (λ (h : length es ≤ suc i). let q = end-out es ks n (suc i) h in omega (arith, start-le i))
      (λ (h : suc i < length es). let q : end_at es ks n (suc i) ≡ start_at es ks (suc i) = end-in es ks n (suc i) h in omega (arith, start_up i h))
      (less-or-not (length es) (suc i))

  -- the keys between are in its range
  pub share-for : rising ks ≡ true → (i p : ℕ) → i < length es → start_at es ks i ≤ p → p < end_at es ks n (suc i) → ChildFor es (get_or ks p 0) i
  share-for r i p h s t =
      let k = get_or ks p 0 in
      let w : p < length ks = omega (arith, end-le (suc i)) in
      let at = below_at ks r p w k refl in
      let past = past-at ks r p w k refl in
      record {
        there = h;
        from = λ g.
            let low = next_low (drop i es) 0 in
            let q : below low ks ≡ start_at es ks i = start-later es ks n i (λ z. omega arith) in
            ⊎_elim (λ (z : low ≤ k). z) (λ (z : k < low). absurd (omega (arith, below_up (suc k) low ks z))) (less-or-not low k);
        to = λ g.
            let low = next_low (drop (suc i) es) 0 in
            let q = end-in es ks n (suc i) g in
            ⊎_elim (λ (z : low ≤ k). absurd (omega (arith, below_up low k ks z))) (λ (z : k < low). z) (less-or-not low k);
      }

  -- the shares of the first children are the keys before the next one's range
  shares-before : (i : ℕ) → i < length es → sum_to (share es ks n) i ≡ start_at es ks i
  shares-before zero h = refl
  shares-before (suc i) h =
      let r = shares-before i (omega arith) in
      let q : end_at es ks n (suc i) ≡ start_at es ks (suc i) = end-in es ks n (suc i) h in
      omega (arith, start_up i h)

  -- and those of all are the keys
  pub shares-all : 0 < length es → sum_to (share es ks n) (length es) ≡ n
  shares-all h = go (length es) refl h
    where
      go : (m : ℕ) → m ≡ length es → 0 < m → sum_to (share es ks n) m ≡ n
      go zero w p = absurd (not-suc-le-zero p)
      go (suc m) w p =
          let r = shares-before m (omega arith) in
          let q : end_at es ks n (suc m) ≡ n = end-out es ks n (suc m) (omega arith) in
          omega (arith, start-le m)

  -- the fullest child has no less than the mean
  pub fullest-mean : (i : ℕ) → Fullest es ks n i → n ≤ length es * share es ks n i
  fullest-mean i f =
      let s = shares-all (omega (arith, f.there)) in
      omega (arith, sum-le (share es ks n) (share es ks n i) (length es) f.most)

  pub fullest-share : (i : ℕ) → Fullest es ks n i → n / length es ≤ share es ks n i
  fullest-share i f = div-le_of_le-mul (length es) (fullest-mean i f)
