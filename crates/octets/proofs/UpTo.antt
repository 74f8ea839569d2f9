-- Numbers counted up, and the largest number that passes a test.
-- Assumes nothing.
use mathlib.Core.Path.{◌≡◌, refl, ap, ◌∙◌}
use mathlib.Core.Logic.{◌⊎◌, inl, inr, ⊎_elim}
use mathlib.Core.Bool.{Bool, true, false, cond}
use mathlib.Core.List.Memᴰ
use mathlib.Core.List.{List, ◌∷◌, ◌++◌, Memᴰ}
use Prim.Native.Nat.{ℕ, zero, suc, ◌+◌, ◌≤◌, ◌<◌}
use native.Mathlib.Omega.{arith}
use lib.ListN.{length}
use Rattle.octets.specs.Lists.{every, has, distinct, rising_from, up_to, largest}
use Rattle.octets.proofs.Order.{same_or_not}
use Rattle.octets.proofs.Tests.{every-mem, every-make}
use Rattle.octets.proofs.Sets.{mem-has, has-not}
use Rattle.octets.proofs.Once.{Once}
use Rattle.octets.proofs.Rising.{rising-make, rising-distinct}

-- ---- numbers counted up

pub up_to-in : (i n k : ℕ) → i ≤ k → k < i + n → Memᴰ k (up_to i n)
up_to-in i zero k a b = let z : ⊥ = omega arith in absurd z
up_to-in i (suc n) k a b = ⊎_elim (λ e. Memᴰ.head e) (λ (d : k ≡ i → ⊥). Memᴰ.tail (up_to-in (suc i) n k (omega arith) (omega arith))) (same_or_not k i)

pub up_to-from : (i n : ℕ) {k : ℕ} → Memᴰ k (up_to i n) → (i ≤ k) × (k < i + n)
up_to-from i zero j = absurd (Memᴰ.not-nil j)
up_to-from i (suc n) {k} j =
    ⊎_elim (λ (e : k ≡ i). (omega arith, omega arith)) (λ h. let r = up_to-from (suc i) n h in (omega arith, omega arith)) (Memᴰ.cases_cons j)

pub up_to-length : (i n : ℕ) → length (up_to i n) ≡ n
up_to-length i zero = refl
up_to-length i (suc n) = ap suc (up_to-length (suc i) n)

pub up_to-more : (i a b : ℕ) → up_to i a ++ up_to (i + a) b ≡ up_to i (a + b)
up_to-more i zero b = let e : i + 0 ≡ i = omega arith in let f : 0 + b ≡ b = omega arith in rw (e, f)
up_to-more i (suc a) b =
    let e : i + suc a ≡ suc i + a = omega arith in
    let f : suc a + b ≡ suc (a + b) = omega arith in
    rw (e, f) (ap (λ (l : List ℕ). i ∷ l) (up_to-more (suc i) a b))

up_to-rises : (i n : ℕ) → rising_from i (up_to i n) ≡ true
up_to-rises i zero = refl
up_to-rises i (suc n) = rising-make i i (up_to (suc i) n) (omega arith) (up_to-rises (suc i) n)

pub up_to-distinct : (i n : ℕ) → distinct (up_to i n) ≡ true
up_to-distinct i n = rising-distinct i (up_to i n) (up_to-rises i n)

pub up_to-once : (i n : ℕ) → Once (up_to i n)
up_to-once i zero = tt
up_to-once i (suc n) = (λ k. let r = up_to-from (suc i) n k in omega arith, up_to-once (suc i) n)

pub every-up_to : (f : ℕ → Bool) (i n : ℕ) → ((j : ℕ) → i ≤ j → j < i + n → f j ≡ true) → every f (up_to i n) ≡ true
every-up_to f i n h = every-make f (up_to i n) (λ j k. let r = up_to-from i n k in h j r.0 r.1)

pub below-every : (f : ℕ → Bool) (n : ℕ) → every f (up_to 0 n) ≡ true → (b : ℕ) → b < n → f b ≡ true
below-every f n h b l = every-mem f (up_to 0 n) h (up_to-in 0 n b (omega arith) (omega arith))

-- a test that passes from i on passes from a later number on
pub up_to-later : (f : ℕ → Bool) (i k m n : ℕ) → n ≡ k + m → every f (up_to i n) ≡ true → every f (up_to (k + i) m) ≡ true
up_to-later f i k m n e h =
    every-up_to f (k + i) m (λ j a b. every-mem f (up_to i n) h (up_to-in i n j (omega arith) (omega arith)))

pub has-up_to : (k i n : ℕ) → i ≤ k → k < i + n → has k (up_to i n) ≡ true
has-up_to k i n a b = mem-has k (up_to i n) (up_to-in i n k a b)

pub has-up_to-not : (k i n : ℕ) → (k < i) ⊎ (i + n ≤ k) → has k (up_to i n) ≡ false
has-up_to-not k i n a = has-not k (up_to i n) (λ j. let r = up_to-from i n j in ⊎_elim (λ (l : k < i). omega arith) (λ (l : i + n ≤ k). omega arith) a)

-- ---- the largest number that passes

-- it is one that does, or 0
pub largest-hit : (f : ℕ → Bool) (n : ℕ) → (largest f n ≡ 0) ⊎ (f (largest f n) ≡ true)
largest-hit f zero = inl refl
largest-hit f (suc n) = go (f n) refl (largest-hit f n)
  where
    go : (b : Bool) → f n ≡ b → (largest f n ≡ 0) ⊎ (f (largest f n) ≡ true) → (cond b n (largest f n) ≡ 0) ⊎ (f (cond b n (largest f n)) ≡ true)
    go true e ih = inr e
    go false e ih = ih

pub largest-le : (f : ℕ → Bool) (n : ℕ) → largest f n ≤ n
largest-le f zero = omega arith
largest-le f (suc n) = go (f n) (largest-le f n)
  where
    go : (b : Bool) → largest f n ≤ n → cond b n (largest f n) ≤ suc n
    go true ih = omega arith
    go false ih = omega arith

-- none above it passes
pub largest-above : (f : ℕ → Bool) (n y : ℕ) → largest f n < y → y < n → f y ≡ false
largest-above f zero y a b = let z : ⊥ = omega arith in absurd z
largest-above f (suc n) y a b = go (f n) refl a (largest-above f n y)
  where
    go : (t : Bool) → f n ≡ t → cond t n (largest f n) < y → (largest f n < y → y < n → f y ≡ false) → f y ≡ false
    go true e l ih = let z : ⊥ = omega arith in absurd z
    go false e l ih = ⊎_elim (λ (s : y ≡ n). ap f s ∙ e) (λ (d : y ≡ n → ⊥). ih l (omega arith)) (same_or_not y n)

-- it is settled by the tests from there up
pub largest-same : (f g : ℕ → Bool) (n : ℕ) → ((y : ℕ) → largest f n ≤ y → g y ≡ f y) → largest g n ≡ largest f n
largest-same f g zero h = refl
largest-same f g (suc n) h = go (f n) refl h (largest-same f g n)
  where
    go : (b : Bool) → f n ≡ b → ((y : ℕ) → cond b n (largest f n) ≤ y → g y ≡ f y) → (((y : ℕ) → largest f n ≤ y → g y ≡ f y) → largest g n ≡ largest f n)
        → cond (g n) n (largest g n) ≡ cond b n (largest f n)
    go true e h ih = rw (h n (omega arith) ∙ e)
    go false e h ih = rw (h n (largest-le f n) ∙ e) (ih h)
