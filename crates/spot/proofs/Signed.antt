-- Signed numbers of 32 bits: moved up by 2 ^ 31, in two's complement, and as the machine computes with them at 64 bits.
-- Assumes nothing.
use Rattle.std.proofs.Common.{◌≡◌, ℕ, suc, ◌+◌, ◌-◌, ◌<◌, ◌≤◌, true, ltb, leb, ℤ, pos, negsuc, ◌+ℤ◌, ◌-ℤ◌, sym, refl, ap, ◌∙◌, ⊎_elim, arith, w32, w64, SFits, to_z, of_z, le-ltb, lt-ltb, le-leb, leb-true}
use lib.Signed.{le_z, lt_z}
use borrow.Author.Tests.{lt-leb}
use mir.ValLaws.{to_z-of_z, to_z_pos}
use Rattle.octets.proofs.Order.{less-or-not, leb-same, ltb-same}
use Rattle.octets.proofs.Tests.{and_left, and_both}
use Rattle.spot.specs.Keys.{half, word, signed32, biased, unbiased, turned}

-- a signed number of 32 bits
abbrev pub Fits : ℤ → Type 0
Fits z = SFits w32 z

pub signed-fits : (z : ℤ) → signed32 z ≡ true → Fits z
unfolding signed32
signed-fits (pos n) h = record { sfits = let l : n ≤ 2147483647 = leb-true n 2147483647 h in omega arith }
signed-fits (negsuc n) h = record { sfits = let l : n ≤ 2147483647 = leb-true n 2147483647 (and_left (leb n 2147483647) true h) in omega arith }

pub fits_signed : (z : ℤ) → Fits z → signed32 z ≡ true
unfolding signed32
fits_signed (pos n) f = le-leb n 2147483647 (omega (arith, f.sfits))
fits_signed (negsuc n) f = and_both (leb n 2147483647) true (le-leb n 2147483647 (omega (arith, f.sfits))) refl

-- ---- moved up, and back

pub biased-lt : (z : ℤ) → Fits z → biased z < 4294967296
biased-lt (pos n) f = omega (arith, f.sfits)
biased-lt (negsuc n) f = omega (arith, f.sfits)

pub biased-inj : (x y : ℤ) → Fits x → Fits y → biased x ≡ biased y → x ≡ y
biased-inj (pos a) (pos b) f g e = ap pos (omega arith)
biased-inj (pos a) (negsuc b) f g e = absurd (omega arith)
biased-inj (negsuc a) (pos b) f g e = absurd (omega arith)
biased-inj (negsuc a) (negsuc b) f g e = ap negsuc (omega (arith, f.sfits, g.sfits))

pub unbiased-high : (u : ℕ) → half ≤ u → unbiased u ≡ pos (u - half)
unfolding unbiased
unbiased-high u h = rw (le-leb half u h)

pub unbiased-low : (u : ℕ) → u < half → unbiased u ≡ negsuc (half - suc u)
unfolding unbiased
unbiased-low u h = rw (lt-leb half u h)

pub unbiased-biased : (z : ℤ) → Fits z → unbiased (biased z) ≡ z
unbiased-biased (pos n) f = unbiased-high (half + n) (omega arith) ∙ ap pos (omega arith)
unbiased-biased (negsuc n) f = unbiased-low (half - suc n) (omega (arith, f.sfits)) ∙ ap negsuc (omega (arith, f.sfits))

pub biased-unbiased : (u : ℕ) → biased (unbiased u) ≡ u
biased-unbiased u =
    ⊎_elim (λ (h : half ≤ u). ap biased (unbiased-high u h) ∙ omega arith) (λ (h : u < half). ap biased (unbiased-low u h) ∙ omega arith)
    (less-or-not half u)

pub unbiased-fits : (u : ℕ) → u < word → Fits (unbiased u)
unbiased-fits u l =
    ⊎_elim (λ (h : half ≤ u). rw (unbiased-high u h) (record { sfits = omega arith }))
    (λ (h : u < half). rw (unbiased-low u h) (record { sfits = omega arith })) (less-or-not half u)

-- ---- two's complement

pub turned_lt : (u : ℕ) → turned u < 4294967296
turned_lt u = omega arith

pub turned-turned : (u : ℕ) → u < 4294967296 → turned (turned u) ≡ u
turned-turned u h = omega arith

to_z-high : (u : ℕ) → 2147483648 ≤ u → to_z w32 u ≡ negsuc (4294967295 - u)
to_z-high u h = rw (le-ltb u 2147483648 h) (ap negsuc (omega arith))

pub to_z-turned : (u : ℕ) → u < 4294967296 → to_z w32 u ≡ unbiased (turned u)
to_z-turned u l =
    ⊎_elim (λ (h : half ≤ u). to_z-high u h ∙ sym (unbiased-low (turned u) (omega arith) ∙ ap negsuc (omega arith)))
    (λ (h : u < half). to_z_pos w32 u h ∙ sym (unbiased-high (turned u) (omega arith) ∙ ap pos (omega arith))) (less-or-not half u)

-- a signed argument comes back from its bits
pub biased-back : (z : ℤ) {u : ℕ} → Fits z → u ≡ biased (to_z w32 (of_z w32 z)) → u ≡ biased z
biased-back z f p = p ∙ ap biased (to_z-of_z w32 z f)

-- ---- the order

-- the test of ℤ's order is the test of the numbers moved up
pub le_z-biased : (x y : ℤ) → Fits x → Fits y → le_z x y ≡ leb (biased x) (biased y)
le_z-biased (pos a) (pos b) f g = leb-same a b (2147483648 + a) (2147483648 + b) (λ h. omega arith) (λ h. omega arith)
le_z-biased (pos a) (negsuc b) f g = sym (lt-leb (2147483648 + a) (2147483648 - suc b) (omega arith))
le_z-biased (negsuc a) (pos b) f g = sym (le-leb (2147483648 - suc a) (2147483648 + b) (omega arith))
le_z-biased (negsuc a) (negsuc b) f g =
    leb-same b a (2147483648 - suc a) (2147483648 - suc b) (λ h. omega arith) (λ h. omega (arith, f.sfits, g.sfits))

pub lt_z-biased : (x y : ℤ) → Fits x → Fits y → lt_z x y ≡ ltb (biased x) (biased y)
lt_z-biased (pos a) (pos b) f g = ltb-same a b (2147483648 + a) (2147483648 + b) (λ h. omega arith) (λ h. omega arith)
lt_z-biased (pos a) (negsuc b) f g = sym (le-ltb (2147483648 + a) (2147483648 - suc b) (omega arith))
lt_z-biased (negsuc a) (pos b) f g = sym (lt-ltb (2147483648 - suc a) (2147483648 + b) (omega arith))
lt_z-biased (negsuc a) (negsuc b) f g =
    ltb-same b a (2147483648 - suc a) (2147483648 - suc b) (λ h. omega (arith, f.sfits, g.sfits)) (λ h. omega arith)

-- ---- at 64 bits

pub wide64 : (z : ℤ) → Fits z → SFits w64 z
wide64 z f = record { sfits = omega (arith, f.sfits) }

-- a signed number of 32 bits comes back from its 64 bits
wide_back : (z : ℤ) → Fits z → to_z w64 (of_z w64 (to_z w32 (of_z w32 z))) ≡ z
wide_back z f = ap (λ (x : ℤ). to_z w64 (of_z w64 x)) (to_z-of_z w32 z f) ∙ to_z-of_z w64 z (wide64 z f)

sum64 : (z : ℤ) → Fits z → z +ℤ pos 2147483648 ≡ pos (biased z)
sum64 (pos n) f = ap pos (omega arith)
sum64 (negsuc n) f = rw (le-ltb 2147483648 (suc n) (omega (arith, f.sfits))) (ap pos (omega (arith, f.sfits)))

-- 2 ^ 31 added, and the sum once more from its bits
pub back64 : (z : ℤ) → Fits z → to_z w64 (of_z w64 (to_z w32 (of_z w32 z))) +ℤ pos 2147483648 ≡ pos (biased z)
back64 z f = ap (λ (x : ℤ). x +ℤ pos 2147483648) (wide_back z f) ∙ sum64 z f

pub end64 : (z : ℤ) → Fits z → to_z w64 (of_z w64 (to_z w64 (of_z w64 (to_z w32 (of_z w32 z))) +ℤ pos 2147483648)) ≡ pos (biased z)
end64 z f =
    ap (λ (x : ℤ). to_z w64 (of_z w64 x)) (back64 z f) ∙ to_z_pos w64 (biased z) (omega (arith, biased-lt z f))

-- 2 ^ 31 taken away
pub less64 : (u : ℕ) → u < 4294967296 → to_z w64 u -ℤ pos 2147483648 ≡ unbiased u
less64 u l =
    ap (λ (x : ℤ). x -ℤ pos 2147483648) (to_z_pos w64 u (omega arith)) ∙
    ⊎_elim (λ (h : half ≤ u). rw (le-ltb u 2147483648 h) (sym (unbiased-high u h)))
    (λ (h : u < half). rw (lt-ltb u 2147483648 h) (sym (unbiased-low u h))) (less-or-not half u)

pub low64 : (u : ℕ) → u < 4294967296 → to_z w64 (of_z w64 (to_z w64 u -ℤ pos 2147483648)) ≡ unbiased u
low64 u l =
    ap (λ (x : ℤ). to_z w64 (of_z w64 x)) (less64 u l) ∙ to_z-of_z w64 (unbiased u) (wide64 (unbiased u) (unbiased-fits u l))
