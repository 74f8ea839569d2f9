-- The model's orders, equality and bytes, which are written over whole numbers, are those of keys.
-- Assumes nothing.
use mathlib.Core.Path.{◌≡◌, refl, sym, ap, ap₂, ◌∙◌}
use mathlib.Core.Logic.{⊎_elim}
use mathlib.Core.Bool.{Bool, true, false, not, ◌&&◌, ◌||◌}
use mathlib.Core.List.{List, ◌++◌}
use Prim.Native.Nat.{ℕ, suc, ◌+◌, ◌-◌, ◌/◌, ◌%◌, ◌≤◌, ◌<◌}
use native.Mathlib.Omega.{arith}
use lib.Dec.{leb, ltb, eqb}
use borrow.Author.Tests.{le-leb, lt-leb, ne_eqb}
use lib.IntN.{ℤ, pos, negsuc}
use lib.Signed.{le_z, lt_z}
use Rattle.octets.specs.Bytes.{bytes_of}
use Rattle.octets.proofs.Order.{less-or-not, eqb_same, not-leb}
use Rattle.spot.specs.Keys.{half, biased, unbiased, key, top_key, turned, in_limits}
use Rattle.spot.specs.Spots.{key_bytes}
use Rattle.spot.specs.Query.{query, from_of}
use Rattle.spot.proofs.Signed.{Fits}
use Rattle.spot.proofs.Orders.{key-place, key-rank, place-order, same-identity, from-words, under-words}
use Rattle.spot.proofs.TopKeys.{top-order}
use Rattle.demands.specs.Model.{eq_z, outside, four_bytes, complement}

-- the model's equality of whole numbers
pub eq_z-biased : (x y : ℤ) → Fits x → Fits y → eq_z x y ≡ eqb (biased x) (biased y)
unfolding eq_z
eq_z-biased (pos a) (pos b) f g = eqb_same a b (2147483648 + a) (2147483648 + b) (λ h. omega arith) (λ h. omega arith)
eq_z-biased (pos a) (negsuc b) f g = sym (ne_eqb (2147483648 + a) (2147483648 - suc b) (λ h. omega arith))
eq_z-biased (negsuc a) (pos b) f g = sym (ne_eqb (2147483648 - suc a) (2147483648 + b) (λ h. omega arith))
eq_z-biased (negsuc a) (negsuc b) f g =
    eqb_same a b (2147483648 - suc a) (2147483648 - suc b) (λ h. omega arith) (λ h. omega (arith, f.sfits, g.sfits))

-- below is not from there up
lt_z-not : (x y : ℤ) → lt_z x y ≡ not (le_z y x)
lt_z-not (pos a) (pos b) = sym (not-leb b a)
lt_z-not (pos a) (negsuc b) = refl
lt_z-not (negsuc a) (pos b) = refl
lt_z-not (negsuc a) (negsuc b) = sym (not-leb a b)

pub not-both : (a b : Bool) → not a || not b ≡ not (a && b)
not-both true b = refl
not-both false b = refl

-- outside the limits is not inside them
pub outside-limits : (place : ℤ) → outside place ≡ not (in_limits place)
unfolding outside in_limits
outside-limits place =
    ap₂ (λ (a b : Bool). a || b) (lt_z-not place (negsuc 999999)) (lt_z-not (pos 1000000) place) ∙ not-both (le_z (negsuc 999999) place) (le_z place (pos 1000000))

-- what is moved down keeps its order, whatever its size
pub unbiased-rises : (u v : ℕ) → u ≤ v → le_z (unbiased u) (unbiased v) ≡ true
unfolding unbiased
unbiased-rises u v l =
    ⊎_elim (λ (h : half ≤ u). rw (le-leb half u h, le-leb half v (omega arith)) (le-leb (u - half) (v - half) (omega arith)))
    (λ (h : u < half).
    ⊎_elim (λ (m : half ≤ v). rw (lt-leb half u h, le-leb half v m)) (λ (m : v < half). rw (lt-leb half u h, lt-leb half v m) (le-leb (half - suc v) (half - suc u) (omega arith)))
    (less-or-not half v))
    (less-or-not half u)

module _ (p r q s : ℤ) (fp : Fits p) (fr : Fits r) (fq : Fits q) (fs : Fits s) where
  -- place order, "places, then ranks", is the order of keys
  pub model-places : lt_z p q || (eq_z p q && lt_z r s) ≡ ltb (key p r) (key q s)
  model-places = rw (eq_z-biased p q fp fq) (place-order p r q s fp fr fq fs)

  -- the order of Top's answers, "among equal ranks the lower place first", is that of top keys
  pub model-tops : lt_z r s || (eq_z r s && lt_z q p) ≡ ltb (top_key (key p r)) (top_key (key q s))
  model-tops = rw (eq_z-biased r s fr fs) (top-order p r q s fp fr fq fs)

  -- one identity, one key
  pub model-identity : eq_z p q && eq_z r s ≡ eqb (key p r) (key q s)
  model-identity = rw (eq_z-biased p q fp fq, eq_z-biased r s fr fs) (same-identity p r q s fp fr fq fs)

-- the places from x1 up, and the others, are the keys from the first of a query up, and the others
module _ (x1 x2 y p r : ℤ) (f1 : Fits x1) (fp : Fits p) (fr : Fits r) where
  pub model-from : le_z x1 p ≡ leb (from_of (query x1 x2 y)) (key p r)
  unfolding query from_of
  model-from = from-words x1 p r f1 fp fr

  pub model-under : lt_z p x1 ≡ ltb (key p r) (from_of (query x1 x2 y))
  unfolding query from_of
  model-under = under-words x1 p r f1 fp fr

-- ---- bytes

-- the model's four bytes
pub four_bytes_lem : (v : ℕ) → four_bytes v ≡ bytes_of 4 v
unfolding four_bytes bytes_of
four_bytes_lem v =
    let a : v / 16777216 % 256 ≡ v / 256 / 256 / 256 % 256 = omega arith in
    let b : v / 65536 % 256 ≡ v / 256 / 256 % 256 = omega arith in
    rw (a, b)

pub turned-biased : (z : ℤ) → Fits z → complement z ≡ turned (biased z)
unfolding complement
turned-biased (pos n) f = omega (arith, f.sfits)
turned-biased (negsuc n) f = omega (arith, f.sfits)

-- a place and a rank in two's complement are a key's bytes
pub key-bytes : (p r : ℤ) → Fits p → Fits r → four_bytes (complement p) ++ four_bytes (complement r) ≡ key_bytes (key p r)
unfolding key_bytes
key-bytes p r fp fr =
    ap₂ (λ (x y : List ℕ). x ++ y)
    (four_bytes_lem (complement p) ∙ ap (bytes_of 4) (turned-biased p fp ∙ ap turned (sym (key-place p r fr))))
    (four_bytes_lem (complement r) ∙ ap (bytes_of 4) (turned-biased r fr ∙ ap turned (sym (key-rank p r fr))))
