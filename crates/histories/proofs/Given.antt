-- The spots that a call gave, as those that read them need it.
-- Assumes nothing.
use Rattle.std.proofs.Common.{◌≡◌, ℕ, ◌-◌, ◌*◌, ◌/◌, ◌<◌, ◌≤◌, true, false, not, ◌||◌, eqb, ltb, List, ℤ, ap, ◌∙◌, arith, w32, to_z, of_z, ltb-false, eqb-true}
use mir.ValLaws.{to_z-of_z}
use borrow.Author.Tests.{not-false}
use Rattle.octets.proofs.Tests.{neither}
use Rattle.spot.specs.Keys.{word, place_of, in_limits, limited}
use Rattle.spot.specs.Spots.{key_at, limited_from}
use Rattle.spot.proofs.Signed.{Fits, unbiased-fits}
use Rattle.spot.proofs.Limits.{limited-small}
use Rattle.sort.proofs.Limits.{limits-at}
use Rattle.block.specs.declared.Answer.{Answer}
use Rattle.table.specs.Queries.{GivenInside}

-- what is known past the test that the call was accepted and gave no more spots than a list has
pub few-given : (r : Answer) (out : List ℕ) → GivenInside r out → not (eqb r.number 0) || ltb 4784 r.detail ≡ false
    → (r.detail ≤ 4784) × (limited_from out 12 r.detail 0 ≡ true)
few-given r out g e =
    let a = neither (not (eqb r.number 0)) (ltb 4784 r.detail) e in
    let h = g (eqb-true r.number 0 (not-false (eqb r.number 0) a.0)) in
    (ltb-false 4784 r.detail a.1, h.1)

-- the last of n spots
pub last-at : (s : List ℕ) (n : ℕ) → limited_from s 12 n 0 ≡ true → 0 < n → limited (key_at s (12 * n - 12)) ≡ true
last-at s n h l =
    let e : 12 * n - 12 ≡ 12 * (n - 1) = omega arith in
    ap (λ (k : ℕ). limited (key_at s k)) e ∙ limits-at s n h (n - 1) (omega arith)

-- the place of such a key, as the next call is given it
pub place_inside : (k : ℕ) (place : ℤ) → place ≡ place_of k → limited k ≡ true → in_limits (to_z w32 (of_z w32 place)) ≡ true
unfolding limited place_of
place_inside k place e h =
    let f : Fits (place_of k) = unbiased-fits (k / word) (omega (arith, limited-small k h)) in
    ap (λ (x : ℤ). in_limits (to_z w32 (of_z w32 x))) e ∙ ap in_limits (to_z-of_z w32 (place_of k) f) ∙ h
