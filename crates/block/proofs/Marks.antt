-- What the test of one entry says, rule by rule.
-- Assumes nothing.
use mathlib.Core.Path.{◌≡◌, refl, sym, ap, ◌∙◌}
use mathlib.Core.Logic.{⊎_elim}
use mathlib.Core.Bool.{Bool, true, false, not, ◌&&◌, ◌||◌, and_assoc, and-true}
use mathlib.Core.List.{List}
use Prim.Native.Nat.{ℕ, ◌+◌, ◌*◌, ◌≤◌}
use native.Mathlib.Omega.{arith}
use lib.Dec.{leb, ltb, eqb}
use lib.ListN.{get_or}
use borrow.Author.Tests.{eqb-true, leb-true, eq-eqb}
use Rattle.octets.specs.Lists.{all}
use Rattle.octets.specs.Bytes.{be}
use Rattle.spot.specs.Keys.{rank_key}
use Rattle.spot.specs.Spots.{key_at}
use Rattle.block.specs.Table.{block_ok}
use Rattle.block.specs.Node.{entry_blank}
use Rattle.block.specs.Checks.{other_block, size_at, from_at, next_at, credible_fine, entry_fine, entry_shows}
use Rattle.octets.proofs.Bytes.{be-one}
use Rattle.octets.proofs.Tests.{and_left, and_right, and_both, or-either}

-- e: the child's P is empty; z: its last two fields are zero; f: its size is one of a P; b: its top is below; k: its top and bottom are of a P
make : (e z f b k : Bool) → not e || z ≡ true → e || b ≡ true → e || (f && k) ≡ true → (e && z) || (not e && f && (b && k)) ≡ true
make true true f b k p q r = refl
make true false f b k p q r = p
make false z f b k p q r = and_both f (b && k) (and_left f k r) (and_both b k q (and_right f k r))

blank_of : (e z f b k : Bool) → (e && z) || (not e && f && (b && k)) ≡ true → not e || z ≡ true
blank_of true true f b k p = refl
blank_of true false f b k p = p
blank_of false z f b k p = refl

top_of : (e z f b k : Bool) → (e && z) || (not e && f && (b && k)) ≡ true → e || b ≡ true
top_of true z f b k p = refl
top_of false z f b k p = and_left b k (and_right f (b && k) p)

kept_of : (e z f b k : Bool) → (e && z) || (not e && f && (b && k)) ≡ true → e || (f && k) ≡ true
kept_of true z f b k p = refl
kept_of false z f b k p = and_both f k (and_left f (b && k) p) (and_right b k (and_right f (b && k) p))

-- the test by calls that return the entry's fields
pub entry-made : (blocks own low from next : ℕ) (s : List ℕ) (a : ℕ) {b n z t u x y r : ℕ} {k : Bool} → b ≡ be 2 s a
    → n ≡ get_or s (a + 2) 0 → z ≡ get_or s (a + 3) 0 → t ≡ key_at s (a + 12) → u ≡ key_at s (a + 20) → x ≡ be 8 s (a + 12) → y ≡ be 8 s (a + 20)
    → r ≡ rank_key t → k ≡ credible_fine (n + 256 * z) t u from next
    → (leb 1 b && ltb b blocks && not (eqb own b)) && ((eqb (n + 256 * z) 0 && eqb x 0 && eqb y 0) || (not (eqb (n + 256 * z) 0) && leb (n + 256 * z) 64 && (ltb r low && k)))
    ≡ entry_fine blocks own low from next s a
unfolding entry_fine
entry-made blocks own low from next s a eb en ez et eu ex ey er ek = cc (be-one s (a + 2), be-one s (a + 3))

-- some P agrees with the entry at a
abbrev pub credible_at : ℕ → ℕ → List ℕ → ℕ → Bool
credible_at floor end s a =
    eqb (be 1 s (a + 2)) 0
    || (leb (be 1 s (a + 2)) 64 && credible_fine (be 1 s (a + 2)) (key_at s (a + 12)) (key_at s (a + 20)) (from_at floor s a) (next_at end s a))

module _ (blocks own low floor end : ℕ) (s : List ℕ) (a : ℕ) where
  abbrev inside : Bool
  inside = leb 1 (be 2 s a) && ltb (be 2 s a) blocks

  abbrev gap : Bool
  gap = eqb (be 1 s (a + 3)) 0

  abbrev size : ℕ
  size = be 1 s (a + 2)

  abbrev none : Bool
  none = eqb size 0

  abbrev blanks : Bool
  blanks = eqb (be 8 s (a + 12)) 0 && eqb (be 8 s (a + 20)) 0

  abbrev below : Bool
  below = ltb (rank_key (key_at s (a + 12))) low

  abbrev kept : ℕ → Bool
  kept n = credible_fine n (key_at s (a + 12)) (key_at s (a + 20)) (from_at floor s a) (next_at end s a)

  -- what a size n shows
  abbrev shown : ℕ → Bool
  shown n = (eqb n 0 && blanks) || (not (eqb n 0) && leb n 64 && (below && kept n))

  fine-is : entry_shows blocks own low floor end s a ≡ (inside && other_block own s a) && shown (size_at s a)
  unfolding entry_shows entry_fine
  fine-is =
      let n : ℕ = size_at s a in
      ap (λ (b : Bool). (inside && other_block own s a) && (b || (not (eqb n 0) && leb n 64 && (below && kept n))))
      (and_assoc (eqb n 0) (eqb (be 8 s (a + 12)) 0) (eqb (be 8 s (a + 20)) 0))

  block-is : block_ok blocks (be 2 s a) ≡ inside
  unfolding block_ok all
  block-is = ap (λ (b : Bool). leb 1 (be 2 s a) && b) (and-true (ltb (be 2 s a) blocks))

  -- where the zero byte is zero, the number read is the size
  size_is : gap ≡ true → shown (size_at s a) ≡ shown size
  size_is g = let z : be 1 s (a + 3) ≡ 0 = eqb-true _ _ g in ap shown (let e : size_at s a ≡ size = omega arith in e)

  -- and it is zero, since it makes the number too high for a size
  gap_is : shown (size_at s a) ≡ true → gap ≡ true
  gap_is p =
      let n : ℕ = size_at s a in
      ⊎_elim (λ h. let z : n ≡ 0 = eqb-true _ _ (and_left (eqb n 0) blanks h) in
      let g : be 1 s (a + 3) ≡ 0 = omega arith in
      eq-eqb _ _ g)
      (λ h. let l : n ≤ 64 = leb-true _ _ (and_right (not (eqb n 0)) (leb n 64) (and_left (not (eqb n 0) && leb n 64) (below && kept n) h)) in
      let g : be 1 s (a + 3) ≡ 0 = omega arith in
      eq-eqb _ _ g)
      (or-either (eqb n 0 && blanks) (not (eqb n 0) && leb n 64 && (below && kept n)) p)

  pub fine-make : entry_blank s a ≡ true → block_ok blocks (be 2 s a) ≡ true → other_block own s a ≡ true → none || below ≡ true
      → credible_at floor end s a ≡ true → entry_shows blocks own low floor end s a ≡ true
  unfolding entry_blank
  fine-make p q o t k =
      fine-is
      ∙ and_both _ _ (and_both _ _ (sym block-is ∙ q) o)
      (size_is (and_left gap (not none || blanks) p) ∙ make none blanks (leb size 64) below (kept size) (and_right gap (not none || blanks) p) t k)

  module _ (p : entry_shows blocks own low floor end s a ≡ true) where
    front : inside && other_block own s a ≡ true
    front = and_left (inside && other_block own s a) (shown (size_at s a)) (sym fine-is ∙ p)

    gapped : gap ≡ true
    gapped = gap_is (and_right (inside && other_block own s a) (shown (size_at s a)) (sym fine-is ∙ p))

    back : shown size ≡ true
    back = sym (size_is gapped) ∙ and_right (inside && other_block own s a) (shown (size_at s a)) (sym fine-is ∙ p)

    pub fine-blank : entry_blank s a ≡ true
    unfolding entry_blank
    fine-blank = and_both _ _ gapped (blank_of none blanks (leb size 64) below (kept size) back)

    pub fine-block : block_ok blocks (be 2 s a) ≡ true
    fine-block = block-is ∙ and_left inside (other_block own s a) front

    pub fine-other : other_block own s a ≡ true
    fine-other = and_right inside (other_block own s a) front

    pub fine-top : none || below ≡ true
    fine-top = top_of none blanks (leb size 64) below (kept size) back

    pub fine-credible : credible_at floor end s a ≡ true
    fine-credible = kept_of none blanks (leb size 64) below (kept size) back
