-- Block 0: its numbers written, its map marked, and what it says then.
-- Assumes nothing.
use mathlib.Core.Path.{◌≡◌, refl, ap, sym, ◌∙◌}
use mathlib.Core.Logic.{⊎_elim}
use mathlib.Core.Bool.{Bool, false, ◌||◌, or-true, or-false}
use mathlib.Core.List.{List, ◌∷◌, ◌++◌}
use Prim.Native.Nat.{ℕ, zero, suc, ◌+◌, ◌*◌, ◌≤◌, ◌<◌}
use native.Mathlib.Nat.{zero-add, suc-add}
use native.Mathlib.Omega.{arith}
use lib.ListN.{length, take, drop, replicate, length-replicate}
use lib.Seq.{drop-drop}
use lib.Dec.{leb, ltb, eqb}
use borrow.Author.Tests.{eq-eqb, ne_eqb, le-leb, lt-ltb, le-ltb, lt-leb}
use borrow.Rule.Slice.PartMut.{mid_of, put_mid}
use Rattle.octets.specs.Lists.{every}
use Rattle.octets.specs.Bitmap.{bit, set_bit}
use Rattle.octets.specs.Bytes.{be, put_be}
use Rattle.octets.proofs.Bits.{bit-zeros, set_bit-length}
use Rattle.octets.proofs.Bytes.{put-length, drop-put-be, be-put-same, be-before}
use Rattle.octets.proofs.Order.{same_or_not, less-or-not, ltb-same}
use Rattle.octets.proofs.Lists.{over-all}
use Rattle.octets.proofs.Tests.{every-replicate}
use Rattle.tree.proofs.MapBits.{bit-set_bit, zeros}
use Rattle.block.specs.Table.{block, put_block}
use Rattle.block.specs.Header.{Header, header_of, head_of}
use Rattle.block.proofs.Making.{blocks-least, blocks-most}
use Rattle.block.proofs.Facts.{HeadFacts, head-made}
use Rattle.block.proofs.Frames.{put-length as put-block-length, block-put-other}
use Rattle.block.proofs.Heading.{numbers_stay, map_is, tail-stays, head-put}
use Rattle.build.specs.Building.{FirstMarked, NumbersAre, HeadSays, HeaderFits, HeaderWritten}

-- ---- the map

-- the blocks below i are marked besides those that were
pub record MarkedBelow (m m' : List ℕ) (i : ℕ) : Type 0 where
  pub bits : (b : ℕ) → bit m' b ≡ (ltb b i || bit m b)
  pub sized : length m' ≡ length m

pub marked-none : (m : List ℕ) → MarkedBelow m m 0
marked-none m = record { bits = λ b. rw (le-ltb b 0 (omega arith)); sized = refl }

one_more : (b i : ℕ) (x : Bool) → (ltb b i || x) || eqb b i ≡ (ltb b (i + 1) || x)
one_more b i x =
    ⊎_elim (λ (e : b ≡ i). rw (eq-eqb b i e, lt-ltb b (i + 1) (omega arith)) (or-true (ltb b i || x)))
    (λ (d : b ≡ i → ⊥). rw (ne_eqb b i d, or-false (ltb b i || x)) (ap (λ (y : Bool). y || x) (ltb-same b i b (i + 1) (λ h. omega arith) (λ h. omega (arith, d)))))
    (same_or_not b i)

pub marked_more : (m : List ℕ) {m' u : List ℕ} {i : ℕ} → MarkedBelow m m' i → i < 8 * length m → u ≡ set_bit m' i → MarkedBelow m u (i + 1)
marked_more m {m'} {u} {i} r h e =
    let z = r.sized in
    record {
      bits = λ b. ap (λ (x : List ℕ). bit x b) e ∙ bit-set_bit m' i b (omega arith) ∙ ap (λ (x : Bool). x || eqb b i) (r.bits b) ∙ one_more b i (bit m b);
      sized = ap length e ∙ set_bit-length m' i ∙ r.sized;
    }

pub marked_all : (m : List ℕ) {m' : List ℕ} {i z : ℕ} → MarkedBelow m m' i → i ≡ z + 1 → FirstMarked m m' z
marked_all m {m'} {i} {z} r e =
    record { bits = λ b. r.bits b ∙ ap (λ (x : Bool). x || bit m b) (up_to b); sized = r.sized }
  where
    up_to : (b : ℕ) → ltb b i ≡ leb b z
    up_to b = ⊎_elim (λ (h : b ≤ z). lt-ltb b i (omega arith) ∙ sym (le-leb b z h)) (λ (h : z < b). le-ltb b i (omega arith) ∙ sym (lt-leb b z h)) (less-or-not b z)

-- ---- the numbers

zeros-drop : (k m : ℕ) → drop k (zeros (k + m)) ≡ zeros m
zeros-drop zero m = ap (λ (j : ℕ). zeros j) (zero-add m)
zeros-drop (suc k) m = ap (λ (j : ℕ). drop (suc k) (zeros j)) (suc-add k m) ∙ zeros-drop k m

zeros-take : (k m : ℕ) → take k (zeros (k + m)) ≡ zeros k
zeros-take zero m = refl
zeros-take (suc k) m = ap (λ (j : ℕ). take (suc k) (zeros j)) (suc-add k m) ∙ ap (λ (l : List ℕ). 0 ∷ l) (zeros-take k m)

-- a list of m elements, all of them zeroed
zero-length : (m : ℕ) (s u : List ℕ) → length s ≡ m → u ≡ replicate m 0 ++ drop m s → length u ≡ m
zero-length m s u e g = ap length (g ∙ over-all (zeros m) s m (omega arith)) ∙ length-replicate m 0

-- the six writes
module _ (a h n : ℕ) (la : a < 4294967296) (lh : h < 256) (ln : n < 4294967296) (s s₀ s₁ s₂ s₃ s₄ s₅ : List ℕ) (len : length s ≡ 2048)
    (e₀ : s₀ ≡ replicate 2048 0 ++ drop 2048 s) (e₁ : s₁ ≡ put_be 4 s₀ 0 a) (e₂ : s₂ ≡ put_be 1 s₁ 4 1) (e₃ : s₃ ≡ put_be 1 s₂ 5 h) (e₄ : s₄ ≡ put_be 2 s₃ 6 1)
    (e₅ : s₅ ≡ put_be 4 s₄ 8 n) where
  len₀ : length s₀ ≡ 2048
  len₀ = zero-length 2048 s s₀ len e₀

  len₁ : length s₁ ≡ 2048
  len₁ = ap length e₁ ∙ put-length 4 s₀ 0 a ∙ len₀

  len₂ : length s₂ ≡ 2048
  len₂ = ap length e₂ ∙ put-length 1 s₁ 4 1 ∙ len₁

  len₃ : length s₃ ≡ 2048
  len₃ = ap length e₃ ∙ put-length 1 s₂ 5 h ∙ len₂

  -- what is written before stays
  past₂ : (m j : ℕ) → j + m ≤ 4 → be m s₂ j ≡ be m s₁ j
  past₂ = be-before 1 s₁ s₂ 4 1 e₂

  past₃ : (m j : ℕ) → j + m ≤ 5 → be m s₃ j ≡ be m s₂ j
  past₃ = be-before 1 s₂ s₃ 5 h e₃

  past₄ : (m j : ℕ) → j + m ≤ 6 → be m s₄ j ≡ be m s₃ j
  past₄ = be-before 2 s₃ s₄ 6 1 e₄

  past₅ : (m j : ℕ) → j + m ≤ 8 → be m s₅ j ≡ be m s₄ j
  past₅ = be-before 4 s₄ s₅ 8 n e₅

  pub numbers-are : NumbersAre s₅ a h n
  numbers-are =
      record {
        bytes =
            past₅ 4 0 (omega arith) ∙ past₄ 4 0 (omega arith) ∙ past₃ 4 0 (omega arith) ∙ past₂ 4 0 (omega arith) ∙ ap (λ (x : List ℕ). be 4 x 0) e₁
            ∙ be-put-same 4 s₀ 0 a (omega (arith, len₀)) la;
        version =
            past₅ 1 4 (omega arith) ∙ past₄ 1 4 (omega arith) ∙ past₃ 1 4 (omega arith) ∙ ap (λ (x : List ℕ). be 1 x 4) e₂
            ∙ be-put-same 1 s₁ 4 1 (omega (arith, len₁)) (omega arith);
        levels = past₅ 1 5 (omega arith) ∙ past₄ 1 5 (omega arith) ∙ ap (λ (x : List ℕ). be 1 x 5) e₃ ∙ be-put-same 1 s₂ 5 h (omega (arith, len₂)) lh;
        root = past₅ 2 6 (omega arith) ∙ ap (λ (x : List ℕ). be 2 x 6) e₄ ∙ be-put-same 2 s₃ 6 1 (omega (arith, len₃)) (omega arith);
        bound = ap (λ (x : List ℕ). be 4 x 8) e₅ ∙ be-put-same 4 s₄ 8 n (omega (arith, ap length e₄ ∙ put-length 2 s₃ 6 1 ∙ len₃)) ln;
        blank =
            ap (drop 12) e₅ ∙ drop-put-be 4 s₄ 8 n 12 (omega arith) ∙ ap (drop 12) e₄ ∙ drop-put-be 2 s₃ 6 1 12 (omega arith) ∙ ap (drop 12) e₃
            ∙ drop-put-be 1 s₂ 5 h 12 (omega arith)
            ∙ ap (drop 12) e₂
            ∙ drop-put-be 1 s₁ 4 1 12 (omega arith)
            ∙ ap (drop 12) e₁
            ∙ drop-put-be 4 s₀ 0 a 12 (omega arith)
            ∙ ap (drop 12) (e₀ ∙ over-all (zeros 2048) s 2048 (omega arith))
            ∙ zeros-drop 12 2036;
      }

-- ---- the block

module _ (a h n z : ℕ) (s u m : List ℕ) (len : length s ≡ 2048) (nums : NumbersAre s a h n) (marks : FirstMarked (mid_of 12 512 s) m z) (e : u ≡ put_mid 12 512 s m) where
  old-bits : (b : ℕ) → bit (mid_of 12 512 s) b ≡ false
  old-bits b = ap (λ (x : List ℕ). bit (take 512 x) b) nums.blank ∙ ap (λ (x : List ℕ). bit x b) (zeros-take 512 1524) ∙ bit-zeros 512 b

  tail-is : drop 524 u ≡ replicate 1524 0
  tail-is = tail-stays s m u len marks.sized e ∙ sym (drop-drop 512 12 s) ∙ ap (drop 512) nums.blank ∙ zeros-drop 512 1524

  front : (k j : ℕ) → j + k ≤ 12 → be k u j ≡ be k s j
  front = numbers_stay s m u len marks.sized e

  pub head-says : HeadSays (header_of u) a h n z
  unfolding header_of
  head-says =
      record {
        bytes = front 4 0 (omega arith) ∙ nums.bytes;
        version = front 1 4 (omega arith) ∙ nums.version;
        levels = front 1 5 (omega arith) ∙ nums.levels;
        root = front 2 6 (omega arith) ∙ nums.root;
        bound = front 4 8 (omega arith) ∙ nums.bound;
        in_use = λ b. ap (λ (x : List ℕ). bit x b) (map_is s m u len marks.sized e) ∙ marks.bits b ∙ ap (λ (x : Bool). leb b z || x) (old-bits b) ∙ or-false (leb b z);
        blank = ap (every (λ x. eqb x 0)) tail-is ∙ every-replicate (λ x. eqb x 0) 1524 0 refl;
      }

-- ---- the table

module _ (t u s : List ℕ) (h n z : ℕ) (fits : HeaderFits t h n z) (len : length s ≡ 2048) (says : HeadSays (header_of s) (length t) h n z) (e : u ≡ put_block t 0 s) where
  inside : 0 * 2048 + 2048 ≤ length t
  inside = omega (arith, blocks-least (length t) fits.sized)

  head-is : head_of u ≡ header_of s
  head-is = head-put t u s inside len e

  facts : HeadFacts (length t) (header_of s)
  facts =
      let least = blocks-least (length t) fits.sized in
      let first = fits.first in
      let last = fits.inside in
      record {
        same_bytes = says.bytes;
        version = says.version;
        levels-least = rw says.levels fits.least;
        levels-most = rw says.levels fits.most;
        root-least = rw says.root (omega arith);
        root-most = rw says.root (omega arith);
        bound-most = rw says.bound fits.bound;
        zero-used = says.in_use 0 ∙ le-leb 0 z (omega arith);
        root-used = ap (bit (header_of s).in_use) says.root ∙ says.in_use 1 ∙ le-leb 1 z first;
        past-clear = λ b lo hi. says.in_use b ∙ lt-leb b z (omega arith);
        blank = says.blank;
        sized = fits.sized;
        blocks-most = blocks-most (length t) fits.sized;
      }

  pub header-written : HeaderWritten t u h n z
  header-written =
      record {
        ok = rw head-is (head-made (length t) (header_of s) facts);
        levels = ap (λ (r : Header). r.levels) head-is ∙ says.levels;
        root = ap (λ (r : Header). r.root) head-is ∙ says.root;
        bound = ap (λ (r : Header). r.bound) head-is ∙ says.bound;
        in_use = λ b l. ap (λ (r : Header). bit r.in_use b) head-is ∙ says.in_use b;
        else = λ b d. ap (λ (x : List ℕ). block x b) e ∙ block-put-other t 0 s inside len b d;
        sized = ap length e ∙ put-block-length t 0 s inside len;
      }
