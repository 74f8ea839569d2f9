-- Block 0 after an update: its numbers written, its map marked, and what it says then.
-- Assumes nothing.
use mathlib.Core.Path.{◌≡◌, ap, ◌∙◌}
use mathlib.Core.Logic.{⊎_elim}
use mathlib.Core.Bool.{true, false}
use mathlib.Core.List.{List, Memᴰ}
use Prim.Native.Nat.{ℕ, ◌+◌, ◌*◌, ◌≤◌, ◌<◌}
use native.Mathlib.Omega.{arith}
use lib.ListN.{length, take, drop}
use lib.Dec.{eqb}
use borrow.Rule.Slice.PartMut.{mid_of, put_mid}
use Rattle.octets.specs.Lists.{every}
use Rattle.octets.specs.Bitmap.{bit}
use Rattle.octets.specs.Bytes.{be, put_be}
use Rattle.octets.proofs.Bytes.{put-length, drop-put-be, be-put-same, be-before}
use Rattle.octets.proofs.Parts.{drop_more}
use Rattle.octets.proofs.Sets.{in-or-not}
use Rattle.block.specs.Table.{block, put_block, blocks_of}
use Rattle.block.specs.Header.{Header, header_of, head_of}
use Rattle.block.proofs.Facts.{HeadFacts, head-facts, head-made}
use Rattle.block.proofs.Making.{sized-least}
use Rattle.block.proofs.Frames.{put-length as put-block-length, block-put-other}
use Rattle.block.proofs.Heading.{numbers_stay, map_is, tail-stays, head-put}
use Rattle.spare.specs.declared.Spare.{Spare}
use Rattle.spare.specs.Spares.{taken_of, TakenFits, Marked, HeadTurned, HeadFits, Reheaded}
use Rattle.spare.proofs.Taking.{taken-spare}

-- ---- the block: three numbers and the map

module _ (h root n : ℕ) (taken s s₁ s₂ s₃ m u : List ℕ) (lh : h < 256) (lr : root < 65536) (ln : n < 4294967296) (len : length s ≡ 2048)
    (e₁ : s₁ ≡ put_be 1 s 5 h) (e₂ : s₂ ≡ put_be 2 s₁ 6 root) (e₃ : s₃ ≡ put_be 4 s₂ 8 n) (marks : Marked (mid_of 12 512 s₃) m taken) (e : u ≡ put_mid 12 512 s₃ m) where
  len₁ : length s₁ ≡ 2048
  len₁ = ap length e₁ ∙ put-length 1 s 5 h ∙ len

  len₂ : length s₂ ≡ 2048
  len₂ = ap length e₂ ∙ put-length 2 s₁ 6 root ∙ len₁

  len₃ : length s₃ ≡ 2048
  len₃ = ap length e₃ ∙ put-length 4 s₂ 8 n ∙ len₂

  -- the map is behind the numbers
  front : (k j : ℕ) → j + k ≤ 12 → be k u j ≡ be k s₃ j
  front = numbers_stay s₃ m u len₃ marks.sized e

  -- what is written before stays
  past₁ : (k j : ℕ) → j + k ≤ 5 → be k s₁ j ≡ be k s j
  past₁ = be-before 1 s s₁ 5 h e₁

  past₂ : (k j : ℕ) → j + k ≤ 6 → be k s₂ j ≡ be k s₁ j
  past₂ = be-before 2 s₁ s₂ 6 root e₂

  past₃ : (k j : ℕ) → j + k ≤ 8 → be k s₃ j ≡ be k s₂ j
  past₃ = be-before 4 s₂ s₃ 8 n e₃

  -- the bytes behind the numbers
  behind : drop 12 s₃ ≡ drop 12 s
  behind =
      ap (drop 12) e₃ ∙ drop-put-be 4 s₂ 8 n 12 (omega arith) ∙ ap (drop 12) e₂ ∙ drop-put-be 2 s₁ 6 root 12 (omega arith) ∙ ap (drop 12) e₁
      ∙ drop-put-be 1 s 5 h 12 (omega arith)

  bits_are : (b : ℕ) → bit (take 512 (drop 12 u)) b ≡ bit m b
  bits_are b = ap (λ (x : List ℕ). bit x b) (map_is s₃ m u len₃ marks.sized e)

  map-was : take 512 (drop 12 s₃) ≡ take 512 (drop 12 s)
  map-was = ap (take 512) behind

  tail-is : drop 524 u ≡ drop 524 s
  tail-is = tail-stays s₃ m u len₃ marks.sized e ∙ drop_more s₃ s 12 524 (omega arith) behind

  pub head-turned : HeadTurned (header_of s) (header_of u) taken h root n
  unfolding header_of
  head-turned =
      record {
        bytes = front 4 0 (omega arith) ∙ past₃ 4 0 (omega arith) ∙ past₂ 4 0 (omega arith) ∙ past₁ 4 0 (omega arith);
        version = front 1 4 (omega arith) ∙ past₃ 1 4 (omega arith) ∙ past₂ 1 4 (omega arith) ∙ past₁ 1 4 (omega arith);
        levels =
            front 1 5 (omega arith) ∙ past₃ 1 5 (omega arith) ∙ past₂ 1 5 (omega arith) ∙ ap (λ (x : List ℕ). be 1 x 5) e₁
            ∙ be-put-same 1 s 5 h (omega arith) lh;
        root_is = front 2 6 (omega arith) ∙ past₃ 2 6 (omega arith) ∙ ap (λ (x : List ℕ). be 2 x 6) e₂ ∙ be-put-same 2 s₁ 6 root (omega (arith, len₁)) lr;
        bound_is = front 4 8 (omega arith) ∙ ap (λ (x : List ℕ). be 4 x 8) e₃ ∙ be-put-same 4 s₂ 8 n (omega (arith, len₂)) ln;
        marks =
            record {
              marked = λ b i. bits_are b ∙ marks.marked b i;
              others = λ b d. bits_are b ∙ marks.others b d ∙ ap (λ (x : List ℕ). bit x b) map-was;
              sized = ap length (map_is s₃ m u len₃ marks.sized e) ∙ marks.sized ∙ ap length map-was;
            };
        blank = ap (every (λ x. eqb x 0)) tail-is;
      }

-- ---- the table

module _ (t : List ℕ) (x : Spare) (left h root n : ℕ) (fits : HeadFits t x left h root n) where
  facts : HeadFacts (length t) (head_of t)
  facts = head-facts (length t) (head_of t) fits.ok

  -- what was taken are blocks of the table
  taken-low : (b : ℕ) → Memᴰ b (taken_of x left) → b < blocks_of (length t)
  taken-low b i = (fits.spare.inside b (taken-spare x left b i)).1

  pub taken-fits : TakenFits x left
  taken-fits =
      record { less = fits.less; few = fits.spare.few; below = λ b i. let l = taken-low b i in let f = facts.blocks-most in omega arith }

  pub table-long : 0 * 2048 + 2048 ≤ length t
  table-long = let z = sized-least (length t) facts.sized in omega arith

  pub levels-small : h < 256
  levels-small = let l = fits.most in omega arith

  pub root-small : root < 65536
  root-small = let l = fits.last in let f = facts.blocks-most in omega arith

  pub bound-small : n < 4294967296
  bound-small = let l = fits.few in let f = facts.blocks-most in omega arith

  -- what its bytes say is what the table says
  pub head_bytes : (s : List ℕ) → HeadTurned (header_of (block t 0)) (header_of s) (taken_of x left) h root n → HeadTurned (head_of t) (header_of s) (taken_of x left) h root n
  unfolding head_of
  head_bytes s r = r

  module _ (u s : List ℕ) (len : length s ≡ 2048) (turned : HeadTurned (head_of t) (header_of s) (taken_of x left) h root n) (e : u ≡ put_block t 0 s) where
    head-is : head_of u ≡ header_of s
    head-is = head-put t u s table-long len e

    -- a marked block stays marked
    stays : (b : ℕ) → bit (head_of t).in_use b ≡ true → bit (header_of s).in_use b ≡ true
    stays b q = ⊎_elim (λ i. turned.marks.marked b i) (λ d. turned.marks.others b d ∙ q) (in-or-not b (taken_of x left))

    root-marked : bit (header_of s).in_use root ≡ true
    root-marked = ⊎_elim (λ q. stays root q) (λ i. turned.marks.marked root i) fits.used

    past-clear : (b : ℕ) → blocks_of (length t) ≤ b → b < 4096 → bit (header_of s).in_use b ≡ false
    past-clear b l g = turned.marks.others b (λ i. let z = taken-low b i in omega arith) ∙ facts.past-clear b l g

    facts-then : HeadFacts (length t) (header_of s)
    facts-then =
        record {
          same_bytes = turned.bytes ∙ facts.same_bytes;
          version = turned.version ∙ facts.version;
          levels-least = rw turned.levels fits.least;
          levels-most = rw turned.levels fits.most;
          root-least = rw turned.root_is fits.first;
          root-most = rw turned.root_is fits.last;
          bound-most = rw turned.bound_is fits.few;
          zero-used = stays 0 facts.zero-used;
          root-used = ap (bit (header_of s).in_use) turned.root_is ∙ root-marked;
          past-clear = past-clear;
          blank = turned.blank ∙ facts.blank;
          sized = facts.sized;
          blocks-most = facts.blocks-most;
        }

    pub reheaded : Reheaded t u (taken_of x left) h root n
    reheaded =
        record {
          ok = rw head-is (head-made (length t) (header_of s) facts-then);
          levels = ap (λ (r : Header). r.levels) head-is ∙ turned.levels;
          root_is = ap (λ (r : Header). r.root) head-is ∙ turned.root_is;
          bound_is = ap (λ (r : Header). r.bound) head-is ∙ turned.bound_is;
          marked = λ b i. ap (λ (r : Header). bit r.in_use b) head-is ∙ turned.marks.marked b i;
          others = λ b l d. ap (λ (r : Header). bit r.in_use b) head-is ∙ turned.marks.others b d;
          else = λ b d. ap (λ (l : List ℕ). block l b) e ∙ block-put-other t 0 s table-long len b d;
          sized = ap length e ∙ put-block-length t 0 s table-long len;
        }
