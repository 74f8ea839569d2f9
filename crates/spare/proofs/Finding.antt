-- Blocks found one after the other in a map that marks those found.
-- Assumes nothing.
use mathlib.Core.Path.{◌≡◌, refl, sym, ap, subst, ◌∙◌}
use mathlib.Core.Logic.{⊎_elim}
use mathlib.Core.Bool.{true, false, true≢false}
use mathlib.Core.List.Memᴰ
use mathlib.Core.List.{List, [], ◌∷◌, ◌++◌, Memᴰ}
use Prim.Native.Nat.{ℕ, zero, suc, ◌+◌, ◌/◌, ◌≤◌, ◌<◌}
use native.Mathlib.Omega.{arith}
use lib.ListN.{length, take, drop, replicate, length-replicate}
use lib.Seq.{take-take}
use Rattle.octets.specs.Lists.{distinct}
use Rattle.octets.specs.Bitmap.{bit, set_bit, FirstClear}
use Rattle.octets.proofs.Bits.{set_bit-length, set_bit-same, first-is-clear}
use Rattle.octets.proofs.Lists.{mem-same, over-all}
use Rattle.octets.proofs.Tests.{refuted}
use Rattle.octets.proofs.Sets.{distinct-join}
use Rattle.block.specs.Table.{blocks_of}
use Rattle.block.specs.Header.{head_of}
use Rattle.block.specs.HeaderRules.{header_ok}
use Rattle.block.proofs.Heads.{map-part}
use Rattle.block.proofs.Facts.{head-facts}
use Rattle.block.proofs.Making.{sized-least}
use Rattle.spare.specs.declared.Spare.{Spare}
use Rattle.spare.specs.Spares.{spare_of, Clear, SpareIn}
use Rattle.spare.proofs.Taking.{last_or}
use Rattle.spare.proofs.Marking.{set-stays}

-- m' is the map m with the blocks found marked
pub record Found (m : List ℕ) (blocks : ℕ) (m' : List ℕ) (s : Spare) : Type 0 where
  pub clear : Clear m blocks s
  pub marked : (b : ℕ) → Memᴰ b (spare_of s s.n) → bit m' b ≡ true
  pub kept : (b : ℕ) → bit m b ≡ true → bit m' b ≡ true
  pub sized : length m' ≡ length m

pub found_none : (m : List ℕ) (blocks : ℕ) (s : Spare) → s.n ≡ 0 → Found m blocks m s
found_none m blocks s h =
    record {
      clear = record { few = omega arith; below = λ b i. absurd (none b i); clear = λ b i. absurd (none b i); once = ap distinct empty };
      marked = λ b i. absurd (none b i);
      kept = λ b e. e;
      sized = refl;
    }
  where
    empty : spare_of s s.n ≡ []
    empty = ap (λ (k : ℕ). take k s.blocks) h

    none : (b : ℕ) → Memᴰ b (spare_of s s.n) → ⊥
    none b i = Memᴰ.not-nil (mem-same empty i)

-- one block more
module _ (m : List ℕ) (blocks : ℕ) (m' u : List ℕ) (s r : Spare) (n : ℕ) (f : Found m blocks m' s) (first : FirstClear m' n) (low : n < blocks)
    (most : blocks ≤ 4096) (long : length m ≡ 512) (room : s.n < 8) (e : u ≡ set_bit m' n) (one : r.n ≡ s.n + 1)
    (more : spare_of r r.n ≡ spare_of s s.n ++ (n ∷ [])) where
  inside : n / 8 < length m'
  inside = let z = f.sized in omega arith

  was-clear : bit m' n ≡ false
  was-clear = first-is-clear m' n first

  -- what holds of the blocks before and of the new one
  each : (P : ℕ → Type 0) → ((b : ℕ) → Memᴰ b (spare_of s s.n) → P b) → P n → (b : ℕ) → Memᴰ b (spare_of r r.n) → P b
  each P old new b i = ⊎_elim (λ j. old b j) (λ (q : b ≡ n). subst P (sym q) new) (last_or (spare_of s s.n) n b (mem-same more i))

  off : (b : ℕ) → Memᴰ b (spare_of s s.n) → Memᴰ b (n ∷ []) → ⊥
  off b i j = true≢false (sym (f.marked b i) ∙ ap (bit m') (Memᴰ.eq_of_singleton j) ∙ was-clear)

  pub found-more : Found m blocks u r
  found-more =
      record {
        clear =
            record {
              few = omega arith;
              below = each (λ b. b < blocks) f.clear.below low;
              clear = each (λ b. bit m b ≡ false) f.clear.clear (refuted (bit m n) (λ h. true≢false (sym (f.kept n h) ∙ was-clear)));
              once = ap distinct more ∙ distinct-join (spare_of s s.n) (n ∷ []) f.clear.once refl off;
            };
        marked =
            each (λ b. bit u b ≡ true) (λ b i. ap (λ (x : List ℕ). bit x b) e ∙ set-stays m' n b inside (f.marked b i))
            (ap (λ (x : List ℕ). bit x n) e ∙ set_bit-same m' n inside);
        kept = λ b h. ap (λ (x : List ℕ). bit x b) e ∙ set-stays m' n b inside (f.kept b h);
        sized = ap length e ∙ set_bit-length m' n ∙ f.sized;
      }

-- ---- in the map of a table

-- the map of a table, copied over zeros
pub copied : (t m : List ℕ) → m ≡ take 512 (take 512 (drop 12 t)) ++ drop 512 (replicate 512 0) → m ≡ take 512 (drop 12 t)
copied t m e =
    let w : List ℕ = replicate 512 0 in
    let l : length w ≤ 512 = omega (arith, length-replicate {A = ℕ} 512 0) in
    e ∙ over-all (take 512 (take 512 (drop 12 t))) w 512 l ∙ take-take 512 512 (drop 12 t) (omega arith)

pub map-inside : (t : List ℕ) → header_ok (length t) (head_of t) ≡ true → 524 ≤ length t
map-inside t ok = let l = sized-least (length t) (head-facts (length t) (head_of t) ok).sized in omega arith

pub spare-in : (t m : List ℕ) (s : Spare) → header_ok (length t) (head_of t) ≡ true → m ≡ take 512 (drop 12 t) → Clear m (blocks_of (length t)) s → SpareIn t s
spare-in t m s ok e c =
    record {
      fits = record { few = c.few; inside = λ b i. (not-zero b (unused b i), c.below b i); once = c.once };
      unused = unused;
    }
  where
    unused : (b : ℕ) → Memᴰ b (spare_of s s.n) → bit (head_of t).in_use b ≡ false
    unused b i = ap (λ (x : List ℕ). bit x b) (map-part t ∙ sym e) ∙ c.clear b i

    not-zero : (b : ℕ) → bit (head_of t).in_use b ≡ false → 1 ≤ b
    not-zero zero h = absurd (true≢false (sym (head-facts (length t) (head_of t) ok).zero-used ∙ h))
    not-zero (suc b) h = omega arith
