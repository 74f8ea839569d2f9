-- What the journal keeps goes on through every step, and an undo gives back the table of the start.
-- Assumes nothing.
use mathlib.Core.Path.{◌≡◌, refl, sym, ap, ap₂, ◌∙◌}
use mathlib.Core.Logic.{⊎_elim}
use mathlib.Core.Bool.{Bool, true, false, cond}
use mathlib.Core.List.{List, ◌++◌, append-nil}
use Prim.Native.Nat.{ℕ, zero, suc, ◌+◌, ◌*◌, ◌-◌, ◌/◌, ◌≤◌, ◌<◌}
use native.Mathlib.Omega.{arith}
use lib.ListN.{length, take, drop, replicate, drop_of_length-le}
use lib.Seq.{take-add, take_all}
use borrow.Rule.Slice.PartMut.{mid_of, put_mid}
use Rattle.octets.specs.Bitmap.{bit, set_bit}
use Rattle.octets.proofs.Order.{same_or_not}
use Rattle.octets.proofs.Parts.{drop_more}
use Rattle.octets.proofs.Bits.{set_bit-length, set_bit-same, set_bit-other, bit-zeros}
use Rattle.block.specs.Table.{block, blocks_of, put_block}
use Rattle.block.proofs.Frames.{block-length, put-length, part-is, put-part-is, tail-same, block-put-same, block-put-other}
use Rattle.journal.specs.Journal.{before, Undoable, Kept, Undone}

-- ---- steps

pub kept_refl : {t s map : List ℕ} → Kept t s map t s map
kept_refl =
    record { past = λ b h. refl; marks = λ b e. e; table = refl; scratch = refl; mapped = refl; rest = refl }

module _ {t s map t₁ s₁ map₁ : List ℕ} (k : Kept t s map t₁ s₁ map₁) where
  pub kept_trans : {t₂ s₂ map₂ : List ℕ} → Kept t₁ s₁ map₁ t₂ s₂ map₂ → Kept t s map t₂ s₂ map₂
  kept_trans l =
      record {
        past = λ b h. l.past b (rw k.table h) ∙ k.past b h;
        marks = λ b e. l.marks b (k.marks b e);
        table = l.table ∙ k.table;
        scratch = l.scratch ∙ k.scratch;
        mapped = l.mapped ∙ k.mapped;
        rest = (rw k.table at l.rest) ∙ k.rest;
      }

  -- what can be undone can be undone after a step
  pub undoable-kept : Undoable t s map → Undoable t₁ s₁ map₁
  undoable-kept u =
      record {
        whole = rw k.table u.whole;
        most = rw k.table u.most;
        room = rw (k.table, k.scratch) u.room;
        mapped = k.mapped ∙ u.mapped;
      }

-- ---- what a block was

-- where the map marks the block, where it does not, and where neither its mark nor its bytes changed
module _ (t s map : List ℕ) (b : ℕ) where
  pub before-marked : bit map b ≡ true → before t s map b ≡ block s b
  before-marked e = ap (λ (m : Bool). cond m (block s b) (block t b)) e

  pub before-clear : bit map b ≡ false → before t s map b ≡ block t b
  before-clear e = ap (λ (m : Bool). cond m (block s b) (block t b)) e

  before_same : (t' s' map' : List ℕ) → bit map' b ≡ bit map b → block s' b ≡ block s b → block t' b ≡ block t b
      → before t' s' map' b ≡ before t s map b
  before_same t' s' map' m e f =
      ap (λ (x : Bool). cond x (block s' b) (block t' b)) m ∙ ap₂ (λ (x y : List ℕ). cond (bit map b) x y) e f

-- ---- the two steps of a call

-- a block copied from one table to another
pub copied_is : (t s : List ℕ) (b : ℕ) → b * 2048 + 2048 ≤ length t → b * 2048 + 2048 ≤ length s
    → put_mid (b * 2048) (b * 2048 + 2048 - b * 2048) t
    (take 2048 (mid_of (b * 2048) (b * 2048 + 2048 - b * 2048) s) ++ drop 2048 (mid_of (b * 2048) (b * 2048 + 2048 - b * 2048) t))
    ≡ put_block t b (block s b)
copied_is t s b h k =
    ap (put_mid (b * 2048) (b * 2048 + 2048 - b * 2048) t)
    (ap₂ (λ (x y : List ℕ). take 2048 x ++ drop 2048 y) (part-is s b) (part-is t b)
    ∙ ap₂ (λ (x y : List ℕ). x ++ y) (take_all 2048 (block s b) (omega (arith, block-length s b k))) (drop_of_length-le (block t b) {i = 2048} (omega (arith, block-length t b h)))
    ∙ append-nil (block s b))
    ∙ put-part-is t b (block s b)

-- a block that was not kept is kept
module _ (t s map : List ℕ) (u : Undoable t s map) (b : ℕ) (h : b < blocks_of (length t)) where
  fits : b * 2048 + 2048 ≤ length t
  fits = omega (arith, u.whole)

  marked : b / 8 < length map
  marked = omega (arith, u.mapped, u.most)

  pub kept-save : bit map b ≡ false → Kept t s map t (put_block s b (block t b)) (set_bit map b)
  kept-save clear =
      record {
        past = λ z l. ⊎_elim (λ (q : z ≡ b). rw q here) (other z) (same_or_not z b);
        marks = λ z e. ⊎_elim (λ (q : z ≡ b). rw q (set_bit-same map b marked)) (λ (d : z ≡ b → ⊥). set_bit-other map b z marked d ∙ e) (same_or_not z b);
        table = refl;
        scratch = put-length s b (block t b) room sized;
        mapped = set_bit-length map b;
        rest = drop_more (put_block s b (block t b)) s (b * 2048 + 2048) (length t) fits (tail-same s b (block t b) room sized);
      }
    where
      room : b * 2048 + 2048 ≤ length s
      room = omega (arith, fits, u.room)

      sized : length (block t b) ≡ 2048
      sized = block-length t b fits

      here : before t (put_block s b (block t b)) (set_bit map b) b ≡ before t s map b
      here =
          before-marked t (put_block s b (block t b)) (set_bit map b) b (set_bit-same map b marked)
          ∙ block-put-same s b (block t b) room sized
          ∙ sym (before-clear t s map b clear)

      other : (z : ℕ) → (z ≡ b → ⊥) → before t (put_block s b (block t b)) (set_bit map b) z ≡ before t s map z
      other z d =
          before_same t s map z t (put_block s b (block t b)) (set_bit map b) (set_bit-other map b z marked d)
          (block-put-other s b (block t b) room sized z d) refl

-- a block that is kept is written
pub kept-write : {t s map t' : List ℕ} {b : ℕ} → bit map b ≡ true → ((z : ℕ) → (z ≡ b → ⊥) → block t' z ≡ block t z) → length t' ≡ length t
    → Kept t s map t' s map
kept-write {t} {s} {map} {t'} {b} e else sized =
    record {
      past = λ z l. ⊎_elim (λ (q : z ≡ b). rw q (before-marked t' s map b e ∙ sym (before-marked t s map b e)))
          (λ (d : z ≡ b → ⊥). before_same t s map z t' s map refl refl (else z d)) (same_or_not z b);
      marks = λ z m. m;
      table = sized;
      scratch = refl;
      mapped = refl;
      rest = refl;
    }

-- ---- undoing

-- the blocks below b are as they were before, those from b on as at the start
pub record Undoing (t₀ s map : List ℕ) (b : ℕ) (t : List ℕ) : Type 0 where
  pub done : (z : ℕ) → z < b → block t z ≡ before t₀ s map z
  pub left : (z : ℕ) → b ≤ z → block t z ≡ block t₀ z
  pub sized : length t ≡ length t₀

pub undoing-none : {t s map : List ℕ} → Undoing t s map 0 t
undoing-none = record { done = λ z h. absurd (omega arith); left = λ z h. refl; sized = refl }

module _ {t₀ s map : List ℕ} {b : ℕ} {t : List ℕ} (u : Undoing t₀ s map b t) where
  -- one block more, which is right already or is put back
  next : (t' : List ℕ) → block t' b ≡ before t₀ s map b → ((z : ℕ) → (z ≡ b → ⊥) → block t' z ≡ block t z) → length t' ≡ length t
      → Undoing t₀ s map (b + 1) t'
  next t' here else same =
      record {
        done = λ z h. ⊎_elim (λ (q : z ≡ b). rw q here) (λ (d : z ≡ b → ⊥). else z d ∙ u.done z (omega (arith, d))) (same_or_not z b);
        left = λ z h. else z (λ q. omega arith) ∙ u.left z (omega arith);
        sized = same ∙ u.sized;
      }

  pub undoing-clear : bit map b ≡ false → Undoing t₀ s map (b + 1) t
  undoing-clear e = next t (u.left b (omega arith) ∙ sym (before-clear t₀ s map b e)) (λ z d. refl) refl

  pub undoing-kept : bit map b ≡ true → b * 2048 + 2048 ≤ length t → b * 2048 + 2048 ≤ length s → Undoing t₀ s map (b + 1) (put_block t b (block s b))
  undoing-kept e h k =
      let w : length (block s b) ≡ 2048 = block-length s b k in
      next (put_block t b (block s b)) (block-put-same t b (block s b) h w ∙ sym (before-marked t₀ s map b e))
      (block-put-other t b (block s b) h w) (put-length t b (block s b) h w)

pub undoing-all : {t₀ s map t : List ℕ} → Undoing t₀ s map (blocks_of (length t₀)) t → Undone t₀ s map t
undoing-all u = record { blocks = u.done; sized = u.sized }

-- ---- the table of the start

-- tables with the same first n blocks
same_blocks_lem : (t u : List ℕ) (n : ℕ) → ((b : ℕ) → b < n → block t b ≡ block u b) → take (n * 2048) t ≡ take (n * 2048) u
same_blocks_lem t u zero h = refl
same_blocks_lem t u (suc n) h =
    let e : suc n * 2048 ≡ n * 2048 + 2048 = omega arith in
    rw e
    (take-add (n * 2048) 2048 t ∙ ap₂ (λ (x y : List ℕ). x ++ y) (same_blocks_lem t u n (λ b l. h b (omega arith))) (h n (omega arith))
    ∙ sym (take-add (n * 2048) 2048 u))

-- from a clean map, by steps, and undone: the table is what it was
pub undone-is : {t₀ s₀ : List ℕ} (n : ℕ) {t s map t' : List ℕ} → length t₀ ≡ blocks_of (length t₀) * 2048 → Kept t₀ s₀ (replicate n 0) t s map → Undone t s map t' → t' ≡ t₀
undone-is {t₀} {s₀} n {t' = t'} whole k u =
    let sized : length t' ≡ length t₀ = u.sized ∙ k.table in
    let all : take (blocks_of (length t₀) * 2048) t' ≡ take (blocks_of (length t₀) * 2048) t₀ =
    same_blocks_lem t' t₀ (blocks_of (length t₀))
    (λ b h. u.blocks b (rw k.table h) ∙ k.past b h ∙ before-clear t₀ s₀ (replicate n 0) b (bit-zeros n b))
    in
    sym (take_all (blocks_of (length t₀) * 2048) t' (omega arith)) ∙ all ∙ take_all (blocks_of (length t₀) * 2048) t₀ (omega arith)
