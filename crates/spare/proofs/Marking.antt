-- Blocks marked one after the other in a map.
-- Assumes nothing.
use mathlib.Core.Path.{◌≡◌, refl, sym, ap, subst, ◌∙◌}
use mathlib.Core.Logic.{⊎_elim}
use mathlib.Core.Bool.{true}
use mathlib.Core.List.Memᴰ
use mathlib.Core.List.{List, [], ◌∷◌, ◌++◌}
use Prim.Native.Nat.{ℕ, ◌+◌, ◌*◌, ◌/◌, ◌≤◌, ◌<◌}
use native.Mathlib.Omega.{arith}
use lib.ListN.{length, take, drop, get_or}
use lib.Seq.{slice_empty}
use Rattle.octets.specs.Bitmap.{bit, set_bit}
use Rattle.octets.proofs.Bits.{set_bit-length, set_bit-same, set_bit-other}
use Rattle.octets.proofs.Order.{same_or_not}
use Rattle.spare.specs.declared.Spare.{Spare}
use Rattle.spare.specs.Spares.{taken_of, TakenFits, Marked}
use Rattle.spare.proofs.Taking.{last_or, between_more, between-at}

marked-nil : (m : List ℕ) → Marked m m []
marked-nil m = record { marked = λ b i. absurd (Memᴰ.not-nil i); others = λ b d. refl; sized = refl }

-- a set bit stays set
pub set-stays : (m : List ℕ) (n b : ℕ) → n / 8 < length m → bit m b ≡ true → bit (set_bit m n) b ≡ true
set-stays m n b h e =
    ⊎_elim (λ (q : b ≡ n). ap (bit (set_bit m n)) q ∙ set_bit-same m n h) (λ (d : b ≡ n → ⊥). set_bit-other m n b h d ∙ e) (same_or_not b n)

marked-one : (m : List ℕ) {m' u : List ℕ} (xs : List ℕ) (n : ℕ) → Marked m m' xs → n < 8 * length m → u ≡ set_bit m' n → Marked m u (xs ++ (n ∷ []))
marked-one m {m'} {u} xs n r h e =
    let z = r.sized in
    let l : n / 8 < length m' = omega arith in
    record {
      marked = λ b i.
          ap (λ (x : List ℕ). bit x b) e
          ∙ ⊎_elim (λ j. set-stays m' n b l (r.marked b j)) (λ (q : b ≡ n). ap (bit (set_bit m' n)) q ∙ set_bit-same m' n l) (last_or xs n b i);
      others = λ b d.
          ap (λ (x : List ℕ). bit x b) e ∙ set_bit-other m' n b l (λ q. d (Memᴰ.append_right xs (Memᴰ.head q)))
          ∙ r.others b (λ j. d (Memᴰ.append_left (n ∷ []) j));
      sized = ap length e ∙ set_bit-length m' n ∙ r.sized;
    }

-- ---- the loop: those from `left` up to i are marked

pub record MarkedTo (s : Spare) (left : ℕ) (m m' : List ℕ) (i : ℕ) : Type 0 where
  pub marks : Marked m m' (drop left (take i s.blocks))
  pub from : left ≤ i
  pub most : i ≤ s.n

module _ (s : Spare) (left : ℕ) (m : List ℕ) (fits : TakenFits s left) (long : length s.blocks ≡ 8) where
  pub to_start : MarkedTo s left m m left
  to_start =
      let l = fits.less in
      record { marks = subst (λ (x : List ℕ). Marked m m x) (sym (slice_empty left s.blocks)) (marked-nil m); from = omega arith; most = l }

  pub to_below : (i : ℕ) → left ≤ i → i < s.n → get_or s.blocks i 0 < 4096
  to_below i a b = let f = fits.few in fits.below (get_or s.blocks i 0) (between-at s.blocks left i s.n 0 a b (omega arith))

  pub to-next : {m' u : List ℕ} {i : ℕ} → MarkedTo s left m m' i → i < s.n → length m ≡ 512 → u ≡ set_bit m' (get_or s.blocks i 0) → MarkedTo s left m u (i + 1)
  to-next {m'} {u} {i} r g z e =
      let a = r.from in
      let f = fits.few in
      let b = to_below i a g in
      record {
        marks =
            subst (λ (x : List ℕ). Marked m u x) (sym (between_more s.blocks left i 0 a (omega arith)))
            (marked-one m (drop left (take i s.blocks)) (get_or s.blocks i 0) r.marks (omega arith) e);
        from = omega arith;
        most = omega arith;
      }

  pub to_end : {m' : List ℕ} {i : ℕ} → MarkedTo s left m m' i → s.n ≤ i → Marked m m' (taken_of s left)
  to_end {m'} {i} r h =
      let b = r.most in
      let e : i ≡ s.n = omega arith in
      subst (λ (k : ℕ). Marked m m' (drop left (take k s.blocks))) e r.marks
