-- A map joined with another, byte by byte: its bits, and what it is where both are maps of blocks read.
-- Assumes nothing.
use mathlib.Core.Path.{◌≡◌, refl, ap, ap₂, sym, ◌∙◌}
use mathlib.Core.Logic.{⊎_elim}
use mathlib.Core.Bool.{Bool, true, false, ◌||◌}
use mathlib.Core.List.{List, ◌++◌}
use Prim.Native.Nat.{ℕ, zero, suc, ◌+◌, ◌/◌, ◌%◌, ◌≤◌, ◌<◌}
use native.Mathlib.Omega.{arith}
use lib.ListN.{length, get_or, set, length-set}
use lib.Seq.{get_or-set_same, get_or-set_other}
use lib.Dec.{eqb}
use lib.Bits.{bit_or}
use Rattle.octets.specs.Lists.{has}
use Rattle.octets.specs.Bitmap.{bit}
use Rattle.octets.proofs.Digits.{digit_at, digit_lt, digit_or}
use Rattle.octets.proofs.Order.{same_or_not}
use Rattle.octets.proofs.Sets.{has-append}
use Rattle.tree.specs.ReadMap.{is_read, read_map}
use Rattle.tree.proofs.MapBits.{Bytes, bits-same, read_length, read-bytes}
use Rattle.tree.proofs.Marks.{map-bit}
use Rattle.many.specs.Many.{Union}

-- the first i bytes are joined, and the others as they were
pub record Joining (seen₀ own seen : List ℕ) (i : ℕ) : Type 0 where
  pub few : i ≤ 512
  pub sized : length seen ≡ 512
  pub done : (j : ℕ) → j < i → get_or seen j 0 ≡ bit_or (get_or seen₀ j 0) (get_or own j 0)
  pub rest : (j : ℕ) → i ≤ j → get_or seen j 0 ≡ get_or seen₀ j 0

pub joining-start : {own : List ℕ} (seen : List ℕ) → length seen ≡ 512 → Joining seen own seen 0
joining-start seen l = record { few = omega arith; sized = l; done = λ j h. let z : ⊥ = omega arith in absurd z; rest = λ j h. refl }

pub joining-next : {seen₀ own seen : List ℕ} {i : ℕ} → Joining seen₀ own seen i → i < 512
    → Joining seen₀ own (set seen i (bit_or (get_or seen i 0) (get_or own i 0))) (i + 1)
joining-next {seen₀} {own} {seen} {i} g l =
    record {
      few = omega arith;
      sized = length-set seen i x ∙ g.sized;
      done = λ j h.
          ⊎_elim
          (λ (e : j ≡ i).
          ap (λ (k : ℕ). get_or (set seen i x) k 0) e ∙ get_or-set_same seen i x 0 (omega (arith, g.sized)) ∙ ap (λ (k : ℕ). bit_or k (get_or own i 0)) (g.rest i (omega arith)) ∙
          ap (λ (k : ℕ). bit_or (get_or seen₀ k 0) (get_or own k 0)) (sym e))
          (λ (d : j ≡ i → ⊥). get_or-set_other seen i j x 0 d ∙ g.done j (omega arith))
          (same_or_not j i);
      rest = λ j h. get_or-set_other seen i j x 0 (λ e. omega arith) ∙ g.rest j (omega arith);
    }
  where
    x : ℕ
    x = bit_or (get_or seen i 0) (get_or own i 0)

or_digits : (a b : ℕ) → a < 2 → b < 2 → eqb (bit_or a b) 1 ≡ eqb a 1 || eqb b 1
or_digits zero zero l m = refl
or_digits zero (suc zero) l m = refl
or_digits (suc zero) zero l m = refl
or_digits (suc zero) (suc zero) l m = refl
or_digits zero (suc (suc b)) l m = let z : ⊥ = omega arith in absurd z
or_digits (suc zero) (suc (suc b)) l m = let z : ⊥ = omega arith in absurd z
or_digits (suc (suc a)) b l m = let z : ⊥ = omega arith in absurd z

pub joining-all : {seen₀ own seen : List ℕ} {i : ℕ} → Joining seen₀ own seen i → 512 ≤ i → Union seen₀ own seen
unfolding bit digit_at
joining-all {seen₀} {own} {seen} g l =
    record {
      each = λ n h.
          let x : ℕ = get_or seen₀ (n / 8) 0 in
          let y : ℕ = get_or own (n / 8) 0 in
          ap (λ (k : ℕ). eqb (digit_at k (n % 8)) 1) (g.done (n / 8) (omega arith)) ∙ ap (λ (k : ℕ). eqb k 1) (digit_or x y (n % 8)) ∙
          or_digits (digit_at x (n % 8)) (digit_at y (n % 8)) (digit_lt x (n % 8)) (digit_lt y (n % 8));
      sized = g.sized;
    }

-- block 0 is in both
read-append : (bs cs : List ℕ) (k : ℕ) → is_read bs k || is_read cs k ≡ is_read (bs ++ cs) k
unfolding is_read
read-append bs cs k = go (eqb k 0) (has k bs) ∙ ap (λ (b : Bool). eqb k 0 || b) (sym (has-append k bs cs))
  where
    go : (a b : Bool) → (a || b) || (a || has k cs) ≡ a || (b || has k cs)
    go true b = refl
    go false b = refl

pub union-read : {seen seen' : List ℕ} (bs cs : List ℕ) → seen ≡ read_map bs → Union seen (read_map cs) seen' → Bytes seen' → seen' ≡ read_map (bs ++ cs)
union-read {seen} {seen'} bs cs e u bytes =
    bits-same seen' (read_map (bs ++ cs)) (u.sized ∙ sym (read_length (bs ++ cs))) bytes (read-bytes (bs ++ cs))
    (λ k l.
    let h : k < 4096 = omega (arith, u.sized) in
    u.each k h ∙ ap₂ (λ (a b : Bool). a || b) (ap (λ (m : List ℕ). bit m k) e ∙ map-bit bs k h) (map-bit cs k h) ∙ read-append bs cs k ∙
    sym (map-bit (bs ++ cs) k h))
