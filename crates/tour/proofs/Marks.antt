-- The blocks that a Report of a pressed tour reads are those that the sweep has it meet.
-- Assumes nothing.
use mathlib.Core.Path.{◌≡◌, refl, sym, ap, ◌∙◌}
use mathlib.Core.Logic.{inl, inr, ⊎_elim}
use mathlib.Core.Bool.{Bool, true, false, cond, ◌||◌}
use mathlib.Core.List.Memᴰ
use mathlib.Core.List.{List, [], ◌∷◌, Memᴰ}
use Prim.Native.Nat.{ℕ, zero, suc, ◌-◌, ◌≤◌, ◌<◌}
use native.Mathlib.Omega.{arith}
use lib.ListN.{length}
use lib.Dec.{eqb}
use Rattle.octets.specs.Lists.{has, keep, up_to}
use Rattle.octets.specs.Bitmap.{bit}
use Rattle.octets.proofs.Order.{less-or-not}
use Rattle.octets.proofs.Tests.{keep-in}
use Rattle.octets.proofs.Sets.{has-mem, mem-has, has-not, has-keep}
use Rattle.octets.proofs.Once.{fewer}
use Rattle.octets.proofs.UpTo.{has-up_to, has-up_to-not}
use Rattle.spot.specs.Query.{least_of}
use Rattle.spot.specs.declared.Spot.{Spot}
use Rattle.spot.specs.declared.Query.{Query}
use Rattle.tree.specs.ReadMap.{is_read, read_map, ones}
use Rattle.tree.proofs.Marks.{map-bit, ones-few}
use Rattle.sweep.specs.Sweep.{StandingBlock, standing_at}
use Rattle.sweep.specs.Pressed.{tiles, pressed, Pressable}
use Rattle.sweep.specs.Report.{spanned, blocks_met, numbers}
use Rattle.sweep.specs.Laws.{SweepLaws}
use Rattle.sweep.proofs.Steps.{numbers-in, numbers-from}
use Rattle.catalogue.specs.Catalogue.{tile_entry, asks, tiles_read}
use Rattle.catalogue.proofs.Blocks.{blocks-pressed}
use Rattle.catalogue.proofs.Fine.{asks-met}
use Rattle.tour.proofs.Steps.{read-once}

-- ---- the numbers of blocks that stand

length-numbers : (st : List StandingBlock) → length (numbers st) ≡ length st
length-numbers [] = refl
length-numbers (s ∷ st) = ap suc (length-numbers st)

-- what is met stands
pub met-stands : (q : Query) (ss : List Spot) {s : StandingBlock} → Memᴰ s (blocks_met q ss) → Memᴰ s (standing_at (least_of q) ss)
unfolding blocks_met
met-stands q ss i = keep-in (spanned q) (standing_at (least_of q) ss) i

-- ---- the blocks read

cond-self : (b : Bool) → cond b true false ≡ b
cond-self true = refl
cond-self false = refl

cond-false : (b : Bool) → cond b false false ≡ false
cond-false true = refl
cond-false false = refl

module _ (ss : List Spot) (g : Pressable ss) (w : SweepLaws ss) (q : Query) where
  met-inside : {b : ℕ} → Memᴰ b (numbers (blocks_met q ss)) → (0 < b) × (b ≤ length (tiles ss))
  met-inside {b} i =
      let r = numbers-from (blocks_met q ss) i in
      w.inside (least_of q) b (Memᴰ.cast r.2 (numbers-in (standing_at (least_of q) ss) (met-stands q ss r.1)))

  -- those of the tiles that are asked for
  read_is : tiles_read (pressed ss) q ≡ keep (λ b. asks q (suc (length (tiles ss))) b (tile_entry (pressed ss) b)) (up_to 1 (length (tiles ss)))
  unfolding tiles_read
  read_is =
      let k : suc (length (tiles ss)) - 1 ≡ length (tiles ss) = omega arith in
      ap (λ (m : ℕ). keep (λ b. asks q m b (tile_entry (pressed ss) b)) (up_to 1 (m - 1))) (blocks-pressed ss g w)
      ∙ ap (λ (n : ℕ). keep (λ b. asks q (suc (length (tiles ss))) b (tile_entry (pressed ss) b)) (up_to 1 n)) k

  read_has : (b : ℕ) → has b (tiles_read (pressed ss) q)
      ≡ cond (asks q (suc (length (tiles ss))) b (tile_entry (pressed ss) b)) (has b (up_to 1 (length (tiles ss)))) false
  read_has b = ap (has b) read_is ∙ has-keep (λ k. asks q (suc (length (tiles ss))) k (tile_entry (pressed ss) k)) b (up_to 1 (length (tiles ss)))

  pub read-met : (b : ℕ) → has b (tiles_read (pressed ss) q) ≡ has b (numbers (blocks_met q ss))
  read-met zero =
      read_has 0 ∙ rw (has-up_to-not 0 1 (length (tiles ss)) (inl (omega arith)))
      (cond-false (asks q (suc (length (tiles ss))) 0 (tile_entry (pressed ss) 0)) ∙ sym (has-not 0 (numbers (blocks_met q ss)) (λ i. omega (arith, met-inside i))))
  read-met (suc i) =
      read_has (suc i)
      ∙ ⊎_elim
      (λ (l : suc i ≤ length (tiles ss)). rw (has-up_to (suc i) 1 (length (tiles ss)) (omega arith) (omega arith))
      (cond-self (asks q (suc (length (tiles ss))) (suc i) (tile_entry (pressed ss) (suc i))) ∙ asks-met ss g w i l q))
      (λ (l : length (tiles ss) < suc i). rw (has-up_to-not (suc i) 1 (length (tiles ss)) (inr (omega arith)))
      (cond-false (asks q (suc (length (tiles ss))) (suc i) (tile_entry (pressed ss) (suc i)))
      ∙ sym (has-not (suc i) (numbers (blocks_met q ss)) (λ j. omega (arith, met-inside j)))))
      (less-or-not (suc i) (length (tiles ss)))

  pub read-to-met : {b : ℕ} → Memᴰ b (tiles_read (pressed ss) q) → Memᴰ b (numbers (blocks_met q ss))
  read-to-met {b} i = has-mem b (numbers (blocks_met q ss)) (sym (read-met b) ∙ mem-has b (tiles_read (pressed ss) q) i)

  pub met-to-read : {b : ℕ} → Memᴰ b (numbers (blocks_met q ss)) → Memᴰ b (tiles_read (pressed ss) q)
  met-to-read {b} i = has-mem b (tiles_read (pressed ss) q) (read-met b ∙ mem-has b (numbers (blocks_met q ss)) i)

  -- ---- the map

  pub marks-met : (b : ℕ) → b < 4096 → bit (read_map (tiles_read (pressed ss) q)) b ≡ eqb b 0 || has b (numbers (blocks_met q ss))
  unfolding is_read
  marks-met b l = map-bit (tiles_read (pressed ss) q) b l ∙ ap (λ (h : Bool). eqb b 0 || h) (read-met b)

  pub ones-met : ones (read_map (tiles_read (pressed ss) q)) ≤ suc (length (blocks_met q ss))
  ones-met =
      let f = fewer (tiles_read (pressed ss) q) (numbers (blocks_met q ss)) (read-once (pressed ss) q) (λ b i. read-to-met i) in
      omega (arith, f, ones-few (tiles_read (pressed ss) q), length-numbers (blocks_met q ss))
