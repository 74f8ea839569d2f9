-- The parts of a block's body put together.
-- Assumes nothing.
use mathlib.Core.Path.{◌≡◌, sym, ap, ap₂, ◌∙◌}
use mathlib.Core.Bool.{Bool, true, false, ◌&&◌}
use mathlib.Core.List.{List}
use Prim.Native.Nat.{ℕ}
use native.Mathlib.Omega.{arith}
use lib.ListN.{drop}
use Rattle.std.specs.Prelude.{Some, None}
use Rattle.octets.specs.Lists.{every, rising_from, rising}
use Rattle.spot.specs.Keys.{end_key}
use Rattle.block.specs.declared.Extent.{Extent}
use Rattle.block.specs.declared.Front.{Front}
use Rattle.block.specs.declared.Asked.{Asked}
use Rattle.block.specs.NodeRules.{stands_in}
use Rattle.block.specs.Checks.{◌and◌, start_of, keys_p, keys_i, keys_d, low_rank, ranks_under, comes_before, rises_inside, rises_under, PointsAre, lists_fine, rest_fine, apart, is_zero, above_tops, entries_fine, blocks_fine, agrees_fine}
use Rattle.octets.proofs.Tests.{and_left}
use Rattle.octets.proofs.Rising.{rising-lower}
use Rattle.block.proofs.Shut.{fst, snd}

module _ (s : List ℕ) (blocks : ℕ) (a : Asked) (h : Front) where
  pub lists-stop : {floor : ℕ} → floor ≡ start_of a → PointsAre floor (keys_p s h) None → false ≡ lists_fine s a h
  unfolding lists_fine ◌and◌
  lists-stop e p =
      ap (λ (x : Bool). (x && rises_under (start_of a) (low_rank s h) (keys_i s h)) && rises_under (start_of a) (low_rank s h) (keys_d s h))
      (sym p ∙ ap (λ (f : ℕ). rises_inside f (keys_p s h)) e)

  pub lists-are : {floor : ℕ} {q : Extent} {r r' : Bool} → floor ≡ start_of a → PointsAre floor (keys_p s h) (Some q)
      → r ≡ rises_under floor q.low (keys_i s h) → r' ≡ rises_under floor q.low (keys_d s h) → r && r' ≡ lists_fine s a h
  unfolding lists_fine ◌and◌
  lists-are {q = q} e p u v =
      ap₂ (λ (x y : Bool). x && y)
      (ap₂ (λ (x y : Bool). x && y) (sym p.0 ∙ ap (λ (f : ℕ). rises_inside f (keys_p s h)) e)
      (u ∙ ap₂ (λ (f l : ℕ). rises_under f l (keys_i s h)) e p.1.least))
      (v ∙ ap₂ (λ (f l : ℕ). rises_under f l (keys_d s h)) e p.1.least)

  both-rise : (low : ℕ) (ks : List ℕ) → rises_under (start_of a) low ks ≡ true → rising ks ≡ true
  both-rise low ks p = rising-lower 0 (start_of a) ks (omega arith) (and_left (rising_from (start_of a) ks) (every (comes_before end_key) ks) (and_left (rises_inside (start_of a) ks) (every (ranks_under low) ks) p))

  pub inserts-rise : lists_fine s a h ≡ true → rising (keys_i s h) ≡ true
  unfolding lists_fine
  inserts-rise p = both-rise (low_rank s h) (keys_i s h) (snd _ _ (fst _ _ p))

  pub deletes-rise : lists_fine s a h ≡ true → rising (keys_d s h) ≡ true
  unfolding lists_fine
  deletes-rise p = both-rise (low_rank s h) (keys_d s h) (snd _ _ p)

  pub rest-is : {q : Extent} {floor own low : ℕ} {r0 r1 r2 r3 r4 : Bool} → PointsAre floor (keys_p s h) (Some q) → floor ≡ start_of a → own ≡ stands_in a
      → low ≡ above_tops h.p q.low
      → r0 ≡ apart (keys_i s h) (keys_d s h) → r1 ≡ every is_zero (drop h.used s)
      → r2 ≡ entries_fine s h.c blocks own low floor
      → r3 ≡ blocks_fine s h.c → r4 ≡ agrees_fine a h.p q.low q.high → r0 && r1 && r2 && r3 && r4 ≡ rest_fine s blocks a h
  unfolding rest_fine ◌and◌
  rest-is {floor = floor} {low = low} p ef eo el e0 e1 e2 e3 e4 =
      ap₂ (λ (x y : Bool). x && y)
      (ap₂ (λ (x y : Bool). x && y)
      (ap₂ (λ (x y : Bool). x && y) (ap₂ (λ (x y : Bool). x && y) e0 e1)
      (e2 ∙ ap (λ (o : ℕ). entries_fine s h.c blocks o low floor) eo
      ∙ ap₂ (λ (l f : ℕ). entries_fine s h.c blocks (stands_in a) l f) (el ∙ ap (above_tops h.p) p.1.least) ef))
      e3)
      (e4 ∙ ap₂ (λ (l m : ℕ). agrees_fine a h.p l m) p.1.least p.1.most)
