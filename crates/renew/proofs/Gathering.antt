-- The live spots gathered in the scratch: one law for each way that this ends.
-- Assumes nothing.
use mathlib.Core.Path.{◌≡◌, refl, ap, sym, subst, ◌∙◌}
use mathlib.Core.Bool.{Bool, true, false, not, true≢false}
use mathlib.Core.List.{List, ◌++◌}
use Prim.Native.Nat.{ℕ, ◌+◌, ◌-◌, ◌*◌, ◌≤◌, ◌<◌}
use native.Mathlib.Omega.{arith}
use lib.ListN.{length, drop, length-append, length-drop}
use lib.Seq.{drop-append-add, drop-drop}
use borrow.Author.Tests.{not-true, not-false}
use Rattle.std.specs.Prelude.{Some, None}
use Rattle.octets.specs.Lists.{rising, rising_from}
use Rattle.octets.proofs.Tests.{refuted}
use Rattle.spot.specs.Query.{everything}
use Rattle.spot.specs.Spots.{keys, spots_bytes, spots_in, keys_from}
use Rattle.spot.specs.declared.Spot.{Spot}
use Rattle.spot.specs.declared.Query.{Query}
use Rattle.spot.proofs.Buffers.{keys-records}
use Rattle.spot.proofs.Stored.{length-spots_bytes}
use Rattle.block.specs.Table.{capacity}
use Rattle.tree.specs.Walk.{walk_table, is_broken, spots, live_spots}
use Rattle.tree.proofs.Tables.{live-walk}
use Rattle.renew.specs.Layable.{layable}
use Rattle.renew.specs.Renewed.{Gathered}
use Rattle.renew.proofs.Laying.{laid-whole, laid-rises, laid-few, laid-make}

-- stopped, where the spots can't be laid out anew
gather-stops : (t w w' : List ℕ) → length w' ≡ length w → drop (length t) w' ≡ drop (length t) w
    → (layable (length t) (walk_table t everything) ≡ true → ⊥)
    → Gathered t w w' None
gather-stops t w w' l d never =
    record { lent = l; rest = d; ok = sym (refuted (layable (length t) (walk_table t everything)) never); holds = tt }

-- a rule is broken
pub gather-broken : (t w : List ℕ) → false ≡ not (is_broken (walk_table t everything)) → Gathered t w w None
gather-broken t w e =
    gather-stops t w w refl refl
    (λ y. true≢false (sym (not-false (is_broken (walk_table t everything)) (sym e)) ∙ laid-whole (length t) (walk_table t everything) y))

-- there are more spots than the capacity
pub gather-many : (t w : List ℕ) (n : ℕ) → n ≡ length (spots (walk_table t everything)) → capacity (length t) < n → Gathered t w w None
gather-many t w n e h = gather-stops t w w refl refl (λ y. omega (arith, e, h, laid-few (length t) (walk_table t everything) y))

-- the spots of a query are collected at the front of the scratch
abbrev Got : List ℕ → Query → List ℕ → List ℕ → ℕ → Type 0
Got t q w w' r = (r ≡ length (spots (walk_table t q))) × (w' ≡ spots_bytes (spots (walk_table t q)) ++ drop (12 * r) w) × (spots_in w' r ≡ spots (walk_table t q))

pub got-as : (t w : List ℕ) {w' : List ℕ} {q : Query} {r : ℕ} → q ≡ everything → Got t q w w' r → Got t everything w w' r
got-as t w {w'} {q} {r} e = subst (λ (x : Query). Got t x w w' r) e

module _ (t w w' : List ℕ) (n r : ℕ) (few : n ≤ capacity (length t)) (whole : true ≡ not (is_broken (walk_table t everything)))
    (count : n ≡ length (spots (walk_table t everything)))
    (got : Got t everything w w' r) (room : length t ≤ length w) where
  abbrev front : List ℕ
  front = spots_bytes (spots (walk_table t everything))

  front_long : length front ≡ 12 * r
  front_long = length-spots_bytes (spots (walk_table t everything)) ∙ ap (λ (i : ℕ). 12 * i) (sym got.0)

  inside : 12 * r ≤ length t
  inside = omega (arith, got.0, count, few)

  lent_is : length w' ≡ length w
  lent_is = ap length got.1 ∙ length-append front (drop (12 * r) w) ∙ omega (arith, front_long, length-drop (12 * r) w, inside)

  rest-is : drop (length t) w' ≡ drop (length t) w
  rest-is =
      let k : ℕ = length t - 12 * r in
      let a : length t ≡ length front + k = omega (arith, front_long, inside) in
      let b : 12 * r + k ≡ length t = omega (arith, inside) in
      ap (drop (length t)) got.1
      ∙ ap (λ (i : ℕ). drop i (front ++ drop (12 * r) w)) a
      ∙ drop-append-add front (drop (12 * r) w) k
      ∙ drop-drop k (12 * r) w
      ∙ ap (λ (i : ℕ). drop i w) b

  list-is : spots_in w' n ≡ live_spots t
  list-is = ap (spots_in w') (count ∙ sym got.0) ∙ got.2 ∙ live-walk t

  rises-are : rising_from 0 (keys_from w' 12 n 0) ≡ rising (keys (live_spots t))
  rises-are = ap rising (sym (keys-records w' 12 n 0)) ∙ ap (λ (ss : List Spot). rising (keys ss)) list-is

  -- an identity stands there twice
  pub gather-twice : (b : Bool) → b ≡ rising_from 0 (keys_from w' 12 n 0) → b ≡ false → Gathered t w w' None
  gather-twice b e h = gather-stops t w w' lent_is rest-is (λ y. true≢false (sym (laid-rises (length t) (walk_table t everything) y) ∙ ap (λ (ss : List Spot). rising (keys ss)) (live-walk t) ∙ sym rises-are ∙ sym e ∙ h))

  pub gather-all : (b : Bool) → b ≡ rising_from 0 (keys_from w' 12 n 0) → b ≡ true → Gathered t w w' (Some n)
  gather-all b e h =
      record {
        lent = lent_is;
        rest = rest-is;
        ok =
            sym (laid-make (length t) (walk_table t everything) (not-true (is_broken (walk_table t everything)) (sym whole))
            (ap (λ (ss : List Spot). rising (keys ss)) (live-walk t) ∙ sym rises-are ∙ sym e ∙ h) (omega (arith, count, few)));
        holds = list-is;
      }
