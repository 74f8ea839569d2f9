-- The live spots laid out anew with rows carried out: one law for each way that this ends.
-- Assumes nothing.
use mathlib.Core.Path.{◌≡◌, refl, ap, sym, subst, ◌∙◌}
use mathlib.Core.Bool.{true, false, true≢false, false≢true}
use mathlib.Core.List.{List}
use Prim.Native.Nat.{ℕ, ◌+◌, ◌-◌, ◌*◌, ◌≤◌}
use native.Mathlib.Omega.{arith}
use lib.ListN.{length, get_or, take, drop, length-drop}
use lib.Seq.{length-take-le, get_or-take, get_or-drop}
use borrow.Rule.Slice.PartMut.{mid_of}
use Rattle.octets.specs.Lists.{every, records, rising}
use Rattle.octets.proofs.Order.{stride}
use Rattle.octets.proofs.Records.{records-cong}
use Rattle.octets.proofs.Parts.{drop_more}
use Rattle.spot.specs.Keys.{limited}
use Rattle.spot.specs.Query.{everything}
use Rattle.spot.specs.Spots.{keys, spot_at, spots_from, spots_in}
use Rattle.spot.specs.declared.Spot.{Spot}
use Rattle.spot.proofs.Card.{spot-cong}
use Rattle.spot.proofs.Limits.{limited-spots}
use Rattle.block.specs.Table.{capacity}
use Rattle.block.proofs.Making.{blocks-least, blocks-most}
use Rattle.tree.specs.Walk.{walk_table, live_spots}
use Rattle.tree.proofs.Tables.{live-walk}
use Rattle.rebuild_theory.specs.Build.{Rebuilt}
use Rattle.build.specs.Building.{Segment}
use Rattle.renew.specs.Renewed.{Gathered}
use Rattle.renew.proofs.Laying.{laid-rises, laid-sound}
use Rattle.renew.proofs.Renewing.{renew-few, renew-amendable}
use Rattle.std.specs.Prelude.{Option, Some, None}
use Rattle.rows.specs.declared.Row.{Row}
use Rattle.rows.specs.Rows.{merged_rows}
use Rattle.merge.specs.Merging.{MergeReady, MergedAt}
use Rattle.revise.specs.Revising.{Lent}
use Rattle.carry.specs.Carrying.{RowsCarried}

-- n spots from index a on, in the part that begins there
spots-part : (w : List ℕ) (a k n : ℕ) → 12 * n ≤ k → spots_from (mid_of a k w) 0 n ≡ records (spot_at w) 12 n a
spots-part w a k n fits =
    records-cong (spot_at (mid_of a k w)) (spot_at w) 12 n (12 * 0) a
    (λ i l. spot-cong (mid_of a k w) w (12 * 0 + 12 * i) (a + 12 * i)
    (λ j m. get_or-take k (drop a w) (12 * 0 + 12 * i + j) 0 (omega (arith, stride 12 l)) ∙ get_or-drop a w (12 * 0 + 12 * i + j) 0 ∙
    ap (λ (x : ℕ). get_or w x 0) (omega arith)))

pub part-wide : (a b : ℕ) → a + b - a ≡ b
part-wide a b = omega arith

-- nothing gathered
pub carried-broken : (rows : List Row) {t w w₁ : List ℕ} → Gathered t w w₁ None → RowsCarried rows t t w w₁ false
carried-broken rows {t} g =
    record {
      sized = refl;
      lent_length = g.lent;
      rest = g.rest;
      kept = λ h. refl;
      built = λ h. absurd (false≢true h);
      laid = λ h. absurd (false≢true h);
      fits = λ s h. absurd (false≢true (g.ok ∙ laid-sound t s));
    }

module _ {t w w₁ : List ℕ} {live : ℕ} (l : Lent t w) (g : Gathered t w w₁ (Some live)) where
  few : live ≤ capacity (length t)
  few = renew-few l.sized l.room g

  pub live-rising : rising (keys (live_spots t)) ≡ true
  live-rising =
      sym (ap (λ (x : List Spot). rising (keys x)) (live-walk t)) ∙ laid-rises (length t) (walk_table t everything) (sym g.ok)

  -- room for both lists
  both : 12 * capacity (length t) + 12 * capacity (length t) ≤ length t
  both = omega (arith, blocks-least (length t) l.sized)

  pub carried-mergeable : (to most : ℕ) → to ≡ 12 * most → most ≡ capacity (length t) → MergeReady w₁ live to most
  carried-mergeable to most e f =
      let m = renew-amendable l.sized l.room g in
      record {
        few = m.few;
        front = omega (arith, few);
        room = omega (arith, both, g.lent, l.room);
        rises = m.rises;
        limits = m.limits;
      }

  module _ {rows : List Row} {n to most : ℕ} {w₂ : List ℕ} {m : Option ℕ} (e : to ≡ 12 * most) (f : most ≡ capacity (length t)) (a : MergedAt rows n w₁ w₂ live to most m) where
    lent_is : length w₂ ≡ length w
    lent_is = a.sized ∙ g.lent

    rest-is : drop (length t) w₂ ≡ drop (length t) w
    rest-is = drop_more w₂ w₁ (to + 12 * most) (length t) (omega (arith, both)) a.rest ∙ g.rest

    abbrev after : List Spot
    after = merged_rows (take n rows) (live_spots t)

    after_is : merged_rows (take n rows) (spots_in w₁ live) ≡ after
    after_is = ap (merged_rows (take n rows)) g.holds

  module _ {rows : List Row} {n to most : ℕ} {w₂ : List ℕ} (e : to ≡ 12 * most) (f : most ≡ capacity (length t)) where
    -- too many
    pub carried-over : MergedAt rows n w₁ w₂ live to most None → RowsCarried (take n rows) t t w w₂ false
    carried-over a =
        record {
          sized = refl;
          lent_length = lent_is e f a;
          rest = rest-is e f a;
          kept = λ h. refl;
          built = λ h. absurd (false≢true h);
          laid = λ h. absurd (false≢true h);
          fits = λ s h. let no : ⊥ = omega (arith, a.over, ap length (after_is e f a), h) in absurd no;
        }

    -- they fit, and are laid out
    module _ {spots : ℕ} (a : MergedAt rows n w₁ w₂ live to most (Some spots)) where
      pub carried-inside : to + 12 * spots ≤ length w₂
      carried-inside = omega (arith, a.few, both, lent_is e f a, l.room)

      module _ (k : ℕ) (wide : k ≡ 12 * spots) where
        part-is : spots_from (mid_of to k w₂) 0 spots ≡ merged_rows (take n rows) (live_spots t)
        part-is = spots-part w₂ to k spots (omega arith) ∙ a.fits ∙ after_is e f a

        pub carried-segment : rising (keys (merged_rows (take n rows) (live_spots t))) ≡ true → every limited (keys (merged_rows (take n rows) (live_spots t))) ≡ true
            → Segment (mid_of to k w₂) 0 spots
        carried-segment up inside =
            record {
              inside = omega (arith, length-take-le k (drop to w₂) (omega (arith, length-drop to w₂, a.few, both, lent_is e f a, l.room)));
              few = omega (arith, a.few, blocks-most (length t) l.sized);
              rises = ap (λ (x : List Spot). rising (keys x)) part-is ∙ up;
              limits = limited-spots (mid_of to k w₂) spots 0 ∙ ap (λ (x : List Spot). every limited (keys x)) part-is ∙ inside;
            }

        pub carried-built : {t' : List ℕ} → Rebuilt t' (spots_from (mid_of to k w₂) 0 spots) × (length t' ≡ length t) → RowsCarried (take n rows) t t' w w₂ true
        carried-built {t'} h =
            record {
              sized = h.1;
              lent_length = lent_is e f a;
              rest = rest-is e f a;
              kept = λ x. absurd (true≢false x);
              built = λ x. subst (Rebuilt t') part-is h.0;
              laid = λ x. sym g.ok;
              fits = λ s x. refl;
            }
