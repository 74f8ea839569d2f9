-- The table laid out anew, as it is or with one change: one law for each way that this ends.
-- Assumes nothing.
use mathlib.Core.Path.{◌≡◌, refl, ap, sym, subst, ◌∙◌}
use mathlib.Core.Bool.{Bool, true, false, ◌&&◌, and-false, true≢false, false≢true}
use mathlib.Core.List.{List}
use Prim.Native.Nat.{ℕ, ◌+◌, ◌*◌, ◌≤◌, ◌<◌}
use native.Mathlib.Omega.{arith}
use lib.Dec.{leb}
use lib.ListN.{length, drop}
use borrow.Author.Tests.{le-leb, lt-leb}
use Rattle.std.specs.Prelude.{Some, None}
use Rattle.octets.specs.Lists.{every, rising}
use Rattle.octets.proofs.Tests.{and_both}
use Rattle.octets.proofs.Records.{length-records}
use Rattle.octets.proofs.Parts.{drop_more}
use Rattle.spot.specs.Keys.{limited}
use Rattle.spot.specs.Query.{everything}
use Rattle.spot.specs.Spots.{keys, without, spot_at, spots_from, spots_in}
use Rattle.spot.specs.declared.Spot.{Spot}
use Rattle.spot.proofs.Canon.{length_without}
use Rattle.spot.proofs.Limits.{limited-spots}
use Rattle.block.specs.Table.{table_sized, capacity}
use Rattle.block.proofs.Making.{blocks-least, blocks-most}
use Rattle.tree.specs.Walk.{walk_table, live_spots}
use Rattle.tree.specs.Sound.{sound}
use Rattle.tree.proofs.Tables.{live-walk}
use Rattle.tree.proofs.Limited.{live-limited}
use Rattle.rebuild_theory.specs.Build.{Rebuilt}
use Rattle.build.specs.Building.{Segment}
use Rattle.renew.specs.Amended.{Amendable, Amended}
use Rattle.renew.specs.Layable.{layable}
use Rattle.renew.specs.Renewed.{Gathered, Renewed}
use Rattle.renew.proofs.Laying.{laid-rises, laid-few, laid-sound}

-- nothing changed
pub amended-none : (w : List ℕ) (n : ℕ) → Amended w w n (spots_in w n) n
amended-none w n = record { holds = refl; count = sym (length-records (spot_at w) 12 n 0); rest = refl; sized = refl }

-- nothing gathered
pub renew-broken : {t w w₁ : List ℕ} (after : List Spot) (b : Bool) → Gathered t w w₁ None → Renewed t t w w₁ after b false
renew-broken after b g =
    record {
      sized = refl;
      lent = g.lent;
      rest = g.rest;
      is = sym (ap (λ (x : Bool). b && x) (sym g.ok) ∙ and-false b);
      kept = λ h. refl;
      built = λ h. absurd (false≢true h);
    }

module _ {t w w₁ : List ℕ} {n : ℕ} (z : table_sized (length t) ≡ true) (lent : length t ≤ length w) (g : Gathered t w w₁ (Some n)) where
  can : layable (length t) (walk_table t everything) ≡ true
  can = sym g.ok

  up_is : rising (keys (live_spots t)) ≡ true
  up_is = sym (ap (λ (l : List Spot). rising (keys l)) (live-walk t)) ∙ laid-rises (length t) (walk_table t everything) can

  live-long : length (live_spots t) ≡ n
  live-long = sym (ap length (g.holds)) ∙ length-records (spot_at w₁) 12 n 0

  pub renew-few : n ≤ capacity (length t)
  renew-few = omega (arith, laid-few (length t) (walk_table t everything) can, ap length (live-walk t), live-long)

  room : 12 * (n + 1) ≤ length t
  room = omega (arith, renew-few, blocks-least (length t) z)

  pub renew-amendable : Amendable w₁ n
  renew-amendable =
      record {
        few = omega (arith, renew-few, blocks-most (length t) z);
        room = omega (arith, room, g.lent, lent);
        rises = ap (λ (l : List Spot). rising (keys l)) (g.holds) ∙ up_is;
        limits = limited-spots w₁ n 0 ∙ ap (λ (l : List Spot). every limited (keys l)) (g.holds) ∙ live-limited t;
      }

  module _ {w₂ : List ℕ} {m : ℕ} (f : List Spot → List Spot) (a : Amended w₁ w₂ n (f (spots_in w₁ n)) m) where
    holds-is : spots_from w₂ 0 m ≡ f (live_spots t)
    holds-is = a.holds ∙ ap f (g.holds)

    count-is : m ≡ length (f (live_spots t))
    count-is = a.count ∙ ap (λ (l : List Spot). length (f l)) (g.holds)

    lent_is : length w₂ ≡ length w
    lent_is = a.sized ∙ g.lent

    rest-is : drop (length t) w₂ ≡ drop (length t) w
    rest-is = drop_more w₂ w₁ (12 * (n + 1)) (length t) room a.rest ∙ g.rest

    -- too many
    pub renew-full : capacity (length t) < m → Renewed t t w w₂ (f (live_spots t)) (leb (length (f (live_spots t))) (capacity (length t))) false
    renew-full h =
        record {
          sized = refl;
          lent = lent_is;
          rest = rest-is;
          is =
              sym (ap (λ (x : Bool). x && layable (length t) (walk_table t everything))
              (lt-leb (length (f (live_spots t))) (capacity (length t)) (omega (arith, count-is))));
          kept = λ y. refl;
          built = λ y. absurd (false≢true y);
        }

    pub renew-segment : m ≤ capacity (length t) → (rising (keys (live_spots t)) ≡ true → rising (keys (f (live_spots t))) ≡ true)
        → (every limited (keys (live_spots t)) ≡ true → every limited (keys (f (live_spots t))) ≡ true) → Segment w₂ 0 m
    renew-segment few up inside =
        record {
          inside = omega (arith, lent_is, lent);
          few = omega (arith, blocks-most (length t) z);
          rises = ap (λ (l : List Spot). rising (keys l)) holds-is ∙ up up_is;
          limits = limited-spots w₂ m 0 ∙ ap (λ (l : List Spot). every limited (keys l)) holds-is ∙ inside (live-limited t);
        }

    pub renew-fits : m ≤ capacity (length t) → leb (length (f (live_spots t))) (capacity (length t)) ≡ true
    renew-fits few = le-leb (length (f (live_spots t))) (capacity (length t)) (omega (arith, count-is))

    pub renew-built : {t' : List ℕ} {b : Bool} → b ≡ true → Rebuilt t' (spots_from w₂ 0 m) × (length t' ≡ length t) → Renewed t t' w w₂ (f (live_spots t)) b true
    renew-built {t'} {b} e h =
        record {
          sized = h.1;
          lent = lent_is;
          rest = rest-is;
          is = sym (and_both b (layable (length t) (walk_table t everything)) e can);
          kept = λ y. absurd (true≢false y);
          built = λ y. subst (Rebuilt t') holds-is h.0;
        }

  -- one taken out leaves no more than there were
  pub out-few : {w₂ : List ℕ} {m : ℕ} (k : ℕ) → Amended w₁ w₂ n (without k (spots_in w₁ n)) m → m ≤ capacity (length t)
  out-few k a = omega (arith, count-is (without k) a, length_without k (live_spots t), live-long, renew-few)

-- a sound table always takes spots that fit
pub renewed-whole : {t t' w w' : List ℕ} {after : List Spot} {fits r : Bool} → Renewed t t' w w' after fits r → sound t ≡ true → fits ≡ true → r ≡ true
renewed-whole {t} {fits = fits} g s e = g.is ∙ and_both fits (layable (length t) (walk_table t everything)) e (laid-sound t s)
