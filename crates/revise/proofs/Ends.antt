-- One change in the tree, or where that does not go laid out anew: one law for each way that this ends.
-- Assumes nothing.
use mathlib.Core.Path.{◌≡◌, refl, ap, sym, subst, ◌∙◌}
use mathlib.Core.Logic.{◌≢◌}
use mathlib.Core.Bool.{Bool, true, false, true≢false}
use mathlib.Core.List.{List}
use Rattle.std.specs.Prelude.{⊤, Option as Maybe, Some, None, Result, Ok, Err, unwrap_or}
use Rattle.block.specs.declared.Refusal.{Refusal}
use Rattle.block.specs.Answers.{told}
use mathlib.Core.Option.{Option}
use Prim.Native.Nat.{ℕ, ◌≤◌}
use native.Mathlib.Omega.{arith}
use lib.ListN.{length}
use lib.Dec.{leb}
use borrow.Author.Tests.{le-leb}
use Rattle.spot.specs.Spots.{put, without}
use Rattle.spot.specs.declared.Spot.{Spot}
use Rattle.block.specs.Table.{table_sized, capacity}
use Rattle.tree.specs.Lookup.{live}
use Rattle.tree.specs.Sound.{sound}
use Rattle.tree.specs.Walk.{live_spots}
use Rattle.tree.proofs.Tables.{sound-from}
use Rattle.rebuild_theory.proofs.Rebuilt.{rebuilt-live, rebuilt-spots, rebuilt-sound}
use Rattle.batch.specs.Batches.{batch_says}
use Rattle.change.specs.Changing.{ChangedBy}
use Rattle.fill.specs.declared.Failure.{Failure}
use Rattle.fill.specs.declared.Failure.TheVariants.{NoRoom, Broken}
use Rattle.renew.specs.Renewed.{Renewed}
use Rattle.renew.proofs.Renewing.{renewed-whole}
use Rattle.revise.specs.Revising.{Lent, Leaves, WithinPost}
use Rattle.revise.specs.Steps.{step_after}
use Rattle.std.proofs.lemmas.Option.{none-some}
use Rattle.revise.proofs.Counts.{Planned, spots-are, live-are}

broken-not-room : Broken ≡ NoRoom → ⊥
broken-not-room e = let z : ◌≡◌ {A = ℕ} 0 1 = cc in omega arith

err-not-ok : {e : Failure} → ◌≡◌ {A = Result ⊤ Failure} (Err e) (Ok tt) → ⊥
err-not-ok e = let z : ◌≡◌ {A = ℕ} 0 1 = cc in omega arith

module _ {t t₁ w w₁ : List ℕ} {ss : List Spot} {ks : List ℕ} {bound : ℕ} {r : Result ⊤ Failure} (g : ChangedBy t t₁ w w₁ ss ks bound r) where
  leaves_by : {n : ℕ} → (n ≢ 0 → t₁ ≡ t) → n ≢ 4 → Leaves t t₁ w w₁ n
  leaves_by k d = record { sized = g.sized; lent_length = g.lent_length; rest = g.rest; kept = k; untouched = λ n. absurd (d n); light = λ s y. g.light y }

-- the tree took it
module _ {t t₁ w w₁ : List ℕ} {ss : List Spot} {ks : List ℕ} {bound : ℕ} (g : ChangedBy t t₁ w w₁ ss ks bound (Ok tt)) {ys : List Spot} {after : ℕ → Option ℕ} (p : Planned t ys after) where
  pub within-tree : ((k : ℕ) → batch_says ss ks k (live t k) ≡ after k) → WithinPost t t₁ w w₁ bound (length ys) after 0
  within-tree says =
      record {
        leaves = leaves_by g (λ n. absurd (n refl)) (λ n. omega arith);
        numbers = refl;
        accepted = λ s f. refl;
        stays_sound = λ s f. sound-from t₁ (g.shaped s) (omega (arith, f, ap length (spots s), g.bound_is));
        live_after = λ s f. lives s;
        exact = λ s f. g.bound_is ∙ sym f ∙ sym (live-are t₁ ∙ ap length (spots s));
      }
    where
      lives : sound t ≡ true → (k : ℕ) → live t₁ k ≡ after k
      lives s k = g.live_is s k ∙ says k

      spots : sound t ≡ true → live_spots t₁ ≡ ys
      spots s = spots-are p s (g.shaped s) (lives s)

-- a block that it read breaks a rule
pub within-lost : {t t₁ w w₁ : List ℕ} {ss : List Spot} {ks : List ℕ} {bound : ℕ} (ys : List Spot) (after : ℕ → Option ℕ) → ChangedBy t t₁ w w₁ ss ks bound (Err Broken)
    → WithinPost t t₁ w w₁ bound (length ys) after 3
within-lost ys after g =
    record {
      leaves = leaves_by g (λ n. g.kept) (λ n. omega arith);
      numbers = refl;
      accepted = λ s f. absurd (broken-not-room (g.whole s));
      stays_sound = λ s f. absurd (broken-not-room (g.whole s));
      live_after = λ s f. absurd (broken-not-room (g.whole s));
      exact = λ s f. absurd (broken-not-room (g.whole s));
    }

-- a change that is answered was taken in, or met a block that breaks a rule
answer-is : {q r : Result ⊤ Refusal} → Some q ≡ Some r → q ≡ r
answer-is {q} e = ap (λ (o : Maybe (Result ⊤ Refusal)). unwrap_or o q) e

pub within-answered : {t t₁ w w₁ : List ℕ} {ss : List Spot} {ks : List ℕ} {bound : ℕ} {q : Result ⊤ Refusal} (r : Result ⊤ Failure) {ys : List Spot} {after : ℕ → Option ℕ} → ChangedBy t t₁ w w₁ ss ks bound r
    → Planned t ys after → step_after r ≡ Some q → ((k : ℕ) → batch_says ss ks k (live t k) ≡ after k) → WithinPost t t₁ w w₁ bound (length ys) after (told q).number
within-answered {t} {t₁} {w} {w₁} {bound = bound} (Ok x) {ys} {after} g p e says =
    subst (λ (m : Result ⊤ Refusal). WithinPost t t₁ w w₁ bound (length ys) after (told m).number) (answer-is e) (within-tree g p says)
within-answered {t} {t₁} {w} {w₁} {bound = bound} (Err Broken) {ys} {after} g p e says =
    subst (λ (m : Result ⊤ Refusal). WithinPost t t₁ w w₁ bound (length ys) after (told m).number) (answer-is e) (within-lost ys after g)
within-answered (Err NoRoom) g p e says = absurd (none-some _ e)

pub plain-answered : {q : Result ⊤ Refusal} (r : Result ⊤ Failure) → step_after r ≡ Some q → (told q).detail ≡ 0
plain-answered (Ok x) e = subst (λ (m : Result ⊤ Refusal). (told m).detail ≡ 0) (answer-is e) refl
plain-answered (Err Broken) e = subst (λ (m : Result ⊤ Refusal). (told m).detail ≡ 0) (answer-is e) refl
plain-answered (Err NoRoom) e = absurd (none-some _ e)

-- one that is not had no room
pub step-anew : (r : Result ⊤ Failure) → step_after r ≡ None → r ≡ Err NoRoom
step-anew (Ok x) e = absurd (none-some _ (sym e))
step-anew (Err Broken) e = absurd (none-some _ (sym e))
step-anew (Err NoRoom) e = refl

-- the change may be followed by a renewal
pub lent_again : {t t₁ w w₁ : List ℕ} {ss : List Spot} {ks : List ℕ} {bound : ℕ} {r : Result ⊤ Failure} → Lent t w → ChangedBy t t₁ w w₁ ss ks bound r
    → (table_sized (length t₁) ≡ true) × (length t₁ ≤ length w₁)
lent_again l g = (ap table_sized g.sized ∙ l.sized, omega (arith, g.sized, g.lent_length, l.room))

-- it had no room, and the table is as it was: then the spots `ys` makes of it are laid out
module _ {t t₁ w w₁ : List ℕ} {ss : List Spot} {ks : List ℕ} {bound : ℕ} (g : ChangedBy t t₁ w w₁ ss ks bound (Err NoRoom))
    (ys : List ℕ → List Spot) (fits : List ℕ → Bool) {after : ℕ → Option ℕ} (p : Planned t (ys t) after) {t₂ w₂ : List ℕ} {q : Bool} (a₁ : Renewed t₁ t₂ w₁ w₂ (ys t₁) (fits t₁) q) where
  a : Renewed t t₂ w₁ w₂ (ys t) (fits t) q
  a = subst (λ (x : List ℕ). Renewed x t₂ w₁ w₂ (ys x) (fits x) q) g.kept a₁

  leaves-anew : {n : ℕ} → (n ≢ 0 → t₂ ≡ t) → n ≢ 4 → Leaves t t₂ w w₂ n
  leaves-anew k d =
      record {
        sized = a.sized;
        lent_length = a.lent ∙ g.lent_length;
        rest = a.rest ∙ g.rest;
        kept = k;
        untouched = λ n. absurd (d n);
        light = λ s y. absurd (err-not-ok (g.ready s y));
      }

  pub within-anew : q ≡ true → WithinPost t t₂ w w₂ bound (length (ys t)) after 0
  within-anew y =
      record {
        leaves = leaves-anew (λ n. absurd (n refl)) (λ n. omega arith);
        numbers = refl;
        accepted = λ s f. refl;
        stays_sound = λ s f. rebuilt-sound t₂ (ys t) (a.built y);
        live_after = λ s f k. rebuilt-live t₂ (ys t) (a.built y) k ∙ p.finds s k;
        exact = λ s f. (a.built y).bound ∙ sym (live-are t₂ ∙ ap length (rebuilt-spots t₂ (ys t) (a.built y)));
      }

  pub within-broken : (length (ys t) ≤ bound → fits t ≡ true) → q ≡ false → WithinPost t t₂ w w₂ bound (length (ys t)) after 3
  within-broken room y =
      record {
        leaves = leaves-anew (λ n. a.kept y) (λ n. omega arith);
        numbers = refl;
        accepted = λ s f. absurd (stuck s f);
        stays_sound = λ s f. absurd (stuck s f);
        live_after = λ s f. absurd (stuck s f);
        exact = λ s f. absurd (stuck s (omega (arith, f)));
      }
    where
      stuck : sound t ≡ true → length (ys t) ≤ bound → ⊥
      stuck s f = true≢false (sym (renewed-whole a s (room f)) ∙ y)

-- a spot put in
abbrev pub with_spot : Spot → List ℕ → List Spot
with_spot s t = put s (without s.key (live_spots t))

abbrev pub with_fits : Spot → List ℕ → Bool
with_fits s t = leb (length (with_spot s t)) (capacity (length t))

pub with-fits : (s : Spot) (t : List ℕ) {bound : ℕ} → bound ≤ capacity (length t) → length (with_spot s t) ≤ bound → with_fits s t ≡ true
with-fits s t few h = le-leb (length (with_spot s t)) (capacity (length t)) (omega arith)
