-- The post of Rebuild: one law for each way that it ends.
-- Assumes nothing.
use mathlib.Core.Path.{◌≡◌, refl, ap, sym, ◌∙◌}
use mathlib.Core.Logic.{◌≢◌}
use mathlib.Core.Bool.{Bool, true, false, cond, true≢false}
use mathlib.Core.List.{List, ◌++◌}
use Prim.Native.Nat.{ℕ, ◌≤◌, ◌<◌}
use native.Mathlib.Omega.{arith}
use lib.ListN.{length, drop, replicate}
use borrow.Author.Tests.{le-leb, lt-leb}
use Rattle.octets.specs.Lists.{has}
use Rattle.spot.specs.Query.{everything}
use Rattle.block.specs.declared.Answer.{Answer}
use Rattle.block.specs.Answers.{answer}
use Rattle.block.specs.Table.{table_sized}
use Rattle.tree.specs.Lookup.{live}
use Rattle.tree.specs.Walk.{walk_table, live_spots}
use Rattle.tree.specs.Sound.{sound}
use Rattle.rebuild_theory.proofs.Rebuilt.{rebuilt-sound, rebuilt-spots, rebuilt-settled, rebuild-live}
use Rattle.table.specs.Calls.{rebuild, updates}
use Rattle.table.specs.Answers.{with_scratch, lent, early_number, outcomes}
use Rattle.table.specs.Updates.{scratch_left, UpdatePost, RebuildPost}
use Rattle.table.proofs.Answering.{number_short, number-lent, number-fine}
use Rattle.table.proofs.Changes.{number_is_lem, detail-is, update-short, update-lent}
use Rattle.renew.specs.Layable.{layable}
use Rattle.renew.specs.Renewed.{Renewed}
use Rattle.renew.proofs.Laying.{laid-header}
use Rattle.renew.proofs.Renewing.{renewed-whole}
use Rattle.revise.proofs.Counts.{live-are}

abbrev asked : List ℕ → List ℕ → ℕ
asked t w = early_number (with_scratch t w) rebuild

module _ (t w : List ℕ) (r : Answer) where
  -- refused by the lengths
  rebuild-refused : (n : ℕ) → n ≢ 0 → asked t w ≡ n → r ≡ answer n 0 → UpdatePost rebuild (answer 0 0) (live t) t w r t w → RebuildPost t w r t w
  rebuild-refused n nonzero l a u =
      record {
        update = u;
        detail = detail-is a;
        answered = λ h. absurd (nonzero (sym l ∙ h));
        anew = λ h. absurd (nonzero (sym (number_is_lem a) ∙ h));
        exact = λ h. absurd (nonzero (sym (number_is_lem a) ∙ h));
        carried_out = λ h. absurd (nonzero (sym (number_is_lem a) ∙ h));
      }

  pub rebuild-short : table_sized (length t) ≡ false → r ≡ answer 1 0 → RebuildPost t w r t w
  rebuild-short e a = rebuild-refused 1 (λ x. omega arith) (number_short (with_scratch t w) rebuild e) a (update-short rebuild _ (live t) t w r e a)

  pub rebuild-lent : table_sized (length t) ≡ true → length w < length t → r ≡ answer 2 0 → RebuildPost t w r t w
  rebuild-lent e h a =
      let short : lent (with_scratch t w) updates ≡ false = lt-leb (length t) (length w) h in
      rebuild-refused 2 (λ x. omega arith) (number-lent (with_scratch t w) rebuild e short) a (update-lent rebuild _ (live t) t w r e short a)

-- the lengths are right: laid out anew, or a rule is broken, and then the scratch is cleared
module _ (t t' w w' w'' : List ℕ) (r : Answer) (ok : Bool) (e : table_sized (length t) ≡ true) (l : length t ≤ length w) (g : Renewed t t' w w' (live_spots t) true ok)
    (cleared : w'' ≡ replicate (length t) 0 ++ drop (length t) w') where
  fine : asked t w ≡ 0
  fine = number-fine (with_scratch t w) rebuild e (le-leb (length t) (length w) l) refl refl

  left : w'' ≡ replicate (length t) 0 ++ drop (length t) w
  left = cleared ∙ ap (λ (x : List ℕ). replicate (length t) 0 ++ x) g.rest

  -- the number, by what the renewal answered
  number_by : r ≡ answer (cond ok 0 3) 0 → r.number ≡ cond (layable (length t) (walk_table t everything)) 0 3
  number_by a = number_is_lem a ∙ ap (λ (b : Bool). cond {A = ℕ} b 0 3) g.is

  pub rebuild-broken : ok ≡ false → r ≡ answer 3 0 → RebuildPost t w r t' w''
  unfolding scratch_left
  rebuild-broken h a =
      record {
        update =
            record {
              detail = λ n z. detail-is a;
              refusals = λ n. absurd (n fine);
              header = λ n b. number_is_lem a;
              numbers = λ n. ap (λ (x : Answer). has x.number (outcomes rebuild)) a;
              unchanged = λ n. g.kept h;
              sized = g.sized;
              scratch = left ∙ ap (λ (i : ℕ). scratch_left (length t) i w) (sym (number_is_lem a));
              answered = λ s n. absurd (true≢false (sym (renewed-whole g s refl) ∙ h));
              stays_sound = λ s. ap sound (g.kept h) ∙ s;
              live_after = λ s n k. absurd (true≢false (sym (renewed-whole g s refl) ∙ h));
            };
        detail = detail-is a;
        answered = λ n. number_by (a ∙ ap (λ (b : Bool). answer (cond b 0 3) 0) (sym h));
        anew = λ n. absurd (not_done n);
        exact = λ n. absurd (not_done n);
        carried_out = λ n. absurd (not_done n);
      }
    where
      not_done : r.number ≡ 0 → ⊥
      not_done n = omega (arith, number_is_lem a, n)

  pub rebuild-done : ok ≡ true → r ≡ answer 0 0 → RebuildPost t w r t' w''
  unfolding scratch_left
  rebuild-done h a =
      record {
        update =
            record {
              detail = λ n z. detail-is a;
              refusals = λ n. absurd (n fine);
              header = λ n b. absurd (true≢false (sym h ∙ g.is ∙ laid-header t b));
              numbers = λ n. ap (λ (x : Answer). has x.number (outcomes rebuild)) a;
              unchanged = λ n. absurd (n (number_is_lem a));
              sized = g.sized;
              scratch = left ∙ ap (λ (i : ℕ). scratch_left (length t) i w) (sym (number_is_lem a));
              answered = λ s n. a;
              stays_sound = λ s. rebuilt-sound t' (live_spots t) (g.built h);
              live_after = λ s n k. rebuild-live t s t' (g.built h) k;
            };
        detail = detail-is a;
        answered = λ n. number_by (a ∙ ap (λ (b : Bool). answer (cond b 0 3) 0) (sym h));
        anew = λ n. (rebuilt-sound t' (live_spots t) (g.built h), spots-are);
        exact = λ n. (g.built h).bound ∙ sym (live-are t' ∙ ap length spots-are);
        carried_out = λ n. rebuilt-settled t' (live_spots t) (g.built h);
      }
    where
      spots-are : live_spots t' ≡ live_spots t
      spots-are = rebuilt-spots t' (live_spots t) (g.built h)
