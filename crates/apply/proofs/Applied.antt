-- The promise of an application: one law for each way that it ends.
-- Assumes nothing.
use mathlib.Core.Path.{◌≡◌, refl, ap, sym, ◌∙◌}
use mathlib.Core.Logic.{⊎_elim, ◌≢◌}
use mathlib.Core.Bool.{Bool, true, false, cond}
use mathlib.Core.List.{List, ◌++◌}
use mathlib.Core.Option.{Option, none, some}
use Prim.Native.Nat.{ℕ, ◌<◌}
use native.Mathlib.Omega.{arith}
use lib.ListN.{length, drop, replicate}
use borrow.Author.Tests.{ne_eqb, le-leb, lt-leb}
use Rattle.spot.specs.Spots.{find}
use Rattle.block.specs.declared.Answer.{Answer}
use Rattle.block.specs.Answers.{answer}
use Rattle.block.specs.Table.{table_sized}
use Rattle.tree.specs.Walk.{live_spots}
use Rattle.message.specs.declared.Change.{Change}
use Rattle.message.specs.Changes.{changes_of, all_limited, first_outside}
use Rattle.message.specs.Messages.{read_message, limits_answer, changes_answer, message_answer}
use Rattle.message.specs.Effects.{after_all, applied_answer}
use Rattle.revise.specs.Revising.{Lent}
use Rattle.revise.proofs.Calls.{two_ways}
use Rattle.carry.specs.Carrying.{CarriedOr}
use Rattle.table.specs.Calls.{apply}
use Rattle.table.specs.Answers.{with_scratch, early_number}
use Rattle.table.specs.Updates.{scratch_left, UpdatePost, ApplyPost}
use Rattle.table.proofs.Answering.{number_short, number-lent, number-argument}
use Rattle.table.proofs.Changes.{update-refused, update-short, update-lent}

-- what a message alone decides is 0, 8 with detail 0, or 9 with a position
data Alone (r : Answer) : Type 0 where
  right : r ≡ answer 0 0 → Alone r
  wrong : r ≡ answer 8 0 → Alone r
  outside : (i : ℕ) → r ≡ answer 9 i → Alone r

alone-is : (m : List ℕ) → Alone (message_answer m)
unfolding message_answer changes_answer limits_answer
alone-is m = go (read_message m)
  where
    inside : (b : Bool) (i : ℕ) → Alone (cond b (answer 0 0) (answer 9 i))
    inside true i = right refl
    inside false i = outside i refl

    go : (o : Option (List Change)) → Alone (changes_answer (λ _. true) o)
    go none = wrong refl
    go (some cs) = inside (all_limited cs) (first_outside cs)

module _ (m t w : List ℕ) (r : Answer) where
  abbrev due : Answer
  due = applied_answer (length t) (changes_of (read_message m)) (live_spots t)

  abbrev after : ℕ → Option ℕ
  after k = find k (after_all (changes_of (read_message m)) (live_spots t))

  -- a refusal with another number
  not-four : {n d : ℕ} → r ≡ answer n d → n ≢ 4 → r.number ≡ 4 → r.detail < length (changes_of (read_message m))
  not-four e z h = absurd (z (sym (ap (λ (x : Answer). x.number) e) ∙ h))

  -- a refusal before the table is read
  early-post : early_number (with_scratch t w) (apply m) ≢ 0 → UpdatePost (apply m) due after t w r t w → (r.number ≡ 4 → r.detail < length (changes_of (read_message m)))
      → ApplyPost m t w r t w
  early-post e u p =
      record {
        update = u;
        position = p;
        none = λ z. absurd (e z);
        one = λ c h z. absurd (e z);
        several = λ z. absurd (e z);
        exact = λ s h. h;
      }

  pub apply-short : table_sized (length t) ≡ false → r ≡ answer 1 0 → ApplyPost m t w r t w
  apply-short e a =
      early-post (λ z. omega (arith, number_short (with_scratch t w) (apply m) e, z)) (update-short (apply m) due after t w r e a) (not-four a (λ x. omega arith))

  pub apply-lent : table_sized (length t) ≡ true → length w < length t → r ≡ answer 2 0 → ApplyPost m t w r t w
  apply-lent e h a =
      let f = lt-leb (length t) (length w) h in
      early-post (λ z. omega (arith, number-lent (with_scratch t w) (apply m) e f, z)) (update-lent (apply m) due after t w r e f a) (not-four a (λ x. omega arith))

  module _ (l : Lent t w) where
    early : early_number (with_scratch t w) (apply m) ≡ (message_answer m).number
    early = number-argument (with_scratch t w) (apply m) l.sized (le-leb (length t) (length w) l.room) refl

    -- refused by the message
    pub apply-refused : r ≡ message_answer m → r.number ≢ 0 → ApplyPost m t w r t w
    unfolding scratch_left
    apply-refused e z = early-post (λ x. z (ap (λ (a : Answer). a.number) e ∙ sym early ∙ x)) (go (alone-is m)) (placed (alone-is m))
      where
        number-so : {n d : ℕ} → message_answer m ≡ answer n d → (message_answer m).number ≡ n
        number-so h = ap (λ (x : Answer). x.number) h

        placed : Alone (message_answer m) → r.number ≡ 4 → r.detail < length (changes_of (read_message m))
        placed (right h) = not-four (e ∙ h) (λ x. omega arith)
        placed (wrong h) = not-four (e ∙ h) (λ x. omega arith)
        placed (outside i h) = not-four (e ∙ h) (λ x. omega arith)

        go : Alone (message_answer m) → UpdatePost (apply m) due after t w r t w
        go (right h) = absurd (z (ap (λ (x : Answer). x.number) (e ∙ h)))
        go (wrong h) = update-refused (apply m) due after t w r 8 0 (λ x. omega arith) (early ∙ number-so h) refl refl (e ∙ h)
        go (outside i h) =
            update-refused (apply m) due after t w r 9 i (λ x. omega arith) (early ∙ number-so h) (ap (λ (x : Answer). x.detail) h) refl (e ∙ h)

    module _ {t' w₁ : List ℕ} (fine : message_answer m ≡ answer 0 0) (g : CarriedOr m t t' w w₁ r) where
      accepted : early_number (with_scratch t w) (apply m) ≡ 0
      accepted = early ∙ ap (λ (x : Answer). x.number) fine

      carried-post : {w' : List ℕ} → w' ≡ scratch_left (length t) r.number w → ApplyPost m t w r t' w'
      carried-post left =
          let c = g.carried in
          record {
            update =
                record {
                  detail = λ h z. c.detail h;
                  refusals = λ h. absurd (h accepted);
                  header = λ h b. g.header b;
                  numbers = λ h. c.numbers;
                  unchanged = c.kept;
                  sized = c.sized;
                  scratch = left;
                  answered = λ s h. c.answered s;
                  stays_sound = c.stays_sound;
                  live_after = c.live_after;
                };
            position = c.position;
            none = λ z. g.none;
            one = λ x e z. let o = g.one (ap length e) in record { path = o.path x e; full = o.full x e };
            several = λ z h. let o = g.several h in record { broken = o.broken; anew = o.anew; full = o.full };
            exact = c.exact;
          }

      -- turned down: the work area was not touched
      pub apply-turned : r.number ≡ 4 → ApplyPost m t w r t' w₁
      unfolding scratch_left
      apply-turned e = carried-post (g.carried.untouched e ∙ sym (ap (λ (i : ℕ). scratch_left (length t) i w) e))

      -- it is cleared
      pub apply-ends : {w' : List ℕ} → r.number ≢ 4 → w' ≡ replicate (length t) 0 ++ drop (length t) w₁ → ApplyPost m t w r t' w'
      unfolding scratch_left
      apply-ends {w'} d cleared =
          carried-post
          (cleared ∙ ap (λ (x : List ℕ). replicate (length t) 0 ++ x) g.carried.rest ∙
          sym (⊎_elim (λ e. ap (λ (i : ℕ). scratch_left (length t) i w) e) (λ e. ap (λ (i : ℕ). scratch_left (length t) i w) e)
          (two_ways r.number (rw (ne_eqb r.number 4 d) at g.carried.numbers))))
