-- The posts of Add and Withdraw: one law for each way that they end.
-- Assumes nothing.
use mathlib.Core.Path.{◌≡◌, refl, ap, ap₂, sym, subst, ◌∙◌}
use mathlib.Core.Logic.{◌⊎◌, ⊎_elim, ◌≢◌}
use mathlib.Core.Bool.{Bool, true, false, cond}
use mathlib.Core.List.{List, [], ◌∷◌, ◌++◌}
use mathlib.Core.Option.{Option, none, some}
use Prim.Native.Nat.{ℕ, ◌<◌}
use native.Mathlib.Omega.{arith}
use lib.Dec.{leb, eqb}
use lib.IntN.{ℤ}
use lib.ListN.{length, drop, replicate}
use borrow.Author.Tests.{ne_eqb, le-leb, lt-leb}
use Rattle.octets.specs.Lists.{has}
use Rattle.spot.specs.Keys.{key, in_limits, limited}
use Rattle.spot.proofs.Limits.{limited-key}
use Rattle.spot.proofs.Signed.{Fits}
use Rattle.block.specs.Answers.{answer}
use Rattle.block.specs.declared.Answer.{Answer}
use Rattle.block.specs.Table.{table_sized}
use Rattle.tree.specs.Lookup.{live, is_live, with_key}
use Rattle.tree.specs.Walk.{live_count}
use Rattle.revise.specs.Numbers.{add_number}
use Rattle.revise.specs.Revising.{Lent, Revised}
use Rattle.revise.proofs.Calls.{two_ways, header-breaks}
use Rattle.table.specs.Calls.{Call, format, add, withdraw, report, top, count, check, rebuild, report_many, top_within, apply, kind}
use Rattle.table.specs.Answers.{with_scratch, lent, few_enough, argument_number, early_number, early_detail, outcomes}
use Rattle.table.specs.Updates.{scratch_left, UpdatePost, ChangePost, AddPost, WithdrawPost}
use Rattle.table.proofs.Answering.{number_short, number-lent, number-argument, number-fine}

-- ---- any call that changes the table

pub number_is_lem : {r : Answer} {n d : ℕ} → r ≡ answer n d → r.number ≡ n
number_is_lem a = ap (λ (x : Answer). x.number) a

pub detail-is : {r : Answer} {n d : ℕ} → r ≡ answer n d → r.detail ≡ d
detail-is a = ap (λ (x : Answer). x.detail) a

-- a refusal by lengths and arguments has detail 0, but for 9
pub early-detail : (c : Call) (n : ℕ) → eqb n 9 ≡ false → early_detail c n ≡ 0
early-detail format n h = refl
early-detail (add place rank track) n h = refl
early-detail (withdraw place rank) n h = refl
early-detail (report x1 x2 y) n h = refl
early-detail (top x1 x2 k) n h = refl
early-detail count n h = refl
early-detail check n h = refl
early-detail rebuild n h = refl
early-detail (report_many rs) n h = refl
early-detail (top_within x1 x2 k a) n h = refl
early-detail (apply m) n h = rw h

module _ (c : Call) (due : Answer) (after : ℕ → Option ℕ) (t w : List ℕ) (r : Answer) where
  -- refused by lengths and arguments: everything is as it was
  pub update-refused : (n d : ℕ) → n ≢ 0 → early_number (with_scratch t w) c ≡ n → early_detail c n ≡ d → scratch_left (length t) n w ≡ w → r ≡ answer n d
      → UpdatePost c due after t w r t w
  update-refused n d nonzero l own left a =
      record {
        detail = λ h z. absurd (nonzero (sym l ∙ z));
        refusals = λ h. a ∙ ap (answer n) (sym own) ∙ ap (λ (i : ℕ). answer i (early_detail c i)) (sym l);
        header = λ h. absurd (nonzero (sym l ∙ h));
        numbers = λ h. absurd (nonzero (sym l ∙ h));
        unchanged = λ h. refl;
        sized = refl;
        scratch = sym left ∙ ap (λ (i : ℕ). scratch_left (length t) i w) (sym (number_is_lem a));
        answered = λ s h. absurd (nonzero (sym l ∙ h));
        stays_sound = λ s. s;
        live_after = λ s h. absurd (nonzero (sym (number_is_lem a) ∙ h));
      }

  pub update-short : table_sized (length t) ≡ false → r ≡ answer 1 0 → UpdatePost c due after t w r t w
  unfolding scratch_left
  update-short e a = update-refused 1 0 (λ h. omega arith) (number_short (with_scratch t w) c e) (early-detail c 1 refl) refl a

  -- the scratch is too short
  pub update-lent : table_sized (length t) ≡ true → lent (with_scratch t w) (kind c) ≡ false → r ≡ answer 2 0 → UpdatePost c due after t w r t w
  unfolding scratch_left
  update-lent e h a = update-refused 2 0 (λ x. omega arith) (number-lent (with_scratch t w) c e h) (early-detail c 2 refl) refl a

  change-refused : (j n : ℕ) → n ≢ 0 → n ≢ 4 → early_number (with_scratch t w) c ≡ n → r ≡ answer n 0 → UpdatePost c due after t w r t w
      → ChangePost c j due after t w r t w
  change-refused j n nonzero spare l a u =
      record {
        update = u;
        detail = detail-is a;
        path = λ h. absurd (nonzero (sym l ∙ h));
        full = λ h. absurd (spare (sym (number_is_lem a) ∙ h));
        exact = λ s x. x;
        light = λ s y b z o. refl;
      }

  pub change-short : (j : ℕ) → table_sized (length t) ≡ false → r ≡ answer 1 0 → ChangePost c j due after t w r t w
  change-short j e a = change-refused j 1 (λ x. omega arith) (λ x. omega arith) (number_short (with_scratch t w) c e) a (update-short e a)

  pub change-lent : (j : ℕ) → table_sized (length t) ≡ true → lent (with_scratch t w) (kind c) ≡ false → r ≡ answer 2 0 → ChangePost c j due after t w r t w
  change-lent j e h a = change-refused j 2 (λ x. omega arith) (λ x. omega arith) (number-lent (with_scratch t w) c e h) a (update-lent e h a)

  -- the place is outside the limits
  pub change-outside : (j : ℕ) → table_sized (length t) ≡ true → lent (with_scratch t w) (kind c) ≡ true → few_enough (kind c) ≡ true → argument_number c ≡ 9
      → early_detail c 9 ≡ 0
      → r ≡ answer 9 0
      → ChangePost c j due after t w r t w
  unfolding scratch_left
  change-outside j e h f o own a =
      let early = number-argument (with_scratch t w) c e h f ∙ o in
      change-refused j 9 (λ x. omega arith) (λ x. omega arith) early a (update-refused 9 0 (λ x. omega arith) early own refl a)

  -- the lengths are right
  module _ {t' w₁ : List ℕ} {j n : ℕ} (l : Lent t w) (asks : lent (with_scratch t w) (kind c) ≡ leb (length t) (length w)) (few : few_enough (kind c) ≡ true) (inside : argument_number c ≡ 0) (plain : due.detail ≡ 0) (g : Revised t t' w w₁ j due.number (outcomes c) after n) (a : r ≡ answer n 0) where
    fine : early_number (with_scratch t w) c ≡ 0
    fine = number-fine (with_scratch t w) c l.sized (asks ∙ le-leb (length t) (length w) l.room) few inside

    revised-post : {w' : List ℕ} → w' ≡ scratch_left (length t) n w → ChangePost c j due after t w r t' w'
    revised-post left =
        record {
          update =
              record {
                detail = λ h z. detail-is a;
                refusals = λ h. absurd (h fine);
                header = λ h b. number_is_lem a ∙ g.path (header-breaks t j b);
                numbers = λ h. ap (λ (x : Answer). has x.number (outcomes c)) a ∙ g.numbers;
                unchanged = λ h. g.leaves.kept (λ e. h (number_is_lem a ∙ e));
                sized = g.leaves.sized;
                scratch = left ∙ ap (λ (i : ℕ). scratch_left (length t) i w) (sym (number_is_lem a));
                answered = λ s h. a ∙ (λ i. record { number = g.number_is s i; detail = sym plain i });
                stays_sound = g.stays_sound;
                live_after = λ s h. g.live_after s (sym (number_is_lem a) ∙ h);
              };
          detail = detail-is a;
          path = λ h b. number_is_lem a ∙ g.path b;
          full = λ h. g.full (sym (number_is_lem a) ∙ h);
          exact = g.exact;
          light = g.leaves.light;
        }

    -- the scratch is cleared then
    pub change-ends : {w' : List ℕ} → (n ≡ 0) ⊎ (n ≡ 3) → w' ≡ replicate (length t) 0 ++ drop (length t) w₁ → ChangePost c j due after t w r t' w'
    unfolding scratch_left
    change-ends {w'} ends cleared =
        revised-post
        (cleared ∙ ap (λ (x : List ℕ). replicate (length t) 0 ++ x) g.leaves.rest ∙
        sym (⊎_elim (λ e. ap (λ (i : ℕ). scratch_left (length t) i w) e) (λ e. ap (λ (i : ℕ). scratch_left (length t) i w) e) ends))

    -- full: it was not touched
    pub change-full : n ≡ 4 → ChangePost c j due after t w r t' w₁
    unfolding scratch_left
    change-full e = revised-post (g.leaves.untouched e ∙ sym (ap (λ (i : ℕ). scratch_left (length t) i w) e))

three_ways : (n : ℕ) → n ≢ 4 → has n (0 ∷ 3 ∷ 4 ∷ []) ≡ true → (n ≡ 0) ⊎ (n ≡ 3)
three_ways n d h = two_ways n (rw (ne_eqb n 4 d) at h)

-- the identity's key, as the code has it
pub key-is : (place rank a b : ℤ) {k : ℕ} → a ≡ place → b ≡ rank → k ≡ key a b → k ≡ key place rank
key-is place rank a b p q e = e ∙ ap₂ key p q

-- and the place's test
pub inside_is : (place a : ℤ) {b : Bool} → a ≡ place → b ≡ in_limits a → in_limits place ≡ b
inside_is place a p e = sym (e ∙ ap in_limits p)

-- what it comes to
inside-none : {b : Bool} → b ≡ true → cond {A = ℕ} b 0 9 ≡ 0
inside-none e = rw e

outside-nine : {b : Bool} → b ≡ false → cond {A = ℕ} b 0 9 ≡ 9
outside-nine e = rw e

-- a key that is put in or taken out: its place passed the test
pub key-limited : (place rank a b : ℤ) {k : ℕ} → Fits place → Fits rank → a ≡ place → b ≡ rank → k ≡ key a b → in_limits place ≡ true → limited k ≡ true
key-limited place rank a b f g p q e h = ap limited (key-is place rank a b p q e) ∙ limited-key place rank f g ∙ h

-- ---- Add

module _ (place rank : ℤ) (track : ℕ) (t w : List ℕ) (r : Answer) where
  pub add-short : table_sized (length t) ≡ false → r ≡ answer 1 0 → AddPost place rank track t w r t w
  add-short e a = change-short (add place rank track) _ _ t w r (key place rank) e a

  pub add-lent : table_sized (length t) ≡ true → length w < length t → r ≡ answer 2 0 → AddPost place rank track t w r t w
  add-lent e h a = change-lent (add place rank track) _ _ t w r (key place rank) e (lt-leb (length t) (length w) h) a

  pub add-outside : Lent t w → in_limits place ≡ false → r ≡ answer 9 0 → AddPost place rank track t w r t w
  add-outside l o a = change-outside (add place rank track) _ _ t w r (key place rank) l.sized (le-leb (length t) (length w) l.room) refl (outside-nine o) refl a

  module _ {t' w₁ : List ℕ} {n k : ℕ} (l : Lent t w) (inside : in_limits place ≡ true) (e : k ≡ key place rank)
      (g : Revised t t' w w₁ k (add_number (length t) (live_count t) (is_live (live t k))) (0 ∷ 3 ∷ 4 ∷ []) (with_key k (some track) (live t)) n) where
    of-key : Revised t t' w w₁ (key place rank) (add_number (length t) (live_count t) (is_live (live t (key place rank)))) (0 ∷ 3 ∷ 4 ∷ []) (with_key (key place rank) (some track) (live t)) n
    of-key = subst (λ (i : ℕ). Revised t t' w w₁ i (add_number (length t) (live_count t) (is_live (live t i))) (0 ∷ 3 ∷ 4 ∷ []) (with_key i (some track) (live t)) n) e g

    pub add-full : n ≡ 4 → r ≡ answer 4 0 → AddPost place rank track t w r t' w₁
    add-full f a = change-full (add place rank track) _ _ t w r l refl refl (inside-none inside) refl of-key (a ∙ ap (λ (i : ℕ). answer i 0) (sym f)) f

    pub add-ends : {w' : List ℕ} → r ≡ answer n 0 → n ≢ 4 → w' ≡ replicate (length t) 0 ++ drop (length t) w₁ → AddPost place rank track t w r t' w'
    add-ends a d cleared = change-ends (add place rank track) _ _ t w r l refl refl (inside-none inside) refl of-key a (three_ways n d g.numbers) cleared

-- ---- Withdraw

module _ (place rank : ℤ) (t w : List ℕ) (r : Answer) where
  pub withdraw-short : table_sized (length t) ≡ false → r ≡ answer 1 0 → WithdrawPost place rank t w r t w
  withdraw-short e a = change-short (withdraw place rank) _ _ t w r (key place rank) e a

  pub withdraw-lent : table_sized (length t) ≡ true → length w < length t → r ≡ answer 2 0 → WithdrawPost place rank t w r t w
  withdraw-lent e h a = change-lent (withdraw place rank) _ _ t w r (key place rank) e (lt-leb (length t) (length w) h) a

  pub withdraw-outside : Lent t w → in_limits place ≡ false → r ≡ answer 9 0 → WithdrawPost place rank t w r t w
  withdraw-outside l o a = change-outside (withdraw place rank) _ _ t w r (key place rank) l.sized (le-leb (length t) (length w) l.room) refl (outside-nine o) refl a

  pub withdraw-ends : {t' w₁ w' : List ℕ} {n k : ℕ} → Lent t w → in_limits place ≡ true → k ≡ key place rank → Revised t t' w w₁ k 0 (0 ∷ 3 ∷ []) (with_key k none (live t)) n → r ≡ answer n 0
      → w' ≡ replicate (length t) 0 ++ drop (length t) w₁ → WithdrawPost place rank t w r t' w'
  withdraw-ends {t'} {w₁} {w'} {n} {k} l inside e g a cleared =
      change-ends (withdraw place rank) _ _ t w r l refl refl (inside-none inside) refl (subst (λ (i : ℕ). Revised t t' w w₁ i 0 (0 ∷ 3 ∷ []) (with_key i none (live t)) n) e g) a (two_ways n g.numbers) cleared
