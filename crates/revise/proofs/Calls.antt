-- Add and Withdraw but for the lengths: one law for each way that they end.
-- Assumes nothing.
use mathlib.Core.Path.{◌≡◌, refl, ap, sym, subst, ◌∙◌}
use mathlib.Core.Logic.{◌⊎◌, inl, inr, ⊎_elim}
use mathlib.Core.Bool.{Bool, true, false, cond, not, true≢false, false≢true}
use mathlib.Core.List.{List, [], ◌∷◌}
use mathlib.Core.Option.{Option, none, some}
use Prim.Native.Nat.{ℕ, ◌+◌, ◌-◌, ◌≤◌, ◌<◌}
use native.Mathlib.Omega.{arith}
use lib.ListN.{length}
use lib.Dec.{eqb}
use borrow.Author.Tests.{eqb-true, not-true}
use Rattle.octets.specs.Lists.{has}
use Rattle.octets.proofs.Tests.{or-either}
use Rattle.spot.specs.Query.{everything}
use Rattle.spot.specs.Spots.{without}
use Rattle.spot.specs.declared.Spot.{Spot}
use Rattle.block.specs.Table.{capacity}
use Rattle.block.specs.Header.{head_of}
use Rattle.block.specs.HeaderRules.{header_ok}
use Rattle.block.proofs.Facts.{head-facts}
use Rattle.tree.specs.Lookup.{live, is_live, with_key}
use Rattle.tree.specs.Sound.{sound}
use Rattle.tree.specs.Walk.{walk_table, is_broken, spots, live_spots, live_count}
use Rattle.tree.proofs.Tables.{sound-header, count-finds}
use Rattle.visit.proofs.Roots.{sized-long}
use Rattle.lookup.specs.Answers.{Looked, broken, looked_up, LookupPost}
use Rattle.std.specs.Prelude.{Ok, Some, None}
use Rattle.lookup.proofs.Laws.{Says, looked-says, looked-whole}
use Rattle.revise.specs.Numbers.{add_number}
use Rattle.revise.specs.Revising.{Lent, Leaves, WithinPost, Revised}
use Rattle.revise.proofs.Ends.{with_spot}
use Rattle.revise.proofs.Counts.{count_most, put-new, put_same, out_one, add-room, add-live, add-full}

-- nothing is touched
stays : (t w : List ℕ) (n : ℕ) → Leaves t t w w n
stays t w n =
    record { sized = refl; lent_length = refl; rest = refl; kept = λ h. refl; untouched = λ h. refl; light = λ s y b z o. refl }

-- a rule is broken, which is so of no sound table
revised-broken : (t w : List ℕ) (k due : ℕ) (outcomes : List ℕ) (after : ℕ → Option ℕ) → has 3 outcomes ≡ true → (sound t ≡ true → ⊥)
    → Revised t t w w k due outcomes after 3
revised-broken t w k due outcomes after m no-sound =
    record {
      leaves = stays t w 3;
      path = λ h. refl;
      full = λ h. let x : ⊥ = omega arith in absurd x;
      numbers = m;
      number_is = λ s. absurd (no-sound s);
      stays_sound = λ s. s;
      live_after = λ s h. absurd (no-sound s);
      exact = λ s x. x;
    }

-- the header shows it
pub revised-header : (t w : List ℕ) (k due : ℕ) (outcomes : List ℕ) (after : ℕ → Option ℕ) (b : Bool) → has 3 outcomes ≡ true → b ≡ header_ok (length t) (head_of t) → b ≡ false
    → Revised t t w w k due outcomes after 3
revised-header t w k due outcomes after b m e h =
    revised-broken t w k due outcomes after m (λ s. true≢false (sym (sound-header t s) ∙ sym e ∙ h))

pub two_ways : (n : ℕ) → has n (0 ∷ 3 ∷ []) ≡ true → (n ≡ 0) ⊎ (n ≡ 3)
two_ways n h =
    ⊎_elim (λ e. inl (eqb-true n 0 e)) (λ m. ⊎_elim (λ e. inr (eqb-true n 3 e)) (λ (f : false ≡ true). absurd (false≢true f)) (or-either (eqb n 3) false m))
    (or-either (eqb n 0) (has n (3 ∷ [])) h)

-- 0 and 3 are among the outcomes
zero-three : (n : ℕ) (outcomes : List ℕ) → has 0 outcomes ≡ true → has 3 outcomes ≡ true → has n (0 ∷ 3 ∷ []) ≡ true → has n outcomes ≡ true
zero-three n outcomes a b h = ⊎_elim (λ e. ap (λ (i : ℕ). has i outcomes) e ∙ a) (λ e. ap (λ (i : ℕ). has i outcomes) e ∙ b) (two_ways n h)

not-four : (n : ℕ) → has n (0 ∷ 3 ∷ []) ≡ true → n ≡ 4 → ⊥
not-four n h e = ⊎_elim (λ (z : n ≡ 0). omega arith) (λ (z : n ≡ 3). omega arith) (two_ways n h)

-- the bound is known, and the spots are no more; they are as many where the figure in block 0 was exact
pub revised-within : {t t' w w' : List ℕ} {bound m : ℕ} {after : ℕ → Option ℕ} {n : ℕ} (k due : ℕ) (outcomes : List ℕ) → (looked_up t k ≡ broken → ⊥)
    → has 0 outcomes ≡ true → has 3 outcomes ≡ true → (sound t ≡ true → due ≡ 0) → (sound t ≡ true → m ≤ bound)
    → (sound t ≡ true → (head_of t).bound ≡ live_count t → m ≡ bound)
    → WithinPost t t' w w' bound m after n → Revised t t' w w' k due outcomes after n
revised-within {n = n} k due outcomes found a b d f x g =
    record {
      leaves = g.leaves;
      path = λ h. absurd (found h);
      full = λ h. absurd (not-four n g.numbers h);
      numbers = zero-three n outcomes a b g.numbers;
      number_is = λ s. g.accepted s (f s) ∙ sym (d s);
      stays_sound = λ s. g.stays_sound s (f s);
      live_after = λ s h. g.live_after s (f s);
      exact = λ s h. g.exact s (x s h);
    }

-- ---- as the code reads it

pub lent-long : {t w : List ℕ} → Lent t w → 2048 ≤ length t
lent-long {t} l = sized-long t l.sized

pub bound-few : (t : List ℕ) {bound : ℕ} → header_ok (length t) (head_of t) ≡ true → bound ≡ (head_of t).bound → bound ≤ capacity (length t)
bound-few t ok e = omega (arith, e, (head-facts (length t) (head_of t) ok).bound-most)

-- ---- the lookup

pub looked-is : {t : List ℕ} {k : ℕ} {r x : Looked} → LookupPost t k r → r ≡ x → looked_up t k ≡ x
looked-is g e = sym g.is ∙ e

module _ (t : List ℕ) (k : ℕ) where
  says-live : Says (looked_up t k) (live t k)
  says-live = looked-says (record { is = refl })

  found-live : {a : ℕ} → looked_up t k ≡ Ok (Some a) → live t k ≡ some a
  found-live e = subst (λ (x : Looked). Says x (live t k)) e says-live

  found_none : looked_up t k ≡ Ok None → live t k ≡ none
  found_none e = subst (λ (x : Looked). Says x (live t k)) e says-live

  live-whole : {a : ℕ} → looked_up t k ≡ Ok (Some a) → looked_up t k ≡ broken → ⊥
  live-whole e h = let z : ◌≡◌ {A = ℕ} 0 1 = cc in omega arith

  none-whole : looked_up t k ≡ Ok None → looked_up t k ≡ broken → ⊥
  none-whole e h = let z : ◌≡◌ {A = ℕ} 0 1 = cc in omega arith

  -- block 0 is on every path
  pub header-breaks : header_ok (length t) (head_of t) ≡ false → looked_up t k ≡ broken
  unfolding looked_up
  header-breaks e = rw e

-- ---- Add

abbrev add_due : List ℕ → Spot → ℕ
add_due t s = add_number (length t) (live_count t) (is_live (live t s.key))

abbrev Added : List ℕ → List ℕ → List ℕ → List ℕ → Spot → ℕ → Type 0
Added t t' w w' s n = Revised t t' w w' s.key (add_due t s) (0 ∷ 3 ∷ 4 ∷ []) (with_key s.key (some s.track) (live t)) n

abbrev PutWithin : List ℕ → List ℕ → List ℕ → List ℕ → Spot → ℕ → ℕ → Type 0
PutWithin t t' w w' s bound n = WithinPost t t' w w' bound (length (with_spot s t)) (with_key s.key (some s.track) (live t)) n

live-counted : (t : List ℕ) → length (spots (walk_table t everything)) ≡ live_count t
unfolding live_count live_spots
live-counted t = refl

module _ (t w : List ℕ) (s : Spot) where
  pub add-header : (b : Bool) → b ≡ header_ok (length t) (head_of t) → b ≡ false → Added t t w w s 3
  add-header b e h = revised-header t w s.key (add_due t s) _ _ b refl e h

  pub add-lost : {r : Looked} → LookupPost t s.key r → r ≡ broken → Added t t w w s 3
  add-lost g e = revised-broken t w s.key (add_due t s) _ _ refl (λ h. looked-whole g h e)

  module _ {t' w' : List ℕ} {n : ℕ} where
    -- one of its key goes out
    pub add-replaced : {bound a : ℕ} → bound ≡ (head_of t).bound → looked_up t s.key ≡ Ok (Some a) → PutWithin t t' w w' s bound n → Added t t' w w' s n
    add-replaced {bound} {a} e l g =
        let there : live t s.key ≡ some a = found-live t s.key l in
        revised-within s.key (add_due t s) _ (live-whole t s.key l) refl refl
        (λ h. ap (λ (o : Option ℕ). add_number (length t) (live_count t) (is_live o)) there ∙ add-live (length t) (live_count t))
        (λ h. omega (arith, put_same t h s there, count_most t h))
        (λ h x. omega (arith, put_same t h s there, e, x))
        g

    module _ (l : looked_up t s.key ≡ Ok None) where
      -- the bound is below capacity
      pub add-below : {bound : ℕ} → bound ≡ (head_of t).bound → bound < capacity (length t) → PutWithin t t' w w' s (bound + 1) n → Added t t' w w' s n
      add-below e f g =
          revised-within s.key (add_due t s) _ (none-whole t s.key l) refl refl
          (λ h. add-room (length t) (live_count t) (is_live (live t s.key)) (omega (arith, count_most t h)))
          (λ h. omega (arith, put-new t h s (found_none t s.key l), count_most t h))
          (λ h x. omega (arith, put-new t h s (found_none t s.key l), e, x))
          g

      -- the live spots are counted
      pub add-counted : {all : ℕ} → all ≡ length (spots (walk_table t everything)) → all < capacity (length t) → PutWithin t t' w w' s (all + 1) n → Added t t' w w' s n
      add-counted count f g =
          revised-within s.key (add_due t s) _ (none-whole t s.key l) refl refl
          (λ h. add-room (length t) (live_count t) (is_live (live t s.key)) (omega (arith, count, live-counted t)))
          (λ h. omega (arith, put-new t h s (found_none t s.key l), count, live-counted t))
          (λ h x. omega (arith, put-new t h s (found_none t s.key l), count, live-counted t))
          g

  -- there are as many as there may be
  pub add_turned : {all : ℕ} (ok : Bool) → ok ≡ not (is_broken (walk_table t everything)) → ok ≡ true → all ≡ length (spots (walk_table t everything))
      → capacity (length t) ≤ all → looked_up t s.key ≡ Ok None
      → Added t t w w s 4
  add_turned ok told e count l found =
      let many : capacity (length t) ≤ live_count t = omega (arith, count, live-counted t) in
      record {
        leaves = stays t w 4;
        path = λ h. absurd (none-whole t s.key found h);
        full = λ h. record { absent = found; walked = not-true (is_broken (walk_table t everything)) (sym told ∙ e); many = many };
        numbers = refl;
        number_is = λ h.
            sym (ap (λ (o : Option ℕ). add_number (length t) (live_count t) (is_live o)) (found_none t s.key found) ∙ add-full (length t) (live_count t) many);
        stays_sound = λ h. h;
        live_after = λ h z. let x : ⊥ = omega arith in absurd x;
        exact = λ h x. x;
      }

  -- the count found a broken rule
  pub add-uncounted : (ok : Bool) → ok ≡ not (is_broken (walk_table t everything)) → ok ≡ false → Added t t w w s 3
  add-uncounted ok e h = revised-broken t w s.key (add_due t s) _ _ refl (λ g. true≢false (sym (ap (λ b. not (is_broken b)) (count-finds t g).1) ∙ sym e ∙ h))

-- ---- Withdraw

abbrev Dropped : List ℕ → List ℕ → List ℕ → List ℕ → ℕ → ℕ → Type 0
Dropped t t' w w' k n = Revised t t' w w' k 0 (0 ∷ 3 ∷ []) (with_key k none (live t)) n

module _ (t w : List ℕ) (k : ℕ) where
  pub drop-header : (b : Bool) → b ≡ header_ok (length t) (head_of t) → b ≡ false → Dropped t t w w k 3
  drop-header b e h = revised-header t w k 0 _ _ b refl e h

  pub drop-lost : {r : Looked} → LookupPost t k r → r ≡ broken → Dropped t t w w k 3
  drop-lost g e = revised-broken t w k 0 _ _ refl (λ h. looked-whole g h e)

  -- a key is live, and the bound is 0
  pub drop-uncounted : {bound a : ℕ} → bound ≡ (head_of t).bound → looked_up t k ≡ Ok (Some a) → bound ≡ 0 → Dropped t t w w k 3
  drop-uncounted e l z = revised-broken t w k 0 _ _ refl (λ h. omega (arith, out_one t h k (found-live t k l), count_most t h))

  -- a key that is not live: to take it out changes nothing
  pub drop-none : looked_up t k ≡ Ok None → Dropped t t w w k 0
  unfolding with_key
  drop-none e =
      record {
        leaves = stays t w 0;
        path = λ h. absurd (none-whole t k e h);
        full = λ h. let x : ⊥ = omega arith in absurd x;
        numbers = refl;
        number_is = λ h. refl;
        stays_sound = λ h. h;
        live_after = λ h z j. go (eqb j k) j refl;
        exact = λ h x. x;
      }
    where
      go : (b : Bool) (j : ℕ) → eqb j k ≡ b → live t j ≡ cond b none (live t j)
      go true j h = ap (live t) (eqb-true j k h) ∙ found_none t k e
      go false j h = refl

  -- the bound falls
  pub drop-live : {t' w' : List ℕ} {n bound a : ℕ} → bound ≡ (head_of t).bound → looked_up t k ≡ Ok (Some a) → WithinPost t t' w w' (bound - 1) (length (without k (live_spots t))) (with_key k none (live t)) n
      → Dropped t t' w w' k n
  drop-live {a = a} e l g =
      let there : live t k ≡ some a = found-live t k l in
      revised-within k 0 _ (live-whole t k l) refl refl (λ h. refl) (λ h. omega (arith, out_one t h k there, count_most t h))
      (λ h x. omega (arith, out_one t h k there, e, x)) g
