-- A message carried out: one law for each way that this ends.
-- Assumes nothing.
use mathlib.Core.Path.{◌≡◌, refl, ap, sym, subst, ◌∙◌}
use mathlib.Core.Logic.{◌⊎◌, inl, inr, ⊎_elim}
use mathlib.Core.Bool.{Bool, true, false, cond, not, ◌&&◌, ◌||◌, true≢false, false≢true}
use mathlib.Core.List.{List, [], ◌∷◌}
use mathlib.Core.Option.{Option, none, some}
use Prim.Native.Nat.{ℕ, ◌≤◌}
use native.Mathlib.Omega.{arith}
use borrow.Author.Tests.{eqb-true}
use lib.Dec.{leb, eqb}
use lib.ListN.{length, take}
use Rattle.octets.specs.Lists.{has, rising}
use Rattle.octets.proofs.Tests.{or-either}
use Rattle.spot.specs.Query.{everything}
use Rattle.spot.specs.Spots.{keys, find}
use Rattle.spot.specs.declared.Spot.{Spot}
use Rattle.spot.proofs.Canon.{find-without}
use Rattle.block.specs.declared.Answer.{Answer}
use Rattle.block.specs.declared.Refusal.{Refusal}
use Rattle.block.specs.Answers.{answer, refused}
use Rattle.block.specs.Table.{capacity}
use Rattle.block.specs.Header.{head_of}
use Rattle.block.specs.HeaderRules.{header_ok}
use Rattle.tree.specs.Lookup.{live, is_live, with_key}
use Rattle.tree.specs.Sound.{sound}
use Rattle.tree.specs.Walk.{walk_table, live_spots, live_count}
use Rattle.tree.proofs.Tables.{live-finds, live-rises, live-walk, sound-header}
use Rattle.tree.proofs.Says.{has-keys, find-replaced}
use Rattle.rebuild_theory.proofs.Rebuilt.{rebuilt-live, rebuilt-spots, rebuilt-sound}
use Rattle.message.specs.declared.Change.{Change}
use Rattle.message.specs.declared.Change.TheVariants.{Add, Withdraw}
use Rattle.message.specs.Changes.{change_key, changes_of}
use Rattle.message.specs.Messages.{read_message}
use Rattle.message.specs.Effects.{after_change, after_all, turns_down, applied_answer}
use Rattle.message.proofs.Effects.{applied-fits}
use Rattle.std.specs.Prelude.{Ok, Err}
use Rattle.rows.specs.declared.Row.{Row}
use Rattle.rows.specs.Rows.{merged_rows}
use Rattle.rows.proofs.Merged.{merged-after}
use Rattle.lookup.specs.Answers.{looked_up}
use Rattle.renew.specs.Layable.{layable}
use Rattle.renew.proofs.Laying.{laid-few, laid-rises, laid-sound}
use Rattle.revise.specs.Numbers.{add_number, Full}
use Rattle.revise.specs.Revising.{Revised}
use Rattle.revise.proofs.Counts.{live-are}
use Rattle.verdict.specs.Verdicts.{Tried}
use Rattle.carry.specs.Carrying.{RowsCarried, Carried, OneCarried, ManyCarried, CarriedOr}

number_of : {r : Answer} {n : ℕ} → r ≡ answer n 0 → r.number ≡ n
number_of a = ap (λ (x : Answer). x.number) a

detail-of : {r : Answer} {n : ℕ} → r ≡ answer n 0 → r.detail ≡ 0
detail-of a = ap (λ (x : Answer). x.detail) a

-- the changes of a message, in the place of how they are read
abbrev Carries : List Change → List ℕ → List ℕ → List ℕ → List ℕ → List ℕ → Answer → Type 0
Carries cs m t t' w w' r = changes_of (read_message m) ≡ cs → Carried m t t' w w' r

-- no change
carried_none : (m t w : List ℕ) (r : Answer) → r ≡ answer 0 0 → Carries [] m t t w w r
carried_none m t w r a e =
    record {
      sized = refl;
      lent_length = refl;
      rest = refl;
      kept = λ h. refl;
      untouched = λ h. refl;
      numbers = ap (λ (x : Answer). has x.number (0 ∷ 3 ∷ 4 ∷ [])) a;
      detail = λ h. detail-of a;
      position = λ h. let no : ⊥ = omega (arith, number_of a, h) in absurd no;
      answered = λ s. a ∙ ap (λ (cs : List Change). applied_answer (length t) cs (live_spots t)) (sym e);
      stays_sound = λ s. s;
      live_after = λ s h k. sym (live-finds t s k) ∙ ap (λ (cs : List Change). find k (after_all cs (live_spots t))) (sym e);
      exact = λ s h. h;
    }

-- one change, as Add and Withdraw have it
module _ (m t w : List ℕ) (c : Change) {t' w' : List ℕ} {j due n : ℕ} {outcomes : List ℕ} {after : ℕ → Option ℕ} (g : Revised t t' w w' j due outcomes after n)
    (among : has n outcomes ≡ true → has n (0 ∷ 3 ∷ 4 ∷ []) ≡ true)
    (due-is : sound t ≡ true → answer due 0 ≡ applied_answer (length t) (c ∷ []) (live_spots t))
    (after_is : sound t ≡ true → (k : ℕ) → after k ≡ find k (after_change c (live_spots t)))
    (key-is : change_key c ≡ j) where
  as_one : (r : Answer) → r ≡ answer n 0 → Carries (c ∷ []) m t t' w w' r
  as_one r a e =
      record {
        sized = g.leaves.sized;
        lent_length = g.leaves.lent_length;
        rest = g.leaves.rest;
        kept = λ h. g.leaves.kept (λ z. h (number_of a ∙ z));
        untouched = λ h. g.leaves.untouched (sym (number_of a) ∙ h);
        numbers = ap (λ (x : Answer). has x.number (0 ∷ 3 ∷ 4 ∷ [])) a ∙ among g.numbers;
        detail = λ h. detail-of a;
        position = λ h. omega (arith, detail-of a, ap length e);
        answered = λ s.
            a ∙ ap (λ (i : ℕ). answer i 0) (g.number_is s) ∙ due-is s ∙ ap (λ (cs : List Change). applied_answer (length t) cs (live_spots t)) (sym e);
        stays_sound = g.stays_sound;
        live_after = λ s h k.
            g.live_after s (sym (number_of a) ∙ h) k ∙ after_is s k ∙ ap (λ (cs : List Change). find k (after_all cs (live_spots t))) (sym e);
        exact = g.exact;
      }

  carried-one : (r : Answer) → r ≡ answer n 0 → changes_of (read_message m) ≡ c ∷ [] → OneCarried m t t' w w' r
  carried-one r a e =
      record {
        carried = as_one r a e;
        path = λ d h b. number_of a ∙ g.path (sym (ap (looked_up t) (same_key d h)) ∙ b);
        full = λ d h b. subst (Full t) (sym (same_key d h)) (g.full (sym (number_of a) ∙ b));
      }
    where
      same_key : (d : Change) → changes_of (read_message m) ≡ d ∷ [] → change_key d ≡ j
      same_key d h = let same : d ≡ c = cc in ap change_key same ∙ key-is

-- an Add's number, with the position 0
add-due : (bytes : ℕ) (s : Spot) (ss : List Spot) (there : Bool) (spots : ℕ) → there ≡ has s.key (keys ss) → spots ≡ length ss
    → answer (add_number bytes spots there) 0 ≡ applied_answer bytes (Add s ∷ []) ss
unfolding add_number turns_down
add-due bytes s ss there spots e n = rw (e, n) (go (leb (capacity bytes) (length ss) && not (has s.key (keys ss))))
  where
    go : (b : Bool) → answer (cond b 4 0) 0 ≡ cond b (answer 4 0) (answer 0 0)
    go true = refl
    go false = refl

pub carried-add : (m t w : List ℕ) (s : Spot) {t' w' : List ℕ} {n : ℕ}
    → Revised t t' w w' s.key (add_number (length t) (live_count t) (is_live (live t s.key))) (0 ∷ 3 ∷ 4 ∷ []) (with_key s.key (some s.track) (live t)) n
    → (r : Answer) → r ≡ answer n 0 → changes_of (read_message m) ≡ Add s ∷ [] → OneCarried m t t' w w' r
unfolding with_key after_change
carried-add m t w s g =
    carried-one m t w (Add s) g (λ h. h)
    (λ x. add-due (length t) s (live_spots t) (is_live (live t s.key)) (live_count t) (sym (has-keys s.key (live_spots t) ∙ ap is_live (live-finds t x s.key))) (live-are t))
    (λ x k. ap (λ (o : Option ℕ). cond (eqb k s.key) (some s.track) o) (sym (live-finds t x k)) ∙ sym (find-replaced k s (live_spots t))) refl

pub carried-withdraw : (m t w : List ℕ) (j : ℕ) {t' w' : List ℕ} {n : ℕ} → Revised t t' w w' j 0 (0 ∷ 3 ∷ []) (with_key j none (live t)) n
    → (r : Answer) → r ≡ answer n 0 → changes_of (read_message m) ≡ Withdraw j ∷ [] → OneCarried m t t' w w' r
unfolding with_key after_change turns_down
carried-withdraw m t w j {n = n} g =
    carried-one m t w (Withdraw j) g (among n) (λ x. refl)
    (λ x k. ap (λ (o : Option ℕ). cond (eqb k j) none o) (sym (live-finds t x k)) ∙ sym (find-without k j (live_spots t))) refl
  where
    among : (n : ℕ) → has n (0 ∷ 3 ∷ []) ≡ true → has n (0 ∷ 3 ∷ 4 ∷ []) ≡ true
    among n h = go (eqb n 0) (eqb n 3) (eqb n 4) h
      where
        go : (a b c : Bool) → (a || (b || false)) ≡ true → (a || (b || (c || false))) ≡ true
        go true b c e = refl
        go false true c e = refl
        go false false c e = absurd (false≢true e)

-- several changes: turned down, or a rule is broken
pub carried-refused : (m t w : List ℕ) {rows rows' : List Row} {e : Refusal} → Tried t m rows rows' (Err e) → ManyCarried m t t w w (refused e)
carried-refused m t w {e = e} g =
    record {
      carried =
          record {
            sized = refl;
            lent_length = refl;
            rest = refl;
            kept = λ x. refl;
            untouched = λ x. refl;
            numbers = wider (eqb (refused e).number 0) g.numbers;
            detail = g.detail;
            position = g.position;
            answered = g.judged;
            stays_sound = λ s. s;
            live_after = λ s x. absurd (none x);
            exact = λ s x. x;
          };
      broken = λ b. three-left (λ f. true≢false (sym (laid-sound t (g.full f)) ∙ b));
      anew = λ x. absurd (none x);
      full = g.full;
    }
  where
    three-or-four : ((refused e).number ≡ 3) ⊎ ((refused e).number ≡ 4)
    three-or-four =
        ⊎_elim (λ x. inl (eqb-true (refused e).number 3 x)) (λ m. ⊎_elim (λ x. inr (eqb-true (refused e).number 4 x)) (λ (f : false ≡ true). absurd (false≢true f)) (or-either (eqb (refused e).number 4) false m))
        (or-either (eqb (refused e).number 3) (has (refused e).number (4 ∷ [])) g.numbers)

    wider : (b : Bool) → has (refused e).number (3 ∷ 4 ∷ []) ≡ true → b || has (refused e).number (3 ∷ 4 ∷ []) ≡ true
    wider true h = refl
    wider false h = h

    none : (refused e).number ≡ 0 → ⊥
    none x = ⊎_elim (λ (y : (refused e).number ≡ 3). omega (arith, y, x)) (λ (y : (refused e).number ≡ 4). omega (arith, y, x)) three-or-four

    three-left : ((refused e).number ≡ 4 → ⊥) → (refused e).number ≡ 3
    three-left f = ⊎_elim (λ (y : (refused e).number ≡ 3). y) (λ (y : (refused e).number ≡ 4). absurd (f y)) three-or-four

-- or none is: they are carried out, unless a rule is broken
module _ (m t w : List ℕ) {rows rows' : List Row} {n : ℕ} (g : Tried t m rows rows' (Ok n)) {t' w' : List ℕ} {b : Bool}
    (o : RowsCarried (take n rows') t t' w w' b) where
  abbrev cs : List Change
  cs = changes_of (read_message m)

  same : layable (length t) (walk_table t everything) ≡ true → merged_rows (take n rows') (live_spots t) ≡ after_all cs (live_spots t)
  same h =
      ap (λ (l : List Row). merged_rows l (live_spots t)) g.lined.is
      ∙ merged-after cs (live_spots t) (sym (ap (λ (l : List Spot). rising (keys l)) (live-walk t)) ∙ laid-rises (length t) (walk_table t everything) h)

  few : sound t ≡ true → length (after_all cs (live_spots t)) ≤ capacity (length t)
  few s =
      applied-fits (length t) 0 cs (live_spots t) (sym (g.judged s))
      (subst (λ (l : List Spot). length l ≤ capacity (length t)) (live-walk t) (laid-few (length t) (walk_table t everything) (laid-sound t s)))
      (live-rises t s)

  fits : sound t ≡ true → b ≡ true
  fits s = o.fits s (subst (λ (l : List Spot). length l ≤ capacity (length t)) (sym (same (laid-sound t s))) (few s))

  pub carried-stuck : b ≡ false → (r : Answer) → r ≡ answer 3 0 → ManyCarried m t t' w w' r
  carried-stuck f r a =
      record {
        carried =
            record {
              sized = o.sized;
              lent_length = o.lent_length;
              rest = o.rest;
              kept = λ x. o.kept f;
              untouched = λ x. let no : ⊥ = omega (arith, number_of a, x) in absurd no;
              numbers = ap (λ (x : Answer). has x.number (0 ∷ 3 ∷ 4 ∷ [])) a;
              detail = λ x. detail-of a;
              position = λ x. let no : ⊥ = omega (arith, number_of a, x) in absurd no;
              answered = λ s. absurd (true≢false (sym (fits s) ∙ f));
              stays_sound = λ s. absurd (true≢false (sym (fits s) ∙ f));
              live_after = λ s. absurd (true≢false (sym (fits s) ∙ f));
              exact = λ s. absurd (true≢false (sym (fits s) ∙ f));
            };
        broken = λ x. number_of a;
        anew = λ x. let no : ⊥ = omega (arith, number_of a, x) in absurd no;
        full = λ x. let no : ⊥ = omega (arith, number_of a, x) in absurd no;
      }

  pub carried-all : b ≡ true → (r : Answer) → r ≡ answer 0 0 → ManyCarried m t t' w w' r
  carried-all y r a =
      let built = o.built y in
      let after = same (o.laid y) in
      record {
        carried =
            record {
              sized = o.sized;
              lent_length = o.lent_length;
              rest = o.rest;
              kept = λ x. absurd (x (number_of a));
              untouched = λ x. let no : ⊥ = omega (arith, number_of a, x) in absurd no;
              numbers = ap (λ (x : Answer). has x.number (0 ∷ 3 ∷ 4 ∷ [])) a;
              detail = λ x. detail-of a;
              position = λ x. let no : ⊥ = omega (arith, number_of a, x) in absurd no;
              answered = λ s. a ∙ g.judged s;
              stays_sound = λ s. rebuilt-sound t' _ built;
              live_after = λ s x k. rebuilt-live t' _ built k ∙ ap (find k) after;
              exact = λ s x. built.bound ∙ sym (ap length (rebuilt-spots t' _ built)) ∙ sym (live-are t');
            };
        broken = λ x. absurd (true≢false (sym (o.laid y) ∙ x));
        anew = λ x. (rebuilt-sound t' _ built, rebuilt-spots t' _ built ∙ after);
        full = λ x. let no : ⊥ = omega (arith, number_of a, x) in absurd no;
      }

-- the header keeps the rules: no change, one, or several
module _ {m t w : List ℕ} {r : Answer} (h : header_ok (length t) (head_of t) ≡ true) where
  pub carried-nothing : changes_of (read_message m) ≡ [] → r ≡ answer 0 0 → CarriedOr m t t w w r
  carried-nothing e a =
      record {
        carried = carried_none m t w r a e;
        header = λ f. absurd (true≢false (sym h ∙ f));
        none = λ x y. (a, refl);
        one = λ n. let no : ⊥ = omega (arith, ap length e, n) in absurd no;
        several = λ n. let no : ⊥ = omega (arith, ap length e, n) in absurd no;
      }

  module _ {t' w' : List ℕ} where
    pub carried-single : length (changes_of (read_message m)) ≡ 1 → OneCarried m t t' w w' r → CarriedOr m t t' w w' r
    carried-single n g =
        record {
          carried = g.carried;
          header = λ f. absurd (true≢false (sym h ∙ f));
          none = λ x e. let no : ⊥ = omega (arith, ap length e, n) in absurd no;
          one = λ x. g;
          several = λ x. let no : ⊥ = omega (arith, n, x) in absurd no;
        }

    pub carried-several : 2 ≤ length (changes_of (read_message m)) → ManyCarried m t t' w w' r → CarriedOr m t t' w w' r
    carried-several n g =
        record {
          carried = g.carried;
          header = λ f. absurd (true≢false (sym h ∙ f));
          none = λ x e. let no : ⊥ = omega (arith, ap length e, n) in absurd no;
          one = λ x. let no : ⊥ = omega (arith, n, x) in absurd no;
          several = λ x. g;
        }

-- or it doesn't
pub carried-unfit : (m t w : List ℕ) → header_ok (length t) (head_of t) ≡ false → (r : Answer) → r ≡ answer 3 0 → CarriedOr m t t w w r
carried-unfit m t w f r a =
    record {
      carried = whole;
      header = λ x. num;
      none = λ x. absurd (true≢false (sym x ∙ f));
      one = λ n. record { carried = whole; path = λ c e b. num; full = λ c e x. absurd (no x) };
      several = λ n. record { carried = whole; broken = λ b. num; anew = λ x. let no : ⊥ = omega (arith, num, x) in absurd no; full = λ x. absurd (no x) };
    }
  where
    num : r.number ≡ 3
    num = number_of a

    no : r.number ≡ 4 → ⊥
    no x = omega (arith, num, x)

    unsound : sound t ≡ true → ⊥
    unsound s = true≢false (sym (sound-header t s) ∙ f)

    whole : Carried m t t w w r
    whole =
        record {
          sized = refl;
          lent_length = refl;
          rest = refl;
          kept = λ x. refl;
          untouched = λ x. refl;
          numbers = ap (λ (x : Answer). has x.number (0 ∷ 3 ∷ 4 ∷ [])) a;
          detail = λ x. detail-of a;
          position = λ x. absurd (no x);
          answered = λ s. absurd (unsound s);
          stays_sound = λ s. s;
          live_after = λ s. absurd (unsound s);
          exact = λ s x. x;
        }
