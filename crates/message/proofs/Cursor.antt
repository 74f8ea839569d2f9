-- Changes one behind the other, read from an index on: what is known where there is one, of the first and of the rest, and of messages and lists that are some.
-- Assumes nothing.
use mathlib.Core.Path.{◌≡◌, refl, sym, ap, ◌∙◌}
use mathlib.Core.Logic.{◌⊎◌, inl, inr, ⊎_elim}
use mathlib.Core.Bool.{Bool, true, false, cond, ◌&&◌, false≢true, true≢false}
use mathlib.Core.List.{List, [], ◌∷◌}
use mathlib.Core.Option.{Option, none, some}
use Prim.Native.Nat.{ℕ, zero, suc, ◌+◌, ◌-◌, ◌/◌, ◌%◌, ◌≤◌, ◌<◌}
use native.Mathlib.Omega.{arith}
use lib.ListN.{length, get_or}
use lib.Dec.{leb, eqb}
use borrow.Author.Tests.{leb-true, eqb-true, le-leb, eq-eqb, ne_eqb}
use Rattle.octets.specs.Lists.{all}
use Rattle.octets.specs.Bytes.{be}
use Rattle.octets.proofs.Tests.{and_left, and_right, all-at}
use Rattle.spot.specs.Keys.{limited}
use Rattle.spot.specs.Spots.{key_at, spot_at}
use Rattle.block.specs.declared.Answer.{Answer}
use Rattle.block.specs.Answers.{answer}
use Rattle.message.specs.declared.Change.{Change}
use Rattle.message.specs.declared.Change.TheVariants.{Add, Withdraw}
use Rattle.message.specs.Changes.{change_key, change_size, read_change, in_front, read_on, read_changes, is_there, changes_of, all_limited}
use Rattle.message.specs.Codes.{Fill, change_at, ChangeThere, ChangesThere}
use Rattle.message.specs.Messages.{head_fits, read_message, read_list, message_answer}
use Rattle.message.proofs.Bytes.{size-add, size-withdraw}
use Rattle.message.proofs.Answers.{answered-zero}

-- ---- one change

pub fill-small : (fill : ℕ) → Fill fill → fill ≤ 4
fill-small fill (inl e) = omega arith
fill-small fill (inr e) = omega arith

-- there is one at an index
pub record OneThere (fill : ℕ) (s : List ℕ) (at : ℕ) : Type 0 where
  pub is : read_change fill s at ≡ some (change_at s at)
  pub sort : (get_or s at 0 ≡ 1) ⊎ ((get_or s at 0 ≡ 2) × (be fill s (at + 9) ≡ 0))
  pub inside : at + change_size fill (change_at s at) ≤ length s
  pub nine : at + 9 ≤ length s
  pub room : get_or s at 0 ≡ 1 → at + 13 ≤ length s
  pub keyed : change_key (change_at s at) ≡ key_at s (at + 1)

pub change-adds : (s : List ℕ) (at : ℕ) → get_or s at 0 ≡ 1 → change_at s at ≡ Add (spot_at s (at + 1))
unfolding change_at
change-adds s at k = rw (eq-eqb (get_or s at 0) 1 k)

pub change-withdraws : (s : List ℕ) (at : ℕ) → (get_or s at 0 ≡ 1 → ⊥) → change_at s at ≡ Withdraw (key_at s (at + 1))
unfolding change_at
change-withdraws s at k = rw (ne_eqb (get_or s at 0) 1 k)

pub size-adds : (fill : ℕ) (s : List ℕ) (at : ℕ) → get_or s at 0 ≡ 1 → change_size fill (change_at s at) ≡ 13
size-adds fill s at k = size-add fill (change-adds s at k)

pub size-withdraws : (fill : ℕ) (s : List ℕ) (at : ℕ) → (get_or s at 0 ≡ 1 → ⊥) → change_size fill (change_at s at) ≡ 9 + fill
size-withdraws fill s at k = size-withdraw fill (change-withdraws s at k)

change-keyed : (s : List ℕ) (at : ℕ) → change_key (change_at s at) ≡ key_at s (at + 1)
unfolding change_at spot_at
change-keyed s at = go (eqb (get_or s at 0) 1)
  where
    go : (b : Bool) → change_key (cond b (Add (spot_at s (at + 1))) (Withdraw (key_at s (at + 1)))) ≡ key_at s (at + 1)
    go true = refl
    go false = refl

module _ (fill : ℕ) (s : List ℕ) (at : ℕ) where
  abbrev kind : ℕ
  kind = get_or s at 0

  pub read-adds : kind ≡ 1 → at + 13 ≤ length s → read_change fill s at ≡ some (change_at s at)
  unfolding read_change
  read-adds k l = rw (eq-eqb kind 1 k, le-leb (at + 13) (length s) l) (ap some (sym (change-adds s at k)))

  pub read-withdraws : kind ≡ 2 → at + (9 + fill) ≤ length s → be fill s (at + 9) ≡ 0 → read_change fill s at ≡ some (change_at s at)
  unfolding read_change
  read-withdraws k l z =
      let n : kind ≡ 1 → ⊥ = λ e. omega arith in
      rw (ne_eqb kind 1 n, eq-eqb kind 2 k, le-leb (at + (9 + fill)) (length s) l, eq-eqb (be fill s (at + 9)) 0 z) (ap some (sym (change-withdraws s at n)))

  adds-there : kind ≡ 1 → at + 13 ≤ length s → OneThere fill s at
  adds-there k l =
      record {
        is = read-adds k l;
        sort = inl k;
        inside = omega (arith, size-adds fill s at k);
        nine = omega arith;
        room = λ e. l;
        keyed = change-keyed s at;
      }

  withdraws-there : kind ≡ 2 → at + (9 + fill) ≤ length s → be fill s (at + 9) ≡ 0 → OneThere fill s at
  withdraws-there k l z =
      record {
        is = read-withdraws k l z;
        sort = inr (k, z);
        inside = omega (arith, size-withdraws fill s at (λ e. omega arith));
        nine = omega arith;
        room = λ e. let f : ⊥ = omega arith in absurd f;
        keyed = change-keyed s at;
      }

  -- there is one, or none
  pub there-or-not : OneThere fill s at ⊎ (read_change fill s at ≡ none)
  unfolding read_change
  there-or-not = go (eqb kind 1) (leb (at + 13) (length s)) (eqb kind 2) (leb (at + (9 + fill)) (length s)) (eqb (be fill s (at + 9)) 0) refl refl refl refl refl
    where
      go : (a b c d e : Bool) → eqb kind 1 ≡ a → leb (at + 13) (length s) ≡ b → eqb kind 2 ≡ c → leb (at + (9 + fill)) (length s) ≡ d
          → eqb (be fill s (at + 9)) 0 ≡ e → OneThere fill s at ⊎ (read_change fill s at ≡ none)
      go true true c d e ea eb ec ed ee = inl (adds-there (eqb-true kind 1 ea) (leb-true (at + 13) (length s) eb))
      go true false true true true ea eb ec ed ee = inl
          (withdraws-there (eqb-true kind 2 ec) (leb-true (at + (9 + fill)) (length s) ed) (eqb-true (be fill s (at + 9)) 0 ee))
      go true false true true false ea eb ec ed ee = inr (rw (ea, eb, ec, ed, ee))
      go true false true false e ea eb ec ed ee = inr (rw (ea, eb, ec, ed))
      go true false false d e ea eb ec ed ee = inr (rw (ea, eb, ec))
      go false b true true true ea eb ec ed ee = inl
          (withdraws-there (eqb-true kind 2 ec) (leb-true (at + (9 + fill)) (length s) ed) (eqb-true (be fill s (at + 9)) 0 ee))
      go false b true true false ea eb ec ed ee = inr (rw (ea, ec, ed, ee))
      go false b true false e ea eb ec ed ee = inr (rw (ea, ec, ed))
      go false b false d e ea eb ec ed ee = inr (rw (ea, ec))

-- ---- one after another

in-front-there : (c : Change) (o : Option (List Change)) → is_there (in_front c o) ≡ is_there o
in-front-there c none = refl
in-front-there c (some cs) = refl

in-front-cons : (c : Change) (o : Option (List Change)) → is_there o ≡ true → changes_of (in_front c o) ≡ c ∷ changes_of o
in-front-cons c none h = absurd (false≢true h)
in-front-cons c (some cs) h = refl

-- n changes are there from an index on: the first, and the rest of them behind it
pub record NextThere (fill n : ℕ) (s : List ℕ) (at : ℕ) : Type 0 where
  pub is : read_change fill s at ≡ some (change_at s at)
  pub rest : is_there (read_changes fill n s (at + change_size fill (change_at s at))) ≡ true
  pub cons : changes_of (read_changes fill (suc n) s at) ≡ change_at s at ∷ changes_of (read_changes fill n s (at + change_size fill (change_at s at)))
  pub inside : at + change_size fill (change_at s at) ≤ length s
  pub nine : at + 9 ≤ length s
  pub room : get_or s at 0 ≡ 1 → at + 13 ≤ length s
  pub keyed : change_key (change_at s at) ≡ key_at s (at + 1)

module _ (fill n : ℕ) (s : List ℕ) (at : ℕ) where
  abbrev behind : ℕ
  behind = at + change_size fill (change_at s at)

  abbrev others : Option (List Change)
  others = read_changes fill n s behind

  -- whether they are there is decided behind the first, if that is there
  there-behind : OneThere fill s at → is_there (read_changes fill (suc n) s at) ≡ is_there (read_changes fill n s (at + change_size fill (change_at s at)))
  there-behind o = ap (λ (c : Option Change). is_there (read_on fill (read_changes fill n s) at c)) o.is ∙ in-front-there (change_at s at) others

  none-there : read_change fill s at ≡ none → is_there (read_changes fill (suc n) s at) ≡ false
  none-there e = ap (λ (c : Option Change). is_there (read_on fill (read_changes fill n s) at c)) e

  pub one-there : is_there (read_changes fill (suc n) s at) ≡ true → OneThere fill s at
  one-there h =
      ⊎_elim (λ (o : OneThere fill s at). o) (λ (e : read_change fill s at ≡ none). absurd (true≢false (sym h ∙ none-there e))) (there-or-not fill s at)

  pub next-there : is_there (read_changes fill (suc n) s at) ≡ true → NextThere fill n s at
  next-there h =
      let o = one-there h in
      let r : is_there others ≡ true = sym (there-behind o) ∙ h in
      record {
        is = o.is;
        rest = r;
        cons = ap (λ (c : Option Change). changes_of (read_on fill (read_changes fill n s) at c)) o.is ∙ in-front-cons (change_at s at) others r;
        inside = o.inside;
        nine = o.nine;
        room = o.room;
        keyed = o.keyed;
      }

-- if the places of all are inside the limits, so are the first's and those of the rest
pub record NextInside (fill n : ℕ) (s : List ℕ) (at : ℕ) : Type 0 where
  pub here : limited (change_key (change_at s at)) ≡ true
  pub there : ChangeThere s at
  pub rest : all_limited (changes_of (read_changes fill n s (at + change_size fill (change_at s at)))) ≡ true

pub next-inside : (fill n : ℕ) (s : List ℕ) (at : ℕ) → NextThere fill n s at → all_limited (changes_of (read_changes fill (suc n) s at)) ≡ true → NextInside fill n s at
next-inside fill n s at x h =
    let a : Bool = limited (change_key (change_at s at)) in
    let b : Bool = all_limited (changes_of (read_changes fill n s (at + change_size fill (change_at s at)))) in
    let both : a && b ≡ true = ap all_limited (sym x.cons) ∙ h in
    record {
      here = and_left a b both;
      there = record { inside = x.nine; room = x.room; limits = ap limited (sym x.keyed) ∙ and_left a b both };
      rest = and_right a b both;
    }

-- what is there under a test passed it
cond-there : (b : Bool) (o : Option (List Change)) → is_there (cond b o none) ≡ true → b ≡ true
cond-there true o h = refl
cond-there false o h = absurd (false≢true h)

pub end-there : (fill : ℕ) (s : List ℕ) (at : ℕ) → is_there (read_changes fill 0 s at) ≡ true → at ≡ length s
end-there fill s at h = eqb-true at (length s) (cond-there (eqb at (length s)) (some []) h)

-- no changes are none, there or not
pub none_read : (fill : ℕ) (s : List ℕ) (at : ℕ) → changes_of (read_changes fill 0 s at) ≡ []
none_read fill s at = go (eqb at (length s))
  where
    go : (b : Bool) → changes_of (cond b (some []) none) ≡ []
    go true = refl
    go false = refl

pub count-there : (fill n : ℕ) (s : List ℕ) (at : ℕ) → is_there (read_changes fill n s at) ≡ true → length (changes_of (read_changes fill n s at)) ≡ n
count-there fill zero s at h = ap length (none_read fill s at)
count-there fill (suc n) s at h =
    let x = next-there fill n s at h in
    ap length x.cons ∙ ap suc (count-there fill n s (at + change_size fill (change_at s at)) x.rest)

-- ---- those left of n changes behind the first i of them: what a walk over them knows

module _ (fill n : ℕ) (s : List ℕ) where
  one_less : (i : ℕ) → i < n → suc (n - (i + 1)) ≡ n - i
  one_less i l = omega arith

  pub left-next : (next i : ℕ) → i < n → is_there (read_changes fill (n - i) s next) ≡ true → NextThere fill (n - (i + 1)) s next
  left-next next i l h = next-there fill (n - (i + 1)) s next (ap (λ (k : ℕ). is_there (read_changes fill k s next)) (one_less i l) ∙ h)

  pub left-inside : (next i : ℕ) → i < n → is_there (read_changes fill (n - i) s next) ≡ true → all_limited (changes_of (read_changes fill (n - i) s next)) ≡ true
      → NextInside fill (n - (i + 1)) s next
  left-inside next i l h g =
      next-inside fill (n - (i + 1)) s next (left-next next i l h) (ap (λ (k : ℕ). all_limited (changes_of (read_changes fill k s next))) (one_less i l) ∙ g)

  pub left-cons : (next i : ℕ) → i < n → is_there (read_changes fill (n - i) s next) ≡ true
      → changes_of (read_changes fill (n - i) s next) ≡ change_at s next ∷ changes_of (read_changes fill (n - (i + 1)) s (next + change_size fill (change_at s next)))
  left-cons next i l h = ap (λ (k : ℕ). changes_of (read_changes fill k s next)) (sym (one_less i l)) ∙ (left-next next i l h).cons

  pub left-none : (next i : ℕ) → n ≤ i → changes_of (read_changes fill (n - i) s next) ≡ []
  left-none next i l = let e : n - i ≡ 0 = omega arith in ap (λ (k : ℕ). changes_of (read_changes fill k s next)) e ∙ none_read fill s next

  -- whether they are there
  pub left-goes : (next i : ℕ) → i < n → OneThere fill s next
      → is_there (read_changes fill (n - (i + 1)) s (next + change_size fill (change_at s next))) ≡ is_there (read_changes fill (n - i) s next)
  left-goes next i l o = sym (there-behind fill (n - (i + 1)) s next o) ∙ ap (λ (k : ℕ). is_there (read_changes fill k s next)) (one_less i l)

  pub left-stops : (next i : ℕ) → i < n → read_change fill s next ≡ none → is_there (read_changes fill (n - i) s next) ≡ false
  left-stops next i l e = ap (λ (k : ℕ). is_there (read_changes fill k s next)) (sym (one_less i l)) ∙ none-there fill (n - (i + 1)) s next e

  pub left-ends : (next i : ℕ) → n ≤ i → eqb next (length s) ≡ is_there (read_changes fill (n - i) s next)
  left-ends next i l = let e : 0 ≡ n - i = omega arith in go (eqb next (length s)) ∙ ap (λ (k : ℕ). is_there (read_changes fill k s next)) e
    where
      go : (b : Bool) → b ≡ is_there (cond b (some []) none)
      go true = refl
      go false = refl

-- a walk over n changes that are there, at the index next behind i of them
pub record Walk (fill n : ℕ) (s : List ℕ) (next i : ℕ) : Type 0 where
  pub within : i ≤ n
  pub inside : next ≤ length s
  pub there : is_there (read_changes fill (n - i) s next) ≡ true

pub walk_start : (fill n : ℕ) (s : List ℕ) (at : ℕ) → ChangesThere fill n s at → Walk fill n s at 0
walk_start fill n s at r =
    let e : n - 0 ≡ n = omega arith in
    record { within = omega arith; inside = r.from; there = ap (λ (k : ℕ). is_there (read_changes fill k s at)) e ∙ r.there }

pub walk_here : (fill n : ℕ) (s : List ℕ) (next i : ℕ) → Walk fill n s next i → i < n → next + 9 ≤ length s
walk_here fill n s next i w l = (left-next fill n s next i l w.there).nine

pub walk_inside : (fill n : ℕ) (s : List ℕ) (next i : ℕ) → Walk fill n s next i → i < n → {size : ℕ} → size ≡ change_size fill (change_at s next) → next + size ≤ length s
walk_inside fill n s next i w l e = omega (arith, (left-next fill n s next i l w.there).inside, e)

pub walk-next : (fill n : ℕ) (s : List ℕ) (next i : ℕ) → Walk fill n s next i → i < n → {size : ℕ} → size ≡ change_size fill (change_at s next)
    → Walk fill n s (next + size) (i + 1)
walk-next fill n s next i w l e =
    record {
      within = omega arith;
      inside = walk_inside fill n s next i w l e;
      there = ap (λ (k : ℕ). is_there (read_changes fill (n - (i + 1)) s (next + k))) e ∙ (left-next fill n s next i l w.there).rest;
    }

-- ---- a message

pub record MessageThere (m : List ℕ) : Type 0 where
  pub head : 7 ≤ length m
  pub few : be 2 m 5 ≤ 4096
  pub is : read_message m ≡ read_changes 0 (be 2 m 5) m 7
  pub there : is_there (read_changes 0 (be 2 m 5) m 7) ≡ true
  pub long : be 4 m 0 ≡ length m
  pub version : get_or m 4 0 ≡ 1

pub message-there : (m : List ℕ) → is_there (read_message m) ≡ true → MessageThere m
unfolding read_message head_fits
message-there m h =
    let e : head_fits m ≡ true = cond-there (head_fits m) (read_changes 0 (be 2 m 5) m 7) h in
    let i : read_message m ≡ read_changes 0 (be 2 m 5) m 7 = ap (λ (b : Bool). cond b (read_changes 0 (be 2 m 5) m 7) none) e in
    record {
      head = leb-true 7 (length m) (all-at _ e 0);
      few = leb-true (be 2 m 5) 4096 (all-at _ e 3);
      is = i;
      there = ap is_there (sym i) ∙ h;
      long = eqb-true (be 4 m 0) (length m) (all-at _ e 1);
      version = eqb-true (get_or m 4 0) 1 (all-at _ e 2);
    }

pub message-count : (m : List ℕ) → is_there (read_message m) ≡ true → length (changes_of (read_message m)) ≡ be 2 m 5
message-count m h =
    let x = message-there m h in
    ap (λ (o : Option (List Change)). length (changes_of o)) x.is ∙ count-there 0 (be 2 m 5) m 7 x.there

-- a message that is answered with 0 is one, and its places are inside the limits
pub accepted-message : (m : List ℕ) → message_answer m ≡ answer 0 0 → (is_there (read_message m) ≡ true) × (all_limited (changes_of (read_message m)) ≡ true)
unfolding message_answer
accepted-message m h = answered-zero (λ _. true) (read_message m) (ap (λ (a : Answer). a.number) h)

-- ---- a list

pub record ListThere (s : List ℕ) : Type 0 where
  pub few : length s / 13 ≤ 4096
  pub is : read_list s ≡ read_changes 4 (length s / 13) s 0
  pub there : is_there (read_changes 4 (length s / 13) s 0) ≡ true

pub list-there : (s : List ℕ) → is_there (read_list s) ≡ true → ListThere s
unfolding read_list
list-there s h =
    let tests : List Bool = eqb (length s % 13) 0 ∷ leb (length s / 13) 4096 ∷ [] in
    let e : all tests ≡ true = cond-there (all tests) (read_changes 4 (length s / 13) s 0) h in
    let i : read_list s ≡ read_changes 4 (length s / 13) s 0 = ap (λ (b : Bool). cond b (read_changes 4 (length s / 13) s 0) none) e in
    record { few = leb-true (length s / 13) 4096 (all-at _ e 1); is = i; there = ap is_there (sym i) ∙ h }
