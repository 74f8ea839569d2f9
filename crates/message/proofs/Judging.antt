-- What the judging functions compute, as laws over the bytes: the size of a change, and the tests of heads and lists.
-- Assumes nothing.
use mathlib.Core.Path.{◌≡◌, refl, sym, ap, ◌∙◌}
use mathlib.Core.Logic.{inl, inr, ⊎_elim}
use mathlib.Core.Bool.{Bool, true, false, cond, not, ◌&&◌, ◌||◌, true≢false}
use mathlib.Core.List.{List, [], ◌∷◌}
use mathlib.Core.Option.{none}
use Rattle.std.specs.Prelude.{Option, Some, None, unwrap_or}
use Rattle.std.proofs.lemmas.Option.{none-some}
use Prim.Native.Nat.{ℕ, suc, ◌+◌, ◌-◌, ◌/◌, ◌%◌, ◌≤◌, ◌<◌}
use native.Mathlib.Omega.{arith}
use lib.ListN.{length, get_or}
use lib.Dec.{leb, ltb, eqb}
use lib.IntN.{ℤ}
use borrow.Author.Tests.{leb-true, eqb-true, le-leb, lt-leb, eq-eqb}
use mir.Val.{bool_byte}
use Rattle.octets.specs.Lists.{all}
use Rattle.octets.specs.Bytes.{be}
use Rattle.octets.proofs.Tests.{and_left, and_right, and_both, all-at}
use Rattle.octets.proofs.Order.{not-leb}
use Rattle.spot.specs.Keys.{place_of, in_limits, limited}
use Rattle.spot.specs.Spots.{key_at, spot_at}
use Rattle.block.specs.Answers.{answer}
use Rattle.block.proofs.Shut.{all3}
use Rattle.message.specs.declared.Change.{Change}
use Rattle.message.specs.declared.Change.TheVariants.{Add, Withdraw}
use Rattle.message.specs.Changes.{change_key, change_size, read_change, read_changes, is_there, changes_of, adds_of, all_limited, first_outside}
use Rattle.message.specs.Codes.{Fill, size_read, change_at, ChangesThere}
use Rattle.message.specs.Messages.{head_fits, read_message, read_list, limits_answer, message_answer}
use Rattle.message.proofs.Bytes.{size-least}
use Rattle.message.proofs.Answers.{limits-inside, limits-outside, answer-eight, answer-there}
use Rattle.message.proofs.Cursor.{message-there, left-next, left-cons, left-none, left-goes, left-stops, left-ends, Walk, walk_start, walk-next, OneThere, fill-small, size-adds, size-withdraws, read-adds, read-withdraws, there-or-not}

-- ---- the zeros behind a withdrawal

pub no-zeros : (fill : ℕ) (s : List ℕ) (at : ℕ) → fill ≡ 0 → true ≡ eqb (be fill s at) 0
unfolding be
no-zeros fill s at e = ap (λ (k : ℕ). eqb (be k s at) 0) (sym e)

pub four-zeros : (fill : ℕ) → Fill fill → (fill ≡ 0 → ⊥) → fill ≡ 4
four-zeros fill (inl e) n = absurd (n e)
four-zeros fill (inr e) n = e

-- ---- the size of a change

-- k is the kind byte, as it was read
module _ (fill : ℕ) (s : List ℕ) (at : ℕ) (fills : Fill fill) (from : at ≤ length s) where
  abbrev left : ℕ
  left = length s - at

  abbrev Size : Option ℕ → Type 0
  Size r = r ≡ size_read fill (read_change fill s at)

  not_there : (OneThere fill s at → ⊥) → Size None
  not_there n =
      ⊎_elim (λ (o : OneThere fill s at). absurd (n o)) (λ (e : read_change fill s at ≡ none). ap (size_read fill) (sym e)) (there-or-not fill s at)

  pub size-short : length s - at < 9 + fill → Size None
  size-short h = not_there (λ o. omega (arith, o.inside, size-least fill (change_at s at) (fill-small fill fills)))

  module _ (k : ℕ) (read : k ≡ get_or s at 0) where
    pub size-row : eqb k 1 && leb 13 left ≡ true → Size (Some 13)
    size-row h =
        let e : k ≡ 1 = eqb-true k 1 (and_left (eqb k 1) (leb 13 left) h) in
        let l : 13 ≤ left = leb-true 13 left (and_right (eqb k 1) (leb 13 left) h) in
        sym (ap (size_read fill) (read-adds fill s at (omega arith) (omega arith)) ∙ ap Some (size-adds fill s at (omega arith)))

    no_row : eqb k 1 && leb 13 left ≡ false → OneThere fill s at → get_or s at 0 ≡ 1 → ⊥
    no_row h o e =
        let l : at + 13 ≤ length s = o.room e in
        true≢false (sym (and_both (eqb k 1) (leb 13 left) (eq-eqb k 1 (omega arith)) (le-leb 13 left (omega arith))) ∙ h)

    pub size-strange : eqb k 1 && leb 13 left ≡ false → (k ≡ 2 → ⊥) → Size None
    size-strange h n =
        not_there
        (λ o.
        ⊎_elim (λ (e : get_or s at 0 ≡ 1). no_row h o e) (λ (e : (get_or s at 0 ≡ 2) × (be fill s (at + 9) ≡ 0)). n (read ∙ e.0)) o.sort)

    pub size-dirty : k ≡ 2 → eqb (be fill s (at + 9)) 0 ≡ false → Size None
    size-dirty two h =
        not_there
        (λ o.
        ⊎_elim (λ (e : get_or s at 0 ≡ 1). let z : ⊥ = omega arith in z)
        (λ (e : (get_or s at 0 ≡ 2) × (be fill s (at + 9) ≡ 0)). true≢false (sym (eq-eqb (be fill s (at + 9)) 0 e.1) ∙ h)) o.sort)

    pub size-clean : k ≡ 2 → 9 + fill ≤ left → eqb (be fill s (at + 9)) 0 ≡ true → Size (Some (9 + fill))
    size-clean two l h =
        sym (ap (size_read fill) (read-withdraws fill s at (omega arith) (omega arith) (eqb-true (be fill s (at + 9)) 0 h)) ∙ ap Some (size-withdraws fill s at (λ e. omega arith)))

-- a walk's step over a change: the size that was read
module _ (fill : ℕ) (s : List ℕ) (at : ℕ) where
  no_size : None ≡ size_read fill (read_change fill s at) → read_change fill s at ≡ none
  no_size read =
      ⊎_elim (λ (o : OneThere fill s at). absurd (none-some _ (read ∙ ap (size_read fill) o.is)))
      (λ (e : read_change fill s at ≡ none). e) (there-or-not fill s at)

  some_size : {size : ℕ} → Some size ≡ size_read fill (read_change fill s at) → OneThere fill s at × (size ≡ change_size fill (change_at s at))
  some_size read =
      ⊎_elim (λ (o : OneThere fill s at). (o, ap (λ (x : Option ℕ). unwrap_or x 0) (read ∙ ap (size_read fill) o.is)))
      (λ (e : read_change fill s at ≡ none). absurd (none-some _ (sym (read ∙ ap (size_read fill) e)))) (there-or-not fill s at)

-- ---- n changes from an index on

-- those left are there if all are
pub record ThereInv (fill n : ℕ) (s : List ℕ) (at next i : ℕ) : Type 0 where
  pub within : i ≤ n
  pub inside : next ≤ length s
  pub same : is_there (read_changes fill (n - i) s next) ≡ is_there (read_changes fill n s at)

module _ (fill n : ℕ) (s : List ℕ) (at : ℕ) where
  pub there-start : at ≤ length s → ThereInv fill n s at at 0
  there-start h = record { within = omega arith; inside = h; same = ap (λ (k : ℕ). is_there (read_changes fill k s at)) (let e : n - 0 ≡ n = omega arith in e) }

  module _ (next i : ℕ) (v : ThereInv fill n s at next i) where
    pub there-end : n ≤ i → eqb next (length s) ≡ is_there (read_changes fill n s at)
    there-end l = left-ends fill n s next i l ∙ v.same

    module _ (l : i < n) where
      pub there-stop : None ≡ size_read fill (read_change fill s next) → false ≡ is_there (read_changes fill n s at)
      there-stop read = sym (left-stops fill n s next i l (no_size fill s next read)) ∙ v.same

      module _ {size : ℕ} (read : Some size ≡ size_read fill (read_change fill s next)) where
        pub there-inside : next + size ≤ length s
        there-inside = let o = some_size fill s next read in omega (arith, o.0.inside, o.1)

        pub there-next : ThereInv fill n s at (next + size) (i + 1)
        there-next =
            let o = some_size fill s next read in
            record {
              within = omega arith;
              inside = there-inside;
              same = ap (λ (k : ℕ). is_there (read_changes fill (n - (i + 1)) s (next + k))) o.1 ∙ left-goes fill n s next i l o.0 ∙ v.same;
            }

-- ---- how many add

pub bit-small : (b : Bool) → bool_byte b ≤ 1
bit-small true = omega arith
bit-small false = omega arith

adds-turn : (s : List ℕ) (at : ℕ) (cs : List Change) → adds_of (change_at s at ∷ cs) ≡ bool_byte (eqb (get_or s at 0) 1) + adds_of cs
unfolding change_at
adds-turn s at cs = go (eqb (get_or s at 0) 1)
  where
    go : (b : Bool) → adds_of (cond b (Add (spot_at s (at + 1))) (Withdraw (key_at s (at + 1))) ∷ cs) ≡ bool_byte b + adds_of cs
    go true = omega arith
    go false = omega arith

-- those counted and those left are all
pub record AddsInv (fill n : ℕ) (s : List ℕ) (at adds next i : ℕ) : Type 0 where
  pub walk : Walk fill n s next i
  pub few : adds ≤ i
  pub sum : adds + adds_of (changes_of (read_changes fill (n - i) s next)) ≡ adds_of (changes_of (read_changes fill n s at))

module _ (fill n : ℕ) (s : List ℕ) (at : ℕ) where
  pub adds-start : ChangesThere fill n s at → AddsInv fill n s at 0 at 0
  adds-start r =
      let e : n - 0 ≡ n = omega arith in
      record { walk = walk_start fill n s at r; few = omega arith; sum = omega (arith, ap (λ (k : ℕ). adds_of (changes_of (read_changes fill k s at))) e) }

  module _ (adds next i : ℕ) (v : AddsInv fill n s at adds next i) where
    pub adds-next : i < n → {size : ℕ} → size ≡ change_size fill (change_at s next) → AddsInv fill n s at (adds + bool_byte (eqb (get_or s next 0) 1)) (next + size) (i + 1)
    adds-next l {size} e =
        let cs : List Change = changes_of (read_changes fill (n - (i + 1)) s (next + change_size fill (change_at s next))) in
        let p : adds_of (changes_of (read_changes fill (n - (i + 1)) s (next + size))) ≡ adds_of cs =
        ap (λ (k : ℕ). adds_of (changes_of (read_changes fill (n - (i + 1)) s (next + k)))) e in
        let q : adds_of (changes_of (read_changes fill (n - i) s next)) ≡ bool_byte (eqb (get_or s next 0) 1) + adds_of cs =
        ap adds_of (left-cons fill n s next i l v.walk.there) ∙ adds-turn s next cs in
        record {
          walk = walk-next fill n s next i v.walk l e;
          few = omega (arith, v.few, bit-small (eqb (get_or s next 0) 1));
          sum = omega (arith, v.sum, p, q);
        }

    pub adds-end : n ≤ i → (adds ≡ adds_of (changes_of (read_changes fill n s at))) × (adds ≤ n)
    adds-end l = (omega (arith, v.sum, ap adds_of (left-none fill n s next i l)), omega (arith, v.few, v.walk.within))

-- ---- the first outside the limits

-- a place as it was read and tested
pub place-tested : (s : List ℕ) (at : ℕ) {k : ℕ} (place a : ℤ) {b : Bool} → k ≡ key_at s at → place ≡ place_of k → a ≡ place → b ≡ in_limits a → b ≡ limited (key_at s at)
unfolding limited
place-tested s at place a ek ep ea eb = eb ∙ ap in_limits (ea ∙ ep ∙ ap place_of ek)

pub record OutsideInv (fill n : ℕ) (s : List ℕ) (at next i : ℕ) : Type 0 where
  pub walk : Walk fill n s next i
  pub sum : i + first_outside (changes_of (read_changes fill (n - i) s next)) ≡ first_outside (changes_of (read_changes fill n s at))

module _ (fill n : ℕ) (s : List ℕ) (at : ℕ) where
  pub outside-start : ChangesThere fill n s at → OutsideInv fill n s at at 0
  outside-start r =
      let e : n - 0 ≡ n = omega arith in
      record { walk = walk_start fill n s at r; sum = omega (arith, ap (λ (k : ℕ). first_outside (changes_of (read_changes fill k s at))) e) }

  module _ (next i : ℕ) (v : OutsideInv fill n s at next i) where
    pub outside-end : n ≤ i → n ≡ first_outside (changes_of (read_changes fill n s at))
    outside-end l = omega (arith, v.sum, ap first_outside (left-none fill n s next i l), v.walk.within)

    module _ (l : i < n) where
      abbrev others : List Change
      others = changes_of (read_changes fill (n - (i + 1)) s (next + change_size fill (change_at s next)))

      first-turn : (b : Bool) → b ≡ limited (key_at s (next + 1)) → first_outside (changes_of (read_changes fill (n - i) s next)) ≡ cond b (suc (first_outside others)) 0
      first-turn b e =
          ap first_outside (left-cons fill n s next i l v.walk.there)
          ∙ ap (λ (k : ℕ). cond (limited k) (suc (first_outside others)) 0) (left-next fill n s next i l v.walk.there).keyed
          ∙ ap (λ (a : Bool). cond a (suc (first_outside others)) 0) (sym e)

      pub outside-stop : false ≡ limited (key_at s (next + 1)) → i ≡ first_outside (changes_of (read_changes fill n s at))
      outside-stop e = omega (arith, v.sum, first-turn false e)

      pub outside-next : true ≡ limited (key_at s (next + 1)) → {size : ℕ} → size ≡ change_size fill (change_at s next) → OutsideInv fill n s at (next + size) (i + 1)
      outside-next e {size} es =
          let p : first_outside (changes_of (read_changes fill (n - (i + 1)) s (next + size))) ≡ first_outside others =
          ap (λ (k : ℕ). first_outside (changes_of (read_changes fill (n - (i + 1)) s (next + k)))) es in
          record { walk = walk-next fill n s next i v.walk l es; sum = omega (arith, v.sum, p, first-turn true e) }

-- ---- heads

pub head-short : (m : List ℕ) → length m < 7 → false ≡ head_fits m
unfolding head_fits all
head-short m h = ap (λ (b : Bool). all (b ∷ eqb (be 4 m 0) (length m) ∷ eqb (get_or m 4 0) 1 ∷ leb (be 2 m 5) 4096 ∷ [])) (sym (lt-leb 7 (length m) h))

pub head-tests : (m : List ℕ) → 7 ≤ length m → {bytes version n : ℕ} → bytes ≡ be 4 m 0 → version ≡ get_or m 4 0 → n ≡ be 2 m 5
    → (eqb bytes (length m) && eqb version 1) && leb n 4096 ≡ head_fits m
unfolding head_fits all
head-tests m h eb ev en =
    rw (eb, ev, en, le-leb 7 (length m) h) (sym (all3 (eqb (be 4 m 0) (length m)) (eqb (get_or m 4 0) 1) (leb (be 2 m 5) 4096)))

pub head-long : (m : List ℕ) → head_fits m ≡ true → 7 ≤ length m
unfolding head_fits
head-long m h = leb-true 7 (length m) (all-at _ h 0)

pub no-message : (m : List ℕ) → head_fits m ≡ false → false ≡ is_there (read_message m)
unfolding read_message
no-message m h = ap (λ (b : Bool). is_there (cond b (read_changes 0 (be 2 m 5) m 7) none)) (sym h)

pub headed-message : (m : List ℕ) → head_fits m ≡ true → {n : ℕ} {b : Bool} → n ≡ be 2 m 5 → b ≡ is_there (read_changes 0 n m 7) → b ≡ is_there (read_message m)
unfolding read_message
headed-message m h en eb =
    eb ∙ ap (λ (k : ℕ). is_there (read_changes 0 k m 7)) en ∙ ap (λ (b : Bool). is_there (cond b (read_changes 0 (be 2 m 5) m 7) none)) (sym h)

-- the changes of a message that is one, n of them as it was read
module _ (m : List ℕ) (h : is_there (read_message m) ≡ true) {n : ℕ} (en : n ≡ be 2 m 5) where
  pub message-is : read_changes 0 n m 7 ≡ read_message m
  message-is = ap (λ (k : ℕ). read_changes 0 k m 7) en ∙ sym (message-there m h).is

  pub message-readable : ChangesThere 0 n m 7
  message-readable =
      record { fills = inl refl; from = (message-there m h).head; there = ap (λ (k : ℕ). is_there (read_changes 0 k m 7)) en ∙ (message-there m h).there }

-- ---- lists

-- two tests that must fail, as the code joins them
module _ (s : List ℕ) where
  abbrev whole : Bool
  whole = eqb (length s % 13) 0

  abbrev many : Bool
  many = ltb 4096 (length s / 13)

  list-sized : (a b : Bool) → a ≡ whole → b ≡ many → all (whole ∷ leb (length s / 13) 4096 ∷ []) ≡ not (not a || b)
  unfolding all
  list-sized a b ea eb = rw (← ea) (ap (λ (c : Bool). a && (c && true)) few ∙ go a b)
    where
      twice : (c : Bool) → not (not c) ≡ c
      twice true = refl
      twice false = refl

      few : leb (length s / 13) 4096 ≡ not b
      few = sym (twice (leb (length s / 13) 4096)) ∙ ap not (not-leb (length s / 13) 4096 ∙ sym eb)

      go : (c d : Bool) → c && (not d && true) ≡ not (not c || d)
      go true true = refl
      go true false = refl
      go false d = refl

  pub no-list : not whole || many ≡ true → false ≡ is_there (read_list s)
  unfolding read_list
  no-list h = ap (λ (b : Bool). is_there (cond b (read_changes 4 (length s / 13) s 0) none)) (sym (list-sized whole many refl refl ∙ ap not h))

  pub sized-list : not whole || many ≡ false → {b : Bool} → b ≡ is_there (read_changes 4 (length s / 13) s 0) → b ≡ is_there (read_list s)
  unfolding read_list
  sized-list h eb = eb ∙ ap (λ (b : Bool). is_there (cond b (read_changes 4 (length s / 13) s 0) none)) (sym (list-sized whole many refl refl ∙ ap not h))

-- ---- what the places decide

first-all : (cs : List Change) → all_limited cs ≡ true → first_outside cs ≡ length cs
first-all [] h = refl
first-all (c ∷ cs) h =
    ap (λ (b : Bool). cond b (suc (first_outside cs)) 0) (and_left (limited (change_key c)) (all_limited cs) h)
    ∙ ap suc (first-all cs (and_right (limited (change_key c)) (all_limited cs) h))

first_some : (cs : List Change) → all_limited cs ≡ false → first_outside cs < length cs
first_some [] h = absurd (true≢false h)
first_some (c ∷ cs) h = go (limited (change_key c)) h (first_some cs)
  where
    go : (b : Bool) → b && all_limited cs ≡ false → (all_limited cs ≡ false → first_outside cs < length cs) → cond b (suc (first_outside cs)) 0 < suc (length cs)
    go true e f = omega (arith, f e)
    go false e f = omega arith

module _ (cs : List Change) {first n : ℕ} (found : first ≡ first_outside cs) (count : length cs ≡ n) where
  pub limits-nine : first < n → answer 9 first ≡ limits_answer cs
  limits-nine l = go (all_limited cs) refl
    where
      go : (b : Bool) → all_limited cs ≡ b → answer 9 first ≡ limits_answer cs
      go true e = let z : ⊥ = omega (arith, first-all cs e) in absurd z
      go false e = ap (answer 9) found ∙ sym (limits-outside cs e)

  pub limits-zero : n ≤ first → answer 0 0 ≡ limits_answer cs
  limits-zero l = go (all_limited cs) refl
    where
      go : (b : Bool) → all_limited cs ≡ b → answer 0 0 ≡ limits_answer cs
      go true e = sym (limits-inside cs e)
      go false e = let z : ⊥ = omega (arith, first_some cs e) in absurd z

-- ---- the answer

pub message-refused : (m : List ℕ) → is_there (read_message m) ≡ false → answer 8 0 ≡ message_answer m
unfolding message_answer
message-refused m h = answer-eight (λ _. true) (read_message m) h

pub message-told : (m : List ℕ) → is_there (read_message m) ≡ true → limits_answer (changes_of (read_message m)) ≡ message_answer m
unfolding message_answer
message-told m h = answer-there (λ _. true) (read_message m) h
