-- The turns of stepping through a message.
-- Assumes nothing.
use mathlib.Core.Path.{◌≡◌, refl, sym, ap, ap₂, subst, ◌∙◌}
use Prim.Native.Nat.{ℕ, suc, ◌+◌, ◌-◌, ◌≤◌, ◌<◌}
use mathlib.Core.Bool.{Bool, true, false, cond, ◌&&◌}
use mathlib.Core.List.{List, [], ◌∷◌, ◌++◌, append_assoc, append-nil}
use mathlib.Core.Option.{Option}
use lib.ListN.{length, take}
use native.Mathlib.Omega.{arith}
use Rattle.octets.specs.Lists.{has}
use Rattle.octets.specs.Bytes.{be}
use Rattle.octets.proofs.Tests.{and_left, and_right}
use Rattle.spot.specs.Spots.{find}
use Rattle.spot.specs.Keys.{limited}
use Rattle.spot.specs.declared.Spot.{Spot}
use Rattle.block.specs.declared.Answer.{Answer}
use Rattle.block.specs.declared.Refusal.{Refusal}
use Rattle.block.specs.Answers.{answer, refused}
use Rattle.block.specs.Table.{table_sized, capacity}
use Rattle.block.proofs.Making.{blocks-most}
use Rattle.tree.specs.Sound.{sound}
use Rattle.tree.specs.Walk.{live_spots, live_count}
use Rattle.tree.proofs.Tables.{live-rises}
use Rattle.lookup.specs.Answers.{looked_up}
use Rattle.message.specs.declared.Change.{Change}
use Rattle.message.specs.Changes.{change_key, change_size, read_changes, is_there, changes_of, all_limited}
use Rattle.message.specs.Codes.{change_at, ChangeThere}
use Rattle.message.specs.Messages.{read_message, message_answer}
use Rattle.message.specs.Effects.{after_change, after_all, turns_down, applied_from, applied_answer}
use Rattle.message.proofs.Effects.{after-rises, after-append, applied-turned, applied-on}
use Rattle.message.proofs.Cursor.{NextThere, next-there, left-none, message-there, message-count, accepted-message}
use Rattle.std.specs.Prelude.{is_some, Result, Ok, Err}
use Rattle.rows.specs.declared.Row.{Row}
use Rattle.rows.specs.Rows.{row_of, row_key, row_track, row_at, track_fits, row_fits, put_row, rows_after}
use Rattle.rows.specs.Lining.{Rows, RowPut}
use Rattle.rows.proofs.Merged.{row-key, row_fits_lem, rows_more, row-after}
use Rattle.verdict.specs.declared.Refused.{Refused}
use Rattle.verdict.specs.declared.Refused.TheVariants.{NoRoom}
use Rattle.verdict.specs.Verdicts.{reckoned_for, next_live, there_after, refused_at, Tried}
use Rattle.verdict.proofs.Stepping.{there_in, there-is, row-adds, stepped, step_is}

-- ---- one number

pub most-few : (n : ℕ) → table_sized n ≡ true → capacity n ≤ 65520
most-few n h = omega (arith, blocks-most n h)

pub next-is : {most : ℕ} {adds there : Bool} {r : Result ℕ Refused} (t : List ℕ) (rs : List Row) (x : Row) (live : ℕ) → r ≡ next_live most adds (Ok there) live
    → most ≡ capacity (length t) → adds ≡ is_some (row_track x) → Ok there ≡ there_after (row_at (row_key x) rs) (looked_up t (row_key x))
    → r ≡ reckoned_for t rs x live
unfolding reckoned_for
next-is {there = there} t rs x live e f g h =
    e ∙ ap₂ (λ n b. next_live n b (Ok there) live) f g ∙ ap (λ (z : Result Bool Refused). next_live (capacity (length t)) (is_some (row_track x)) z live) h

-- a look-up came to a broken rule
pub next-broken : {e : Refused} {r : Result ℕ Refused} (t : List ℕ) (rs : List Row) (x : Row) (live : ℕ) → r ≡ Err e
    → Err e ≡ there_after (row_at (row_key x) rs) (looked_up t (row_key x)) → r ≡ reckoned_for t rs x live
unfolding reckoned_for
next-broken t rs x live f h = f ∙ ap (λ (z : Result Bool Refused). next_live (capacity (length t)) (is_some (row_track x)) z live) h

-- ---- one turn on a sound table

module _ (t : List ℕ) (s : sound t ≡ true) (past : List Change) where
  abbrev ss : List Spot
  ss = after_all past (live_spots t)

  of_is : (c : Change) → reckoned_for t (rows_after [] past) (row_of c) (length ss) ≡ stepped (length t) c ss
  unfolding reckoned_for
  of_is c =
      let there : there_after (row_at (row_key (row_of c)) (rows_after [] past)) (looked_up t (row_key (row_of c))) ≡ there_in (find (change_key c) ss) =
      ap (λ (k : ℕ). there_after (row_at k (rows_after [] past)) (looked_up t k)) (row-key c)
      ∙ there-is t s (change_key c) (row_at (change_key c) (rows_after [] past)) ss (row-after (change_key c) past (live_spots t)) in
      ap₂ (λ b y. next_live (capacity (length t)) b y (length ss)) (row-adds c) there ∙ step_is (length t) ss (after-rises past (live_spots t) (live-rises t s)) c

-- a change is turned down, or leaves so many
abbrev Stepped : ℕ → Change → List Spot → Result ℕ Refused → Type 0
Stepped bytes c ss (Err e) = (turns_down bytes c ss ≡ true) × (e ≡ NoRoom)
Stepped bytes c ss (Ok n) = (turns_down bytes c ss ≡ false) × (n ≡ length (after_change c ss))

stepped_by : (bytes : ℕ) (c : Change) (ss : List Spot) (y : Result ℕ Refused) → y ≡ stepped bytes c ss → Stepped bytes c ss y
stepped_by bytes c ss y e = go (turns_down bytes c ss) refl e
  where
    go : (b : Bool) → turns_down bytes c ss ≡ b → y ≡ cond b (Err NoRoom) (Ok (length (after_change c ss))) → Stepped bytes c ss y
    go true g h = rw h (g, refl)
    go false g h = rw h (g, refl)

-- ---- the turns

module _ (t m : List ℕ) (h : List Row) where
  -- i of n changes are done: these are the rows, and so many spots are live
  pub record Turn (n : ℕ) (k : List Row) (spots r at i : ℕ) : Type 0 where
    pub few : i ≤ n
    pub long : n ≡ length (changes_of (read_message m))
    pub past : List Change
    pub there : is_there (read_changes 0 (n - i) m at) ≡ true
    pub limits : all_limited (changes_of (read_changes 0 (n - i) m at)) ≡ true
    pub whole : changes_of (read_message m) ≡ past ++ changes_of (read_changes 0 (n - i) m at)
    pub is : take r k ≡ rows_after [] past
    pub rows : Rows k r
    pub count : r ≤ i
    pub sized : length k ≡ length h
    pub counts : spots ≡ length (after_all past (live_spots t))
    pub judged : applied_answer (length t) (changes_of (read_message m)) (live_spots t)
        ≡ applied_from (length t) i (changes_of (read_changes 0 (n - i) m at)) (after_all past (live_spots t))

  pub turn-start : {n live : ℕ} → message_answer m ≡ answer 0 0 → live ≡ live_count t → n ≡ length (changes_of (read_message m)) → Turn n h live 0 7 0
  unfolding live_count
  turn-start {n} a known e =
      let ok = accepted-message m a in
      let x = message-there m ok.0 in
      let same : be 2 m 5 ≡ n - 0 = omega (arith, e, message-count m ok.0) in
      let is : read_message m ≡ read_changes 0 (n - 0) m 7 = x.is ∙ ap (λ (j : ℕ). read_changes 0 j m 7) same in
      record {
        few = omega arith;
        long = e;
        past = [];
        there = ap is_there (sym is) ∙ ok.0;
        limits = ap (λ (o : Option (List Change)). all_limited (changes_of o)) (sym is) ∙ ok.1;
        whole = ap changes_of is;
        is = refl;
        rows = record { inside = omega arith; rises = refl; fit = refl };
        count = omega arith;
        sized = refl;
        counts = known;
        judged = ap (λ (o : Option (List Change)). applied_from (length t) 0 (changes_of o) (live_spots t)) is;
      }

module _ {t m : List ℕ} {h : List Row} where
  module _ {n : ℕ} {k : List Row} {spots r at i : ℕ} (v : Turn t m h n k spots r at i) (l : i < n) where
    abbrev here : Change
    here = change_at m at

    abbrev rest : List Change
    rest = changes_of (read_changes 0 (n - suc i) m (at + change_size 0 (change_at m at)))

    one_less : n - i ≡ suc (n - suc i)
    one_less = omega arith

    pub turn-next : NextThere 0 (n - suc i) m at
    turn-next = next-there 0 (n - suc i) m at (subst (λ (j : ℕ). is_there (read_changes 0 j m at) ≡ true) one_less v.there)

    split : changes_of (read_changes 0 (n - i) m at) ≡ here ∷ rest
    split = ap (λ (j : ℕ). changes_of (read_changes 0 j m at)) one_less ∙ turn-next.cons

    all-limited : limited (change_key here) && all_limited rest ≡ true
    all-limited = ap all_limited (sym split) ∙ v.limits

    pub turn-limited : limited (change_key here) ≡ true
    turn-limited = and_left (limited (change_key here)) (all_limited rest) all-limited

    pub turn-change : ChangeThere m at
    turn-change = record { inside = turn-next.nine; room = turn-next.room; limits = ap limited (sym turn-next.keyed) ∙ turn-limited }

    pub turn-fits : (x : Row) → x ≡ row_of (change_at m at) → track_fits (row_track x) ≡ true → row_fits x ≡ true
    turn-fits x e w = row_fits_lem x (ap (λ (y : Row). limited (row_key y)) e ∙ ap limited (row-key here) ∙ turn-limited) w

    abbrev spots_now : List Spot
    spots_now = after_all v.past (live_spots t)

    module _ (s : sound t ≡ true) {x : Row} (ex : x ≡ row_of (change_at m at)) where
      next-sound : (y : Result ℕ Refused) → y ≡ reckoned_for t (take r k) x spots → Stepped (length t) here spots_now y
      next-sound y e =
          stepped_by (length t) here spots_now y
          (e ∙ ap (λ (z : Row). reckoned_for t (take r k) z spots) ex ∙ ap₂ (λ (rs : List Row) (j : ℕ). reckoned_for t rs (row_of here) j) v.is v.counts ∙ of_is t s v.past here)

      judged-here : applied_answer (length t) (changes_of (read_message m)) (live_spots t) ≡ applied_from (length t) i (here ∷ rest) spots_now
      judged-here = v.judged ∙ ap (λ (cs : List Change). applied_from (length t) i cs spots_now) split

      pub turn-stops : {e : Refused} {a : Refusal} {k' : List Row} → Err e ≡ reckoned_for t (take r k) x spots → a ≡ refused_at e i → Tried t m h k' (Err a)
      turn-stops {e} {a} {k'} z f =
          let turned = next-sound (Err e) z in
          let four : refused a ≡ answer 4 i = ap refused f ∙ ap (λ (j : Refused). refused (refused_at j i)) turned.1 in
          let num : (refused a).number ≡ 4 = ap (λ (b : Answer). b.number) four in
          record {
            numbers = ap (λ (j : ℕ). has j (3 ∷ 4 ∷ [])) num;
            detail = λ w. absurd (w num);
            position = λ w. omega (arith, ap (λ (b : Answer). b.detail) four, v.long, l);
            lined = tt;
            judged = λ w. four ∙ sym (judged-here ∙ applied-turned (length t) i here rest spots_now turned.0);
            full = λ w. s;
          }

      pub turn-goes : {k' : List Row} {live r' at' i' : ℕ} → Ok live ≡ reckoned_for t (take r k) x spots → RowPut k k' r x r' → at' ≡ at + change_size 0 (change_at m at) → i' ≡ suc i
          → Turn t m h n k' live r' at' i'
      turn-goes {k'} {live} {r'} {at'} {i'} z p ea ei =
          let same : read_changes 0 (n - i') m at' ≡ read_changes 0 (n - suc i) m (at + change_size 0 here) = ap₂ (λ j q. read_changes 0 (n - j) m q) ei ea in
          record {
            few = omega arith;
            long = v.long;
            past = v.past ++ (here ∷ []);
            there = ap is_there same ∙ turn-next.rest;
            limits = ap (λ (o : Option (List Change)). all_limited (changes_of o)) same ∙ and_right (limited (change_key here)) (all_limited rest) all-limited;
            whole = v.whole ∙ ap (λ (cs : List Change). v.past ++ cs) split ∙ sym (append_assoc v.past (here ∷ []) rest) ∙ ap (λ (o : Option (List Change)). (v.past ++ (here ∷ [])) ++ changes_of o) (sym same);
            is = p.is ∙ ap₂ put_row ex v.is ∙ sym (rows_more [] v.past here);
            rows = p.rows;
            count = omega (arith, p.count, v.count);
            sized = p.sized ∙ v.sized;
            counts = (next-sound (Ok live) z).1 ∙ ap length (sym (after-append v.past here (live_spots t)));
            judged =
                judged-here ∙ applied-on (length t) i here rest spots_now (next-sound (Ok live) z).0
                ∙ ap₂ (λ (j : ℕ) (us : List Spot). applied_from (length t) j rest us) (sym ei) (sym (after-append v.past here (live_spots t)))
                ∙ ap (λ (o : Option (List Change)). applied_from (length t) i' (changes_of o) (after_all (v.past ++ (here ∷ [])) (live_spots t))) (sym same);
          }

  module _ {n : ℕ} {k : List Row} {spots r at i : ℕ} (v : Turn t m h n k spots r at i) (l : n ≤ i) where
    nothing : changes_of (read_changes 0 (n - i) m at) ≡ []
    nothing = left-none 0 n m at i l

    pub turn-ends : Tried t m h k (Ok r)
    turn-ends =
        record {
          numbers = tt;
          detail = tt;
          position = tt;
          lined = record {
            is = v.is ∙ ap (rows_after []) (sym (v.whole ∙ ap (λ (cs : List Change). v.past ++ cs) nothing ∙ append-nil v.past));
            rows = v.rows;
            sized = v.sized;
          };
          judged = λ w. sym (v.judged ∙ ap (λ (cs : List Change). applied_from (length t) i cs (after_all v.past (live_spots t))) nothing);
          full = tt;
        }
