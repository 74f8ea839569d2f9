-- Requests 2026-06 and 2026-07: 8 and 9 from the promises of the calls alone, places from what is live in a sound table.
-- Assumes nothing.
use mathlib.Core.Path.{◌≡◌, refl, ap, sym, ◌∙◌}
use mathlib.Core.Logic.{⊎_elim}
use mathlib.Core.Bool.{Bool, true, false, cond, true≢false}
use mathlib.Core.List.{List}
use mathlib.Core.Option.{Option, some}
use Prim.Native.Nat.{ℕ, zero, suc, ◌/◌, ◌≤◌, ◌<◌}
use native.Mathlib.Omega.{arith}
use lib.Dec.{leb, ltb}
use lib.IntN.{ℤ, ◌-ℤ◌}
use lib.ListN.{length}
use borrow.Author.Tests.{le-leb, leb-true, not-true}
use Rattle.octets.specs.Lists.{every, has}
use Rattle.octets.proofs.Order.{same_or_not}
use Rattle.octets.proofs.Sets.{every-has}
use Rattle.spot.specs.Keys.{key, in_limits, limited}
use Rattle.spot.proofs.Limits.{limited-key, gap-fits}
use Rattle.spot.proofs.Signed.{signed-fits, fits_signed}
use Rattle.block.specs.declared.Answer.{Answer}
use Rattle.block.specs.Answers.{answer}
use Rattle.block.specs.Header.{head_of}
use Rattle.block.specs.Node.{store_of}
use Rattle.block.specs.Table.{table_sized}
use Rattle.tree.specs.Lookup.{is_live, live}
use Rattle.tree.specs.Part.{whole}
use Rattle.tree.specs.Sound.{sound}
use Rattle.tree.specs.Walk.{Walk, broken, walked}
use Rattle.tree.proofs.Legal.{lookup-outside}
use Rattle.tree.proofs.Tables.{sound-tree}
use Rattle.table.specs.Calls.{Call, format, add, withdraw, report, top, count, check, rebuild, report_many, top_within, apply, kind, Lengths}
use Rattle.table.specs.Answers.{of_table, with_scratch, with_output, with_counts, lent, few_enough, argument_number, early_number, early_detail, unless_refused, spots_answer, outcomes}
use Rattle.table.specs.Queries.{walk_answer, count_answer}
use Rattle.table.specs.Updates.{scratch_left, UpdatePost}
use Rattle.table.proofs.Answering.{number-argument}
use Rattle.table.proofs.Changes.{number_is_lem}
use Rattle.message.specs.Messages.{message_answer}
use Rattle.demands.specs.Model.{PlainSpot, PlainChange, plain_message, no_message, nothing_said, said_in, outside, some_outside, position_outside, changes_outside}
use Rattle.demands.specs.History.{Event, MetBy}
use Rattle.demands.specs.Demands.{LiveSpot, RefusedMessages, RefusedOutside, PlacesEnd}
use Rattle.demands.proofs.Orders.{outside-limits}
use Rattle.demands.proofs.Plain.{early-is}
use Rattle.demands.proofs.Messages.{message-number, message-detail}

-- ---- outside

outside-nine : (place : ℤ) → outside place ≡ true → cond {A = ℕ} (in_limits place) 0 9 ≡ 9
outside-nine place o = ap (λ (b : Bool). cond {A = ℕ} b 0 9) (not-true (in_limits place) (sym (outside-limits place) ∙ o))

-- refused by the arguments: everything is as it was
module _ (c : Call) (due : Answer) (after : ℕ → Option ℕ) (t w : List ℕ) (r : Answer) (t' w' : List ℕ) (p : UpdatePost c due after t w r t' w') where
  refused-by : (n : ℕ) → 5 < n → scratch_left (length t) n w ≡ w → table_sized (length t) ≡ true → lent (with_scratch t w) (kind c) ≡ true → few_enough (kind c) ≡ true → argument_number c ≡ n
      → (r ≡ answer n (early_detail c n)) × (t' ≡ t) × (w' ≡ w)
  refused-by n late same z l f o =
      let e : early_number (with_scratch t w) c ≡ n = number-argument (with_scratch t w) c z l f ∙ o in
      let a : r ≡ answer n (early_detail c n) = p.refusals (λ x. omega arith) ∙ ap (λ (i : ℕ). answer i (early_detail c i)) e in
      let m : r.number ≡ n = number_is_lem a in
      (a, p.unchanged (λ x. omega arith), p.scratch ∙ ap (λ (i : ℕ). scratch_left (length t) i w) m ∙ same)

  refused-eight : table_sized (length t) ≡ true → lent (with_scratch t w) (kind c) ≡ true → few_enough (kind c) ≡ true → argument_number c ≡ 8
      → (r ≡ answer 8 (early_detail c 8)) × (t' ≡ t) × (w' ≡ w)
  unfolding scratch_left
  refused-eight = refused-by 8 (omega arith) refl

  refused-nine : table_sized (length t) ≡ true → lent (with_scratch t w) (kind c) ≡ true → few_enough (kind c) ≡ true → argument_number c ≡ 9
      → (r ≡ answer 9 (early_detail c 9)) × (t' ≡ t) × (w' ≡ w)
  unfolding scratch_left
  refused-nine = refused-by 9 (omega arith) refl

-- ---- and nothing else

-- lengths and arguments don't decide on 8 or on 9
early-by : (l : Lengths) (c : Call) (n : ℕ) → 6 < n → early_number l c ≡ n → cond (no_message c) 8 (cond (changes_outside c) 9 0) ≡ n
early-by l c n late h =
    go (table_sized l.table) (lent l (kind c)) (few_enough (kind c)) (cond (no_message c) 8 (cond (changes_outside c) 9 0)) (sym (early-is l c) ∙ h)
  where
    go : (a b d : Bool) (k : ℕ) → ◌≡◌ {A = ℕ} (cond a (cond b (cond d k 6) 2) 1) n → k ≡ n
    go true true true k i = i
    go true true false k i = absurd (omega arith)
    go true false d k i = absurd (omega arith)
    go false b d k i = absurd (omega arith)

-- a number above 5 is theirs
unless-late : (n : ℕ) (r a : Answer) → r ≡ unless_refused n a → a.number ≤ 5 → 5 < r.number → n ≡ r.number
unfolding unless_refused
unless-late zero r a e f h = let i : r.number ≡ a.number = ap (λ (x : Answer). x.number) e in absurd (omega arith)
unless-late (suc n) r a e f h = sym (ap (λ (x : Answer). x.number) e)

outcome-late : (c : Call) (n : ℕ) → every (λ m. leb m 5) (outcomes c) ≡ true → has n (outcomes c) ≡ true → n ≤ 5
outcome-late c n few h = leb-true n 5 (every-has (λ m. leb m 5) n (outcomes c) few h)

walk-late : (bytes : ℕ) (w : Walk) → (walk_answer bytes w).number ≤ 5
unfolding walk_answer spots_answer
walk-late bytes broken = omega arith
walk-late bytes (walked found blocks) = go (ltb (bytes / 12) (length found))
  where
    go : (b : Bool) → cond b 5 0 ≤ 5
    go true = omega arith
    go false = omega arith

count-late : (w : Walk) → (count_answer w).number ≤ 5
unfolding count_answer
count-late broken = omega arith
count-late (walked found blocks) = omega arith

module _ (c : Call) (t : List ℕ) (e : Event) (late : 5 < e.answer.number) (few : every (λ m. leb m 5) (outcomes c) ≡ true) where
  -- a call that changes the table
  update-late : (due : Answer) (after : ℕ → Option ℕ) → UpdatePost c due after t e.scratch e.answer e.table' e.scratch'
      → early_number (with_scratch t e.scratch) c ≡ e.answer.number
  update-late due after p =
      ⊎_elim (λ l. let m = outcome-late c e.answer.number few (p.numbers l) in absurd (omega arith)) (λ l. sym (number_is_lem (p.refusals l)))
      (same_or_not (early_number (with_scratch t e.scratch) c) 0)

late-early : (c : Call) (t : List ℕ) (e : Event) → MetBy c t e → 5 < e.answer.number → (l : Lengths) × (early_number l c ≡ e.answer.number)
late-early format t e p h = (of_table t, unless-late _ _ (answer 0 0) p.promised.answered (omega arith) h)
late-early (add place rank track) t e p h = (with_scratch t e.scratch, update-late (add place rank track) t e h refl _ _ p.promised.update)
late-early (withdraw place rank) t e p h = (with_scratch t e.scratch, update-late (withdraw place rank) t e h refl _ _ p.promised.update)
late-early (report x1 x2 y) t e p h = (with_output t e.output e.read_map, unless-late _ _ _ p.promised.answered (walk-late (length e.output) _) h)
late-early (top x1 x2 k) t e p h = (with_output t e.output e.read_map, unless-late _ _ _ p.promised.answered (walk-late (length e.output) _) h)
late-early count t e p h = (of_table t, unless-late _ _ _ p.promised.answered (count-late _) h)
late-early check t e p h = (of_table t, unless-late _ _ (answer 0 _) p.promised.answered (omega arith) h)
late-early rebuild t e p h = (with_scratch t e.scratch, update-late rebuild t e h refl _ _ p.promised.update)
late-early (report_many rs) t e p h = (
  with_counts t e.output e.read_map e.counts,
  unless-late _ _ _ p.promised.handed.answered (walk-late (length e.output) _) h,
)
late-early (top_within x1 x2 k a) t e p h = (with_output t e.output e.read_map, unless-late _ _ _ p.promised.search.answered (walk-late (length e.output) _) h)
late-early (apply m) t e p h = (with_scratch t e.scratch, update-late (apply m) t e h refl _ _ p.promised.update)

-- so 8 and 9 come from a message and from places
decided : (c : Call) (t : List ℕ) (e : Event) → MetBy c t e → 6 < e.answer.number → cond (no_message c) 8 (cond (changes_outside c) 9 0) ≡ e.answer.number
decided c t e p h = let r = late-early c t e p (omega arith) in early-by r.0 c e.answer.number h r.1

never-eight : (c : Call) (t : List ℕ) (e : Event) → MetBy c t e → no_message c ≡ false → e.answer.number ≡ 8 → ⊥
never-eight c t e p n h =
    go (changes_outside c) (ap (λ (b : Bool). cond b 8 (cond (changes_outside c) 9 0)) (sym n) ∙ decided c t e p (omega arith) ∙ h)
  where
    go : (b : Bool) → ◌≡◌ {A = ℕ} (cond b 9 0) 8 → ⊥
    go true i = omega (arith, i)
    go false i = omega (arith, i)

never-nine : (c : Call) (t : List ℕ) (e : Event) → MetBy c t e → changes_outside c ≡ false → e.answer.number ≡ 9 → ⊥
never-nine c t e p n h =
    go (no_message c) (ap (λ (b : Bool). cond (no_message c) 8 (cond b 9 0)) (sym n) ∙ decided c t e p (omega arith) ∙ h)
  where
    go : (b : Bool) → ◌≡◌ {A = ℕ} (cond b 8 0) 9 → ⊥
    go true i = omega (arith, i)
    go false i = omega (arith, i)

-- ---- the requests

pub refused-messages : RefusedMessages
refused-messages =
    record {
      applies = λ m t w r t' w' p z l e.
          refused-eight (apply m) _ _ t w r t' w' p.update z (le-leb (length t) (length w) l) refl (message-number m ∙ rw e);
      else = λ t e p n. never-eight e.call t e p n;
    }

-- a message with a change outside
module _ (m : List ℕ) (cs : List PlainChange) (e : plain_message m ≡ some cs) (o : some_outside cs ≡ true) where
  nine-number : (message_answer m).number ≡ 9
  nine-number = message-number m ∙ rw (e, o)

  nine-position : (message_answer m).detail ≡ position_outside cs
  nine-position = message-detail m (ap nothing_said e) (ap (λ (x : Option (List PlainChange)). some_outside (said_in x)) e ∙ o) ∙ ap (λ (x : Option (List PlainChange)). position_outside (said_in x)) e

pub refused-outside : RefusedOutside
refused-outside =
    record {
      adds = λ place rank track t w r t' w' p z l o.
          refused-nine (add place rank track) _ _ t w r t' w' p.update z (le-leb (length t) (length w) l) refl (outside-nine place o);
      withdraws = λ place rank t w r t' w' p z l o.
          refused-nine (withdraw place rank) _ _ t w r t' w' p.update z (le-leb (length t) (length w) l) refl (outside-nine place o);
      applies = λ m t w r t' w' cs p z l e o.
          let n = refused-nine (apply m) _ _ t w r t' w' p.update z (le-leb (length t) (length w) l) refl (nine-number m cs e o) in
          (n.0 ∙ ap (answer 9) (nine-position m cs e o), n.1, n.2);
      else = λ t e p o. never-nine e.call t e p o;
    }

-- ---- places have an end

-- a sound tree finds no key outside the limits
live_inside : (t : List ℕ) → sound t ≡ true → (s : PlainSpot) → LiveSpot t s → in_limits s.place ≡ true
unfolding live
live_inside t h s l = sym (limited-key s.place s.rank (signed-fits s.place l.place_fits) (signed-fits s.rank l.rank_fits)) ∙ go (limited k) refl
  where
    k : ℕ
    k = key s.place s.rank

    go : (b : Bool) → limited k ≡ b → limited k ≡ true
    go true i = i
    go false i =
        absurd
        (true≢false (ap is_live (sym l.there ∙ lookup-outside (head_of t).levels (store_of t) (head_of t).root (whole (head_of t)).asked (sound-tree t h) k i)))

pub places-end : PlacesEnd
places-end = record { live = live_inside; difference = λ a b g h. fits_signed (a -ℤ b) (gap-fits a b g h) }
