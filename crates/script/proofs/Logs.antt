-- The events of a run are a history; where they agree with the model, the last table is sound and the log is the model's.
-- Assumes nothing.
use mathlib.Core.Path.{◌≡◌, refl, sym, ap, ap₂, ◌∙◌}
use mathlib.Core.Bool.{Bool, true, false, cond, true≢false}
use mathlib.Core.List.{List, [], ◌∷◌, ◌++◌, append_assoc}
use Prim.Native.Nat.{ℕ, suc, ◌+◌, ◌*◌}
use lib.ListN.{length, take, drop}
use Rattle.block.specs.declared.Answer.{Answer}
use Rattle.tree.specs.Sound.{sound}
use Rattle.table.specs.Calls.{Call, format, add, withdraw, report, top, count, check, rebuild, report_many, top_within, apply, kind, is_query, Lengths}
use Rattle.demands.specs.Model.{PlainSpot, PlainChange, Plain, Reply, as_bytes, output_after, plain_message, refuse, accept, bad_table, bad_lent, too_many, changes_in, no_message, said_in, changes_outside, position_outside, full, turned_down, changed_by, applied, own_reply, reply, told_call, four_bytes, complement}
use Rattle.demands.specs.History.{Event, History, AllAgreed, certain_in, reply_in, model_after}
use Rattle.script.specs.Script.{Step, lent_to, log_after}
use Rattle.script.specs.Run.{entry, tellings, RunState, held_after, passed, output_of, InTurn, AllInTurn, entries}
use Rattle.script.proofs.Fronts.{drop-lent}

-- ---- a call that is no query hands out nothing

unless-refused : (b : Bool) (number detail : ℕ) (ps : Plain) (r : Reply) → r.given ≡ [] → (cond b (refuse number detail ps) r).given ≡ []
unfolding refuse
unless-refused true number detail ps r e = refl
unless-refused false number detail ps r e = e

applied-none : (bytes i : ℕ) (cs : List PlainChange) (ss : List PlainSpot) (ps : Plain) → (applied bytes i cs ss ps).given ≡ []
unfolding accept
applied-none bytes i [] ss ps = refl
applied-none bytes i (c ∷ cs) ss ps =
    unless-refused (turned_down bytes c ss) 4 i ps (applied bytes (suc i) cs (changed_by c ss) ps) (applied-none bytes (suc i) cs (changed_by c ss) ps)

own-none : (l : Lengths) (c : Call) (ps : Plain) → is_query c ≡ false → (own_reply l c ps).given ≡ []
unfolding own_reply accept
own-none l format ps q = refl
own-none l (add place rank track) ps q = unless-refused (full l.table place rank ps.spots) 4 0 ps _ refl
own-none l (withdraw place rank) ps q = refl
own-none l (report x1 x2 y) ps q = absurd (true≢false q)
own-none l (top x1 x2 k) ps q = absurd (true≢false q)
own-none l count ps q = refl
own-none l check ps q = refl
own-none l rebuild ps q = refl
own-none l (report_many rs) ps q = absurd (true≢false q)
own-none l (top_within x1 x2 k a) ps q = absurd (true≢false q)
own-none l (apply m) ps q = applied-none l.table 0 (said_in (plain_message m)) ps.spots ps

hands_none : (l : Lengths) (c : Call) (ps : Plain) → is_query c ≡ false → (reply l c ps).given ≡ []
unfolding reply
hands_none l c ps q =
    unless-refused (bad_table l.table) 1 0 ps _
    (unless-refused (bad_lent l (kind c)) 2 0 ps _
    (unless-refused (too_many (kind c)) 6 0 ps _
    (unless-refused (no_message c) 8 0 ps _
    (unless-refused (changes_outside c) 9 (position_outside (said_in (changes_in c))) ps (own_reply l c ps) (own-none l c ps q)))))

-- a query stays one when the model is told what hangs on the arrangement
told-query : (c : Call) (n : ℕ) → is_query (told_call c n) ≡ is_query c
told-query format n = refl
told-query (add place rank track) n = refl
told-query (withdraw place rank) n = refl
told-query (report x1 x2 y) n = refl
told-query (top x1 x2 k) n = refl
told-query count n = refl
told-query check n = refl
told-query rebuild n = refl
told-query (report_many rs) n = refl
told-query (top_within x1 x2 k a) n = refl
told-query (apply m) n = refl

output-stays : (r : Reply) (out : List ℕ) → r.given ≡ [] → output_after r out ≡ out
unfolding output_after
output-stays r out e = ap (λ (g : List PlainSpot). as_bytes g ++ drop (12 * length g) out) e

-- ---- each event of a run

-- what agrees after the first event
later : (t : List ℕ) (ps : Plain) (e : Event) (es : List Event) → AllAgreed t ps (e ∷ es) → AllAgreed e.table' (model_after t ps e) es
later t ps e es g = g.7

module _ (l : Lengths) where
  pub history-of : (h : RunState) (cs : List Step) (es : List Event) → AllInTurn l h cs es → History h.table es
  history-of h [] [] a = tt
  history-of h [] (e ∷ es) a = absurd a
  history-of h (c ∷ cs) [] a = absurd a
  history-of h (c ∷ cs) (e ∷ es) a = (a.0.called.fit, a.0.called.met, history-of (passed l.output h e) cs es a.1)

  -- the last table is sound
  pub ends-sound : (h : RunState) (ps : Plain) (es : List Event) → sound h.table ≡ true → AllAgreed h.table ps es
      → sound (held_after l.output h es).table ≡ true
  ends-sound h ps [] s g = s
  ends-sound h ps (e ∷ es) s g = ends-sound (passed l.output h e) (model_after h.table ps e) es g.0.stays_sound (later h.table ps e es g)

  module _ (h : RunState) (ps : Plain) (c : Step) (e : Event) (i : InTurn l h c e) where
    abbrev certain : ℕ
    certain = certain_in e.call h.table

    -- the model's reply to its step
    abbrev told-reply : Reply
    told-reply = reply (lent_to c l) (told_call c.call certain) ps

    reply-is : reply_in e.call h.table ps e ≡ told-reply
    reply-is = ap₂ (λ (k : Lengths) (x : Call). reply k (told_call x certain) ps) i.lent i.call

    -- the output of any call is left as the model says
    output-left : (is_query e.call ≡ true → e.output' ≡ output_after (reply_in e.call h.table ps e) e.output)
        → e.output' ≡ output_after (reply_in e.call h.table ps e) e.output
    output-left p = go (is_query e.call) refl
      where
        go : (b : Bool) → is_query e.call ≡ b → e.output' ≡ output_after (reply_in e.call h.table ps e) e.output
        go true q = p q
        go false q =
            i.called.output_kept q
            ∙ sym (output-stays (reply_in e.call h.table ps e) e.output (hands_none _ (told_call e.call certain) ps (told-query e.call certain ∙ q)))

    -- the model's entry for its step
    due : List ℕ
    due =
        four_bytes told-reply.answer.number ++ four_bytes told-reply.answer.detail ++ four_bytes (complement e.ceiling') ++
        (output_after told-reply (take c.output (output_of l.output h)) ++ drop c.output (output_of l.output h))

    -- the bytes behind what was lent
    rest-is : drop (length e.output) (output_of l.output h) ≡ drop c.output (output_of l.output h)
    rest-is = ap (λ (x : List ℕ). drop (length x) (output_of l.output h)) i.output ∙ drop-lent c.output (output_of l.output h)

    entry-due : e.answer ≡ (reply_in e.call h.table ps e).answer → e.output' ≡ output_after (reply_in e.call h.table ps e) e.output
        → entry (output_of l.output h) e ≡ due
    unfolding due
    entry-due p o =
        ap₂ (λ (a : Answer) (x : List ℕ). four_bytes a.number ++ four_bytes a.detail ++ four_bytes (complement e.ceiling') ++ x)
        (p ∙ ap (λ (r : Reply). r.answer) reply-is)
        (ap₂ (λ (x y : List ℕ). x ++ y) (o ∙ ap₂ (λ (r : Reply) (x : List ℕ). output_after r x) reply-is i.output) rest-is)

  -- a run whose events all agree with the model writes the model's log
  pub as-model : (h : RunState) (ps : Plain) (cs : List Step) (es : List Event) → AllInTurn l h cs es → AllAgreed h.table ps es
      → entries l.output h es ++ (held_after l.output h es).log ≡ log_after l cs (tellings h.table es) ps h.log
  unfolding due
  as-model h ps [] [] a g = refl
  as-model h ps [] (e ∷ es) a g = absurd a
  as-model h ps (c ∷ cs) [] a g = absurd a
  as-model h ps (c ∷ cs) (e ∷ es) a g =
      let room : ℕ = 12 + l.output in
      let rest : RunState = passed l.output h e in
      append_assoc (entry (output_of l.output h) e) (entries l.output rest es) (held_after l.output rest es).log
      ∙ ap₂ (λ (x y : List ℕ). x ++ y) (entry-due h ps c e a.0 g.0.answer (output-left h ps c e a.0 g.0.output))
      (as-model rest (model_after h.table ps e) cs es a.1 (later h.table ps e es g)
      ∙ ap (λ (r : Reply). log_after l cs (tellings e.table' es) r.next (drop room h.log)) (reply-is h ps c e a.0))
